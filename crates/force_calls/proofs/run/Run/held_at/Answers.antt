use Rattle.std.proofs.Common.{◌≡◌, ℕ, Bool, Some, sym, ◌∙◌, ap, slice_get}
use Rattle.std.proofs.lemmas.Option.{same_Some, none-some}
use Rattle.frame_pool.specs.Frames.{Frame, Has, IsWithin}
use Rattle.force_calls.proofs.RunLemmas.{held_frame, kept_within, revealed_within}
use Rattle.force_calls.proofs.run.Run.held_at.Given as given
use Rattle.force_calls.proofs.run.Run.held_at.Goals as goal
use Rattle.force_calls.proofs.run.Run.held_at.Goals.{After-held_in}

pub returns-in_err-slot-clause-all : goal.returns-in_err-slot-clause-all
returns-in_err-slot-clause-all g c = λ i f has within look. absurd (none-some i (sym (c.in_err-slot.was) ∙ c.slot_at.ensures.all i f has within look))

-- the slot that was looked at is that of the frame
same_slot : (g : given.Over) (c : After-held_in g) (i : ℕ) (f : Frame) → c.slot_at.result ≡ Some i → c.in_ok-slot.slot ≡ i
same_slot g c i f is = same_Some c.in_ok-slot.slot i (sym (c.in_ok-slot.was) ∙ is)

-- what was revealed of it
revealed : (g : given.Over) (c : After-held_in g) (i : ℕ) (f : Frame) → Has c.args.frames.now i f
    → IsWithin c.args.self.now.id c.args.self.now.first c.args.self.now.pages f.home → c.slot_at.result ≡ Some i → c.held_in.result ≡ Some f.dirty
revealed g c i f has within is =
    c.held_in.ensures ∙ revealed_within c.args.self.now.id c.args.self.now.first c.args.self.now.pages c.args.frames.now c.in_ok-slot.slot f
    (record { is = ap (slice_get c.args.frames.now) (same_slot g c i f is) ∙ has.is }) within

pub returns-in_err-dirty-clause-all : goal.returns-in_err-dirty-clause-all
returns-in_err-dirty-clause-all g c = λ i f has within look.
    let after = (goal.at.returns-in_err-dirty-clause-all g c).After-held_in in
    absurd (none-some f.dirty (sym (c.in_err-dirty.was) ∙ revealed g after i f has within (c.slot_at.ensures.all i f has within look)))

pub returns-clause-held : goal.returns-clause-held
returns-clause-held g c =
    let run = c.args.self.now in
    let f = held_frame run.id run.first run.pages c.args.frames.now c.in_ok-slot.slot c.in_ok-dirty.dirty c.in_ok-slot.ensures.below (sym (c.in_ok-dirty.was) ∙ c.held_in.ensures) in
    (f.0, f.1, f.2, kept_within run.id run.first run.pages f.0 f.3)

pub returns-clause-all : goal.returns-clause-all
returns-clause-all g c = λ i f has within look.
    let after = (goal.at.returns-clause-all g c).After-held_in in
    let is = c.slot_at.ensures.all i f has within look in
    let dirty = same_Some c.in_ok-dirty.dirty f.dirty (sym (c.in_ok-dirty.was) ∙ revealed g after i f has within is) in
    ap (λ (n : ℕ). Some (n, c.in_ok-dirty.dirty)) (same_slot g after i f is) ∙ ap (λ (b : Bool). Some (i, b)) dirty
