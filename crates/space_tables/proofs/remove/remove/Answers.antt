use Rattle.std.proofs.Common.{◌≡◌, ℕ, Some, None, inl, inr, refl, sym, ◌∙◌, ap, subst, arith}
use Rattle.std.specs.Prelude.{slice_get}
use Rattle.std.proofs.lemmas.Option.{same_Some}
use Rattle.flat_machine.specs.declared.space.Space.{Space}
use Rattle.flat_machine.specs.Refusal.{first_of}
use Rattle.projection_laws.specs.Edits.{inside, rejoined}
use Rattle.projection_laws.specs.Spaces.{AreSpaces}
use Rattle.projection_laws.specs.Tests.{no_space, remove_row}
use Rattle.space_tables.specs.Form.{BreaksProjection, BreaksLookUp, BreaksFor, first_in_slot, BreaksSlot}
use Rattle.space_tables.specs.Stored.{RevealSpaces}
use Rattle.space_tables.proofs.ReadBack.{held}
use Rattle.space_tables.proofs.Right.{right_reads}
use Rattle.space_tables.proofs.Passes.{still_hold}
use Rattle.space_tables.proofs.Asks.{still_reveal, from_memory, memory_alone, space_is}
use Rattle.space_tables.proofs.Sets.{handle_is}
use Rattle.space_tables.proofs.Pieces.{malformed_as}
use Rattle.space_tables.proofs.Removes.{may_be, removed_at, first_inside, refuses_and}
use Rattle.space_tables.proofs.Outs.{handed, cause_on, no_page}
use Rattle.space_tables.proofs.remove.remove.Goals as goal

pub returns-in_err-space-clause-answer : goal.returns-in_err-space-clause-answer
returns-in_err-space-clause-answer g c = λ ss t.
    let now = still_reveal g.M.FlatMem.reveals c.args.mem.now c.removable.new.mem c.removable.ensures.unchanged c.args.count ss t in
    let k = refuses_and (RevealSpaces (g.M.FlatMem.reveals c.removable.new.mem) c.args.count ss) now (first_of (remove_row ss c.args.handle)) _ (c.in_err-space.ensures.answer ss t) in handed _ _ _ _ c.from_residual.ensures.1 k

pub returns-in_err-parent-clause-answer : goal.returns-in_err-parent-clause-answer
returns-in_err-parent-clause-answer g c = λ ss t.
    let now = still_reveal g.M.FlatMem.reveals c.args.mem.now c.removable.new.mem c.removable.ensures.unchanged c.args.count ss t in
    let x = c.in_ok-space.space in
    let m = c.in_ok-space.ensures.answer ss t in
    let may = may_be ss c.args.handle x (subst AreSpaces t.spaces t.right.spaces) m.0 m.1 in
    let e = memory_alone (no_space ss x.parent) _ (space_is ss x.parent may.0 may.1.parent) (c.in_err-parent.ensures.answer c.args.count ss now) in
    let k = from_memory (RevealSpaces (g.M.FlatMem.reveals c.existing.new.mem) c.args.count ss) (first_of (remove_row ss c.args.handle)) _ e in handed _ _ _ _ c.from_residual-in_err-parent.ensures.1 k

pub returns-in_err-index-clause-answer : goal.returns-in_err-index-clause-answer
returns-in_err-index-clause-answer g c = λ ss t.
    let hold1 = still_hold g.M.FlatMem.reveals c.args.mem.now c.removable.new.mem c.removable.ensures.unchanged t.slots t.xs t.hold in
    let hold2 = still_hold g.M.FlatMem.reveals c.removable.new.mem c.existing.new.mem c.existing.ensures.unchanged t.slots t.xs hold1 in
    let inside_root = first_inside c.in_ok-space.space c.in_ok-space.ensures.form.0 in
    let e = c.in_err-index.ensures.found t.slots t.xs hold2 t.right t.counted inside_root in
    let k = from_memory (RevealSpaces (g.M.FlatMem.reveals c.find.new.mem) c.args.count ss) (first_of (remove_row ss c.args.handle)) _ e in handed _ _ _ _ c.from_residual-in_err-index.ensures.1 k

pub returns-in_err-count-clause-answer : goal.returns-in_err-count-clause-answer
returns-in_err-count-clause-answer g c = λ ss t.
    let hold1 = still_hold g.M.FlatMem.reveals c.args.mem.now c.removable.new.mem c.removable.ensures.unchanged t.slots t.xs t.hold in
    let hold2 = still_hold g.M.FlatMem.reveals c.removable.new.mem c.existing.new.mem c.existing.ensures.unchanged t.slots t.xs hold1 in
    let hold3 = still_hold g.M.FlatMem.reveals c.existing.new.mem c.find.new.mem c.find.ensures.looks.unchanged t.slots t.xs hold2 in
    let e = c.in_err-count.ensures.rejoined t.slots t.xs hold3 t.counted (right_reads t.slots t.xs t.right).intervals in
    let k = from_memory (RevealSpaces (g.M.FlatMem.reveals c.rejoin.new.mem) c.args.count ss) (first_of (remove_row ss c.args.handle)) _ e in handed _ _ _ _ c.from_residual-in_err-count.ensures.1 k

pub returns-clause-answer : goal.returns-clause-answer
returns-clause-answer g c = λ ss t.
    let now = still_reveal g.M.FlatMem.reveals c.args.mem.now c.removable.new.mem c.removable.ensures.unchanged c.args.count ss t in
    let hold1 = still_hold g.M.FlatMem.reveals c.args.mem.now c.removable.new.mem c.removable.ensures.unchanged t.slots t.xs t.hold in
    let hold2 = still_hold g.M.FlatMem.reveals c.removable.new.mem c.existing.new.mem c.existing.ensures.unchanged t.slots t.xs hold1 in
    let hold3 = still_hold g.M.FlatMem.reveals c.existing.new.mem c.find.new.mem c.find.ensures.looks.unchanged t.slots t.xs hold2 in
    let x = c.in_ok-space.space in
    let p = c.in_ok-parent.parent in
    let k = c.in_ok-index.index in
    let i = c.in_ok-index.interval in
    let m = c.in_ok-space.ensures.answer ss t in
    let may = may_be ss c.args.handle x (subst AreSpaces t.spaces t.right.spaces) m.0 m.1 in
    let above : p ≡ may.0 = same_Some p may.0 (sym (c.in_ok-parent.ensures.answer c.args.count ss now).1 ∙ may.1.parent) in
    let at : slice_get t.xs k ≡ Some i = c.in_ok-index.ensures.found t.slots t.xs hold2 t.right t.counted (first_inside x c.in_ok-space.ensures.form.0) in
    let holds = held i x.first c.in_ok-index.ensures.form.2 in
    let new : c.inside.result ≡ inside may.0 i = c.inside.ensures ∙ ap (λ (q : Space). inside q i) above in
    let joined = rw new at (c.in_ok-count.ensures.rejoined t.slots t.xs hold3 t.counted (right_reads t.slots t.xs t.right).intervals) in
    let hold = c.in_ok-put_slot.ensures.written t.slots (rejoined t.xs k (inside may.0 i)) None joined.0 refl in
    (m.0, removed_at (g.M.FlatMem.reveals c.args.mem.now) (g.M.FlatMem.reveals c.put_slot.new.mem) c.args.count c.in_ok-count.count ss t x may.0 k c.args.handle i may.1 (handle_is ss c.args.handle x m.1) at holds.0 holds.1 hold joined.1)

pub returns-in_err-count-clause-malformed : goal.returns-in_err-count-clause-malformed
returns-in_err-count-clause-malformed g c = λ b revealed.
    let later = c.find.ensures.looks.unchanged b (c.existing.ensures.unchanged b (c.removable.ensures.unchanged b revealed)) in
    let m = malformed_as (BreaksProjection c.args.count b) (BreaksFor (first_in_slot b c.args.handle) c.args.count b) (λ page h. inr (inl h)) _ (c.in_err-count.ensures.malformed b later) in handed _ _ _ _ c.from_residual-in_err-count.ensures.1 m

pub returns-in_err-index-clause-malformed : goal.returns-in_err-index-clause-malformed
returns-in_err-index-clause-malformed g c = λ b revealed.
    let x = c.in_ok-space.space in
    let first : x.first ≡ first_in_slot b c.args.handle = c.in_ok-space.ensures.read b revealed in
    let later = c.existing.ensures.unchanged b (c.removable.ensures.unchanged b revealed) in
    let m = malformed_as (BreaksLookUp x.first c.args.count b) (BreaksFor (first_in_slot b c.args.handle) c.args.count b) (λ page h. inr (subst (λ (n : ℕ). BreaksLookUp n c.args.count b page) first h)) _ (c.in_err-index.ensures.malformed b later) in
    handed _ _ _ _ c.from_residual-in_err-index.ensures.1 m

pub returns-in_err-space-clause-kept : goal.returns-in_err-space-clause-kept
returns-in_err-space-clause-kept g c = c.removable.ensures.kept

pub returns-in_err-space-clause-cause : goal.returns-in_err-space-clause-cause
returns-in_err-space-clause-cause g c = handed _ _ _ _ c.from_residual.ensures.1 c.in_err-space.ensures.cause

pub returns-in_err-space-clause-cost : goal.returns-in_err-space-clause-cost
returns-in_err-space-clause-cost g c = omega (arith, c.removable.ensures.cost)

pub returns-in_err-space-clause-form : goal.returns-in_err-space-clause-form
returns-in_err-space-clause-form g c = handed _ _ _ _ c.from_residual.ensures.1 tt

pub returns-in_err-space-clause-malformed : goal.returns-in_err-space-clause-malformed
returns-in_err-space-clause-malformed g c = λ b h. handed _ _ _ _ c.from_residual.ensures.1 (c.in_err-space.ensures.malformed b h)

pub returns-in_err-parent-clause-kept : goal.returns-in_err-parent-clause-kept
returns-in_err-parent-clause-kept g c = g.met.M.FlatMem.beside_through _ _ _ c.removable.ensures.kept c.existing.ensures.kept

pub returns-in_err-parent-clause-cause : goal.returns-in_err-parent-clause-cause
returns-in_err-parent-clause-cause g c = handed _ _ _ _ c.from_residual-in_err-parent.ensures.1 (cause_on g.M.FlatMem g.met.M.FlatMem.beside_itself g.met.M.FlatMem.accounted_wider _ _ _ c.removable.ensures.kept c.existing.ensures.kept _ c.in_err-parent.ensures.cause)

pub returns-in_err-parent-clause-cost : goal.returns-in_err-parent-clause-cost
returns-in_err-parent-clause-cost g c = omega (arith, c.removable.ensures.cost, c.existing.ensures.cost)

pub returns-in_err-parent-clause-form : goal.returns-in_err-parent-clause-form
returns-in_err-parent-clause-form g c = handed _ _ _ _ c.from_residual-in_err-parent.ensures.1 tt

pub returns-in_err-parent-clause-malformed : goal.returns-in_err-parent-clause-malformed
returns-in_err-parent-clause-malformed g c = λ b h. handed _ _ _ _ c.from_residual-in_err-parent.ensures.1 (malformed_as (λ page. BreaksSlot b page c.in_ok-space.space.parent) (BreaksFor (first_in_slot b c.args.handle) c.args.count b) (λ page k. inl (c.in_ok-space.space.parent, k)) _ (c.in_err-parent.ensures.malformed b (c.removable.ensures.unchanged b h)))

pub returns-in_err-index-clause-kept : goal.returns-in_err-index-clause-kept
returns-in_err-index-clause-kept g c = g.met.M.FlatMem.beside_through _ _ _ (g.met.M.FlatMem.beside_through _ _ _ c.removable.ensures.kept c.existing.ensures.kept) c.find.ensures.looks.kept

pub returns-in_err-index-clause-cause : goal.returns-in_err-index-clause-cause
returns-in_err-index-clause-cause g c = handed _ _ _ _ c.from_residual-in_err-index.ensures.1 (cause_on g.M.FlatMem g.met.M.FlatMem.beside_itself g.met.M.FlatMem.accounted_wider _ _ _ (g.met.M.FlatMem.beside_through _ _ _ c.removable.ensures.kept c.existing.ensures.kept) c.find.ensures.looks.kept _ c.in_err-index.ensures.looks.cause)

pub returns-in_err-index-clause-cost : goal.returns-in_err-index-clause-cost
returns-in_err-index-clause-cost g c = omega (arith, c.removable.ensures.cost, c.existing.ensures.cost, c.find.ensures.looks.cost)

pub returns-in_err-index-clause-form : goal.returns-in_err-index-clause-form
returns-in_err-index-clause-form g c = handed _ _ _ _ c.from_residual-in_err-index.ensures.1 tt

pub returns-in_err-count-clause-kept : goal.returns-in_err-count-clause-kept
returns-in_err-count-clause-kept g c = g.met.M.FlatMem.beside_through _ _ _ (g.met.M.FlatMem.beside_through _ _ _ (g.met.M.FlatMem.beside_through _ _ _ c.removable.ensures.kept c.existing.ensures.kept) c.find.ensures.looks.kept) c.rejoin.ensures.kept

pub returns-in_err-count-clause-cause : goal.returns-in_err-count-clause-cause
returns-in_err-count-clause-cause g c = handed _ _ _ _ c.from_residual-in_err-count.ensures.1 (cause_on g.M.FlatMem g.met.M.FlatMem.beside_itself g.met.M.FlatMem.accounted_wider _ _ _ (g.met.M.FlatMem.beside_through _ _ _ (g.met.M.FlatMem.beside_through _ _ _ c.removable.ensures.kept c.existing.ensures.kept) c.find.ensures.looks.kept) c.rejoin.ensures.kept _ c.in_err-count.ensures.cause)

pub returns-in_err-count-clause-cost : goal.returns-in_err-count-clause-cost
returns-in_err-count-clause-cost g c = omega (arith, c.removable.ensures.cost, c.existing.ensures.cost, c.find.ensures.looks.cost, c.rejoin.ensures.cost)

pub returns-in_err-count-clause-form : goal.returns-in_err-count-clause-form
returns-in_err-count-clause-form g c = handed _ _ _ _ c.from_residual-in_err-count.ensures.1 tt

pub returns-in_err-put_slot-clause-kept : goal.returns-in_err-put_slot-clause-kept
returns-in_err-put_slot-clause-kept g c = g.met.M.FlatMem.beside_through _ _ _ (g.met.M.FlatMem.beside_through _ _ _ (g.met.M.FlatMem.beside_through _ _ _ (g.met.M.FlatMem.beside_through _ _ _ c.removable.ensures.kept c.existing.ensures.kept) c.find.ensures.looks.kept) c.rejoin.ensures.kept) c.put_slot.ensures.kept

pub returns-in_err-put_slot-clause-cause : goal.returns-in_err-put_slot-clause-cause
returns-in_err-put_slot-clause-cause g c = handed _ _ _ _ c.from_residual-in_err-put_slot.ensures.1 (cause_on g.M.FlatMem g.met.M.FlatMem.beside_itself g.met.M.FlatMem.accounted_wider _ _ _ (g.met.M.FlatMem.beside_through _ _ _ (g.met.M.FlatMem.beside_through _ _ _ (g.met.M.FlatMem.beside_through _ _ _ c.removable.ensures.kept c.existing.ensures.kept) c.find.ensures.looks.kept) c.rejoin.ensures.kept) c.put_slot.ensures.kept _ c.in_err-put_slot.ensures.cause)

pub returns-in_err-put_slot-clause-cost : goal.returns-in_err-put_slot-clause-cost
returns-in_err-put_slot-clause-cost g c = omega (arith, c.removable.ensures.cost, c.existing.ensures.cost, c.find.ensures.looks.cost, c.rejoin.ensures.cost, c.put_slot.ensures.cost)

pub returns-in_err-put_slot-clause-form : goal.returns-in_err-put_slot-clause-form
returns-in_err-put_slot-clause-form g c = handed _ _ _ _ c.from_residual-in_err-put_slot.ensures.1 tt

pub returns-in_err-put_slot-clause-malformed : goal.returns-in_err-put_slot-clause-malformed
returns-in_err-put_slot-clause-malformed g c = λ b h. handed _ _ _ _ c.from_residual-in_err-put_slot.ensures.1 (no_page (BreaksFor (first_in_slot b c.args.handle) c.args.count b) _ c.in_err-put_slot.ensures.memory)

pub returns-in_err-put_slot-clause-answer : goal.returns-in_err-put_slot-clause-answer
returns-in_err-put_slot-clause-answer g c = λ ss t. handed _ _ _ _ c.from_residual-in_err-put_slot.ensures.1 (from_memory (RevealSpaces (g.M.FlatMem.reveals c.put_slot.new.mem) c.args.count ss) (first_of (remove_row ss c.args.handle)) _ c.in_err-put_slot.ensures.memory)

pub returns-clause-kept : goal.returns-clause-kept
returns-clause-kept g c = g.met.M.FlatMem.beside_through _ _ _ (g.met.M.FlatMem.beside_through _ _ _ (g.met.M.FlatMem.beside_through _ _ _ (g.met.M.FlatMem.beside_through _ _ _ c.removable.ensures.kept c.existing.ensures.kept) c.find.ensures.looks.kept) c.rejoin.ensures.kept) c.put_slot.ensures.kept

pub returns-clause-cause : goal.returns-clause-cause
returns-clause-cause g c = tt

pub returns-clause-cost : goal.returns-clause-cost
returns-clause-cost g c = omega (arith, c.removable.ensures.cost, c.existing.ensures.cost, c.find.ensures.looks.cost, c.rejoin.ensures.cost, c.put_slot.ensures.cost)

pub returns-clause-malformed : goal.returns-clause-malformed
returns-clause-malformed g c = λ b h. tt

pub returns-clause-form : goal.returns-clause-form
returns-clause-form g c = (c.in_ok-count.ensures.count.0, omega (arith, c.in_ok-count.ensures.count.1, c.requires.few))
