use Rattle.std.proofs.Common.{◌≡◌, ◌∙◌, ap, rules, Err}
use Rattle.frame_pool.specs.declared.home.Home.{Home}
use Rattle.frame_pool.specs.FrameLaws.{not_victim}
use Rattle.swapper_kernel.specs.Homes.{no_home}
use Rattle.swapper_kernel.specs.GoesLaws.{swaps_then, swaps_stands, went_itself}
use Rattle.swapper_kernel.specs.CourseLaws.{steps_then, steps_wider}
use Rattle.swapper_kernel.specs.HaltLaws.{brings_same, brings_then, halts_later, halts_wider}
use Rattle.swapper_kernel.proofs.swapper.Swapper.fetch.Goals as goal

pub returns-in_err-write_out-clause-sound : goal.returns-in_err-write_out-clause-sound
returns-in_err-write_out-clause-sound g c = λ m h named.
    let same : c.from_residual.result ≡ Err c.in_err-write_out.field-0.0 = search rules in
    rw same (c.in_err-write_out.ensures.sound m (rw c.victim-slot.ensures.same h))

pub returns-in_err-write_out-clause-cause : goal.returns-in_err-write_out-clause-cause
returns-in_err-write_out-clause-cause g c =
    let same : c.from_residual.result ≡ Err c.in_err-write_out.field-0.0 = search rules in
    rw (same, ← c.victim-slot.ensures.same) (halts_wider no_home (λ (h : Home). h ≡ c.args.home) (g.D.Disk.state c.args.self.now.disk) (g.D.Disk.state c.write_out.new.self.disk) _ (λ h no. absurd no) c.in_err-write_out.field-0.0 c.in_err-write_out.ensures.cause)

pub returns-in_err-write_out-clause-stays : goal.returns-in_err-write_out-clause-stays
returns-in_err-write_out-clause-stays g c = λ i f has within.
    c.write_out.ensures.keeps.others i f (not_victim _ c.victim-slot.result _ _ _ c.victim-slot.ensures.outside i f (rw c.victim-slot.ensures.same has) within) (rw c.victim-slot.ensures.same has)

pub load-requires-clause-nowhere : goal.load-requires-clause-nowhere
load-requires-clause-nowhere g c = λ i f has ids pages.
    let old = c.write_out.ensures.keeps.frames i f has in
    c.find.ensures.nowhere.0 c.in_default.is i old.0 (rw (← c.victim-slot.ensures.same) old.1) (ap (λ (x : Home). x.id) old.2 ∙ ids) (ap (λ (x : Home). x.page) old.2 ∙ pages)

pub returns-in_err-load-clause-sound : goal.returns-in_err-load-clause-sound
returns-in_err-load-clause-sound g c = λ m h named.
    let same : c.from_residual-in_err-load.result ≡ Err c.in_err-load.field-0.0 = search rules in
    rw same (c.in_err-load.ensures.sound m (swaps_stands c.write_out.ensures.moves.swaps m (rw c.victim-slot.ensures.same h)) named)

pub returns-in_err-load-clause-cause : goal.returns-in_err-load-clause-cause
returns-in_err-load-clause-cause g c =
    let same : c.from_residual-in_err-load.result ≡ Err c.in_err-load.field-0.0 = search rules in
    let out = c.write_out.ensures.moves.swaps.makes in
    let later = halts_later (λ (h : Home). h ≡ c.args.home) (λ (h : Home). h ≡ c.args.home) (λ h is. is) out.went out.wrote (brings_same (λ (h : Home). h ≡ c.args.home) c.write_out.ensures.keeps.frames)
    (went_itself (g.D.Disk.state c.load.new.self.disk)) c.in_err-load.field-0.0 c.in_err-load.ensures.cause in
    rw (same, ← c.victim-slot.ensures.same) later

pub returns-in_err-load-clause-stays : goal.returns-in_err-load-clause-stays
returns-in_err-load-clause-stays g c = λ i f has within.
    let apart = not_victim _ c.victim-slot.result _ _ _ c.victim-slot.ensures.outside i f (rw c.victim-slot.ensures.same has) within in
    c.load.ensures.others i f apart (c.write_out.ensures.keeps.others i f apart (rw c.victim-slot.ensures.same has))

pub returns-clause-stays : goal.returns-clause-stays
returns-clause-stays g c = λ i f has within.
    let apart = not_victim _ c.victim-slot.result _ _ _ c.victim-slot.ensures.outside i f (rw c.victim-slot.ensures.same has) within in
    c.load.ensures.others i f apart (c.write_out.ensures.keeps.others i f apart (rw c.victim-slot.ensures.same has))

pub returns-in_err-write_out-clause-idle : goal.returns-in_err-write_out-clause-idle
returns-in_err-write_out-clause-idle g c = λ i has. absurd (c.find.ensures.nowhere.0 c.in_default.is i has.0 has.1 has.2.0 has.2.1)

pub returns-in_err-load-clause-idle : goal.returns-in_err-load-clause-idle
returns-in_err-load-clause-idle g c = λ i has. absurd (c.find.ensures.nowhere.0 c.in_default.is i has.0 has.1 has.2.0 has.2.1)

pub returns-clause-idle : goal.returns-clause-idle
returns-clause-idle g c = λ i has. absurd (c.find.ensures.nowhere.0 c.in_default.is i has.0 has.1 has.2.0 has.2.1)

pub returns-in_err-write_out-clause-moves : goal.returns-in_err-write_out-clause-moves
returns-in_err-write_out-clause-moves g c = record {
  swaps = rw (← c.victim-slot.ensures.same) c.write_out.ensures.moves.swaps;
  steps = rw (← c.victim-slot.ensures.same) (steps_wider (λ (h : Home). h ≡ c.args.home) no_home (λ h no. absurd no) (λ h no. no) c.write_out.ensures.moves.steps);
  brings = rw (← c.victim-slot.ensures.same) (brings_same (λ (h : Home). h ≡ c.args.home) c.write_out.ensures.keeps.frames);
}

pub returns-in_err-load-clause-moves : goal.returns-in_err-load-clause-moves
returns-in_err-load-clause-moves g c = record {
  swaps = rw (← c.victim-slot.ensures.same) (swaps_then c.write_out.ensures.moves.swaps c.load.ensures.moves.swaps);
  steps = rw (← c.victim-slot.ensures.same) (steps_then (steps_wider (λ (h : Home). h ≡ c.args.home) no_home (λ h no. absurd no) (λ h no. no) c.write_out.ensures.moves.steps) c.load.ensures.moves.steps);
  brings = rw (← c.victim-slot.ensures.same) (brings_then (brings_same (λ (h : Home). h ≡ c.args.home) c.write_out.ensures.keeps.frames) c.load.ensures.moves.brings);
}

pub returns-clause-moves : goal.returns-clause-moves
returns-clause-moves g c = record {
  swaps = rw (← c.victim-slot.ensures.same) (swaps_then c.write_out.ensures.moves.swaps c.load.ensures.moves.swaps);
  steps = rw (← c.victim-slot.ensures.same) (steps_then (steps_wider (λ (h : Home). h ≡ c.args.home) no_home (λ h no. absurd no) (λ h no. no) c.write_out.ensures.moves.steps) c.load.ensures.moves.steps);
  brings = rw (← c.victim-slot.ensures.same) (brings_then (brings_same (λ (h : Home). h ≡ c.args.home) c.write_out.ensures.keeps.frames) c.load.ensures.moves.brings);
}

pub load-requires-clause-fillable : goal.load-requires-clause-fillable
load-requires-clause-fillable g c = record {
  clean = search rules;
  full = λ f has j empty.
      let old = c.write_out.ensures.keeps.frames c.victim-slot.result f has in
      c.victim-slot.ensures.empty_first old.0 old.1 j (c.write_out.ensures.keeps.empties j empty);
}
