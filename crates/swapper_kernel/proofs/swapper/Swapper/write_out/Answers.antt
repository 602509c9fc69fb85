use Rattle.std.proofs.Common.{◌∙◌, ap, length}
use Rattle.frame_pool.specs.Frames.{Slots, Frame}
use Rattle.swapper_kernel.specs.Homes.{IsPlaced, no_home}
use Rattle.swapper_kernel.specs.CourseLaws.{steps_none}
use Rattle.swapper_kernel.specs.HaltLaws.{brings_itself, brings_same}
use Rattle.frame_pool.specs.FrameLaws.{each_filled, length_of_set}
use Rattle.swapper_kernel.proofs.OutLemmas.{swaps_ok, swaps_failed, steps_ok, steps_failed, never_other, clean_now, others_now, homes_now, empties_now}
use Rattle.swapper_kernel.proofs.PlacedLemmas.{inside}
use Rattle.swapper_kernel.proofs.StepLemmas.{step_laws}
use Rattle.swapper_kernel.proofs.swapper.Swapper.write_out.Goals as goal

pub write_data-requires : goal.write_data-requires
write_data-requires g c =
    let self = c.args.self.now in
    let f = c.in-Some.ensures.filled in
    rw (c.requires.size, ← f.2) (inside self.layout f.0.home self.accepted (self.placed c.args.slot f.0 f.1)).1

pub invariant_of-self-in-Ok : goal.invariant_of-self-in-Ok
invariant_of-self-in-Ok g c =
    let self = c.args.self.now in
    let f = c.in-Some.ensures.filled in
    let is = c.mark_clean.ensures.clean f.0 f.1 in
    record {
      accepted = self.accepted;
      placed = each_filled (λ (x : Frame). IsPlaced self.layout x.home) self.pool _ c.args.slot _ c.requires.below is self.placed (self.placed c.args.slot f.0 f.1);
      least = rw (ap (λ (l : Slots). length l) is ∙ length_of_set self.pool c.args.slot _) self.least;
    }

pub returns-in-Ok-clause-clean : goal.returns-in-Ok-clause-clean
returns-in-Ok-clause-clean g c =
    let f = c.in-Some.ensures.filled in
    clean_now c.args.self.now.pool _ c.args.slot f.0 f.1 (c.mark_clean.ensures.clean f.0 f.1)

pub returns-in-Err-Wrong-clause-sound : goal.returns-in-Err-Wrong-clause-sound
returns-in-Err-Wrong-clause-sound g c = λ m h.
    let f = c.in-Some.ensures.filled in
    let wrong = (rw c.in-Err-Wrong.field-0-is at c.in-Err-Wrong.ensures).wrong in
    absurd (never_other c.args.self.now.pool c.args.slot f.0 c.in-Some.home m c.in-Err-Wrong.found f.1 f.2 h wrong.0 wrong.1)

pub returns-in-Ok-clause-moves : goal.returns-in-Ok-clause-moves
returns-in-Ok-clause-moves g c = record {
  swaps =
      let self = c.args.self.now in
      let f = c.in-Some.ensures.filled in
      rw (c.mark_clean.ensures.clean f.0 f.1) (swaps_ok self.pool c.args.slot c.in-Some.home c.bytes.result.now f.0 f.1 f.2 (f.3 ∙ c.if-not-dirty.false) (c.bytes.ensures.bytes f.0 f.1) c.bytes.ensures.page
      (rw (← f.2) (inside self.layout f.0.home self.accepted (self.placed c.args.slot f.0 f.1)).0) c.write_data.ensures.moves c.in-Ok.ensures.written c.in-Ok.ensures.named);
  steps =
      let self = c.args.self.now in
      let f = c.in-Some.ensures.filled in
      rw (c.mark_clean.ensures.clean f.0 f.1) (steps_ok self.pool c.args.slot c.in-Some.home c.bytes.result.now f.0 f.1 f.2 (f.3 ∙ c.if-not-dirty.false) (c.bytes.ensures.bytes f.0 f.1) c.bytes.ensures.page
      (rw (← f.2) (inside self.layout f.0.home self.accepted (self.placed c.args.slot f.0 f.1)).0) c.write_data.ensures.moves c.in-Ok.ensures.written c.in-Ok.ensures.named);
  brings = let f = c.in-Some.ensures.filled in brings_same no_home (homes_now c.args.self.now.pool _ c.args.slot f.0 f.1 (c.mark_clean.ensures.clean f.0 f.1));
}

pub returns-in-Ok-clause-keeps : goal.returns-in-Ok-clause-keeps
returns-in-Ok-clause-keeps g c = record {
  frames =
      let f = c.in-Some.ensures.filled in
      homes_now c.args.self.now.pool _ c.args.slot f.0 f.1 (c.mark_clean.ensures.clean f.0 f.1);
  empties =
      let f = c.in-Some.ensures.filled in
      empties_now c.args.self.now.pool _ c.args.slot f.0 f.1 (c.mark_clean.ensures.clean f.0 f.1);
  others =
      let f = c.in-Some.ensures.filled in
      others_now c.args.self.now.pool _ c.args.slot f.0 f.1 (c.mark_clean.ensures.clean f.0 f.1);
}

pub returns-in-Err-Failed-clause-moves : goal.returns-in-Err-Failed-clause-moves
returns-in-Err-Failed-clause-moves g c = record {
  swaps =
      let self = c.args.self.now in
      let f = c.in-Some.ensures.filled in
      let failed = rw c.in-Err-Failed.field-0-is at c.in-Err-Failed.ensures in
      swaps_failed self.pool c.args.slot c.in-Some.home c.bytes.result.now f.0 f.1 f.2 (f.3 ∙ c.if-not-dirty.false) (c.bytes.ensures.bytes f.0 f.1) c.bytes.ensures.page
      (rw (← f.2) (inside self.layout f.0.home self.accepted (self.placed c.args.slot f.0 f.1)).0) c.write_data.ensures.moves failed.whole_or_absent;
  steps =
      let self = c.args.self.now in
      let f = c.in-Some.ensures.filled in
      let failed = rw c.in-Err-Failed.field-0-is at c.in-Err-Failed.ensures in
      steps_failed self.pool c.args.slot c.in-Some.home c.bytes.result.now f.0 f.1 f.2 (f.3 ∙ c.if-not-dirty.false) (c.bytes.ensures.bytes f.0 f.1) c.bytes.ensures.page
      (rw (← f.2) (inside self.layout f.0.home self.accepted (self.placed c.args.slot f.0 f.1)).0) c.write_data.ensures.moves failed.whole_or_absent;
  brings = brings_itself no_home c.args.self.now.pool;
}

pub returns-in-Err-Wrong-clause-moves : goal.returns-in-Err-Wrong-clause-moves
returns-in-Err-Wrong-clause-moves g c = record {
  swaps =
      let wrong = (rw c.in-Err-Wrong.field-0-is at c.in-Err-Wrong.ensures).wrong in
      step_laws.read _ _ c.args.self.now.pool wrong.2 c.write_data.ensures.moves;
  steps = let wrong = (rw c.in-Err-Wrong.field-0-is at c.in-Err-Wrong.ensures).wrong in steps_none c.args.self.now.pool wrong.2;
  brings = brings_itself no_home c.args.self.now.pool;
}
