use Rattle.std.proofs.Common.{◌≡◌, true, false}
use Rattle.labelled_disk.specs.Label.{names}
use Rattle.frame_pool.specs.declared.home.Home.{Home}
use Rattle.frame_pool.specs.Frames.{Frame, new_frame}
use Rattle.frame_pool.specs.FrameLaws.{each_loaded, length_loaded, nowhere_cleared}
use Rattle.swapper_kernel.specs.CourseLaws.{steps_none}
use Rattle.swapper_kernel.specs.HaltLaws.{brings_itself}
use Rattle.swapper_kernel.specs.Homes.{IsPlaced, wanted_at}
use Rattle.swapper_kernel.proofs.LoadLemmas.{refilled, there, others, brings, swaps, steps, given_other, named_holds}
use Rattle.swapper_kernel.proofs.PlacedLemmas.{inside}
use Rattle.swapper_kernel.proofs.StepLemmas.{step_laws}
use Rattle.swapper_kernel.proofs.swapper.Swapper.load.Goals as goal

pub read-requires : goal.read-requires
read-requires g c = rw c.requires.size (inside c.args.self.now.layout c.args.home c.args.self.now.accepted c.requires.placed).1

pub put-requires-clause-nowhere : goal.put-requires-clause-nowhere
put-requires-clause-nowhere g c = rw c.clear.ensures.value (nowhere_cleared c.args.self.now.pool c.args.slot c.args.home.id c.args.home.page c.requires.below c.requires.nowhere)

pub invariant_of-self-2 : goal.invariant_of-self-2
invariant_of-self-2 g c =
    let self = c.args.self.now in
    let f : Frame = new_frame c.args.home c.read.new.page in
    let is = refilled _ _ _ _ _ c.clear.ensures.value c.put.ensures in
    record {
      accepted = self.accepted;
      placed = each_loaded (λ (x : Frame). IsPlaced self.layout x.home) self.pool _ c.args.slot f c.requires.below is self.placed c.requires.placed;
      least = rw (length_loaded self.pool _ c.args.slot f is) self.least;
    }

pub returns-clause-there : goal.returns-clause-there
returns-clause-there g c =
    there c.args.self.now.pool _ c.args.slot c.args.home c.read.new.page c.requires.below (refilled _ _ _ _ _ c.clear.ensures.value c.put.ensures)

pub returns-clause-others : goal.returns-clause-others
returns-clause-others g c =
    others c.args.self.now.pool _ c.args.slot c.args.home c.read.new.page c.requires.below (refilled _ _ _ _ _ c.clear.ensures.value c.put.ensures)

pub returns-then-not-names-clause-sound : goal.returns-then-not-names-clause-sound
returns-then-not-names-clause-sound g c = λ m h named.
    let other : names c.in-Ok.found (wanted_at c.args.home) ≡ false = cc (c.names.ensures, c.if-not-names.true) in
    absurd (named_holds c.args.self.now.pool c.args.home m c.in-Ok.found c.read.new.page h named c.in-Ok.ensures.found other)

pub returns-then-not-names-clause-cause : goal.returns-then-not-names-clause-cause
returns-then-not-names-clause-cause g c =
    let other : names c.in-Ok.found (wanted_at c.args.home) ≡ false = cc (c.names.ensures, c.if-not-names.true) in
    given_other c.args.self.now.pool c.args.home _ c.in-Ok.found c.read.new.page other c.in-Ok.ensures.found

pub returns-clause-moves : goal.returns-clause-moves
returns-clause-moves g c = record {
  swaps =
      let named : names c.in-Ok.found (wanted_at c.args.home) ≡ true = cc (c.names.ensures, c.if-not-names.false) in
      swaps c.args.self.now.pool _ c.args.slot c.args.home c.read.new.page c.requires.below (refilled _ _ _ _ _ c.clear.ensures.value c.put.ensures)
      c.requires.fillable.clean c.requires.nowhere c.in-Ok.found c.in-Ok.ensures.found c.read.ensures.same named c.read.ensures.moves;
  steps =
      let named : names c.in-Ok.found (wanted_at c.args.home) ≡ true = cc (c.names.ensures, c.if-not-names.false) in
      steps c.args.self.now.pool _ c.args.slot c.args.home c.read.new.page c.requires.below (refilled _ _ _ _ _ c.clear.ensures.value c.put.ensures)
      c.requires.fillable.clean c.requires.nowhere c.in-Ok.found c.in-Ok.ensures.found c.read.ensures.same named c.requires.fillable.full;
  brings = brings c.args.self.now.pool _ c.args.slot c.args.home c.read.new.page c.requires.below (refilled _ _ _ _ _ c.clear.ensures.value c.put.ensures);
}

pub returns-in_default-clause-moves : goal.returns-in_default-clause-moves
returns-in_default-clause-moves g c = record {
  swaps = step_laws.read _ _ c.args.self.now.pool c.read.ensures.same c.read.ensures.moves;
  steps = steps_none c.args.self.now.pool c.read.ensures.same;
  brings = brings_itself (λ (h : Home). h ≡ c.args.home) c.args.self.now.pool;
}

pub returns-then-not-names-clause-moves : goal.returns-then-not-names-clause-moves
returns-then-not-names-clause-moves g c = record {
  swaps = step_laws.read _ _ c.args.self.now.pool c.read.ensures.same c.read.ensures.moves;
  steps = steps_none c.args.self.now.pool c.read.ensures.same;
  brings = brings_itself (λ (h : Home). h ≡ c.args.home) c.args.self.now.pool;
}
