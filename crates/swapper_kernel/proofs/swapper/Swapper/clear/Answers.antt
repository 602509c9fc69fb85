use Rattle.std.specs.Prelude.{None}
use Rattle.frame_pool.specs.FrameLaws.{length_of_set}
use Rattle.swapper_kernel.proofs.ChangeLemmas.{frame_dropped}
use Rattle.swapper_kernel.proofs.PlacedLemmas.{placed_cleared}
use Rattle.swapper_kernel.proofs.StepLemmas.{step_laws}
use Rattle.swapper_kernel.proofs.swapper.Swapper.clear.Goals as goal

pub invariant_of-self : goal.invariant_of-self
invariant_of-self g c =
    let self = c.args.self.now in
    record {
      accepted = self.accepted;
      placed = rw c.clear.ensures.value (placed_cleared self.layout self.pool c.args.slot c.requires.below self.placed);
      least = rw (c.clear.ensures.value, length_of_set self.pool c.args.slot None) self.least;
    }

pub returns-clause-swaps : goal.returns-clause-swaps
returns-clause-swaps g c = λ clean. rw c.clear.ensures.value (step_laws.cleared _ c.args.self.now.pool c.args.slot c.requires.below clean)

pub returns-clause-goes : goal.returns-clause-goes
returns-clause-goes g c = λ f has. rw c.clear.ensures.value (frame_dropped _ c.args.self.now.pool c.args.slot f has c.clear.ensures.distinct)
