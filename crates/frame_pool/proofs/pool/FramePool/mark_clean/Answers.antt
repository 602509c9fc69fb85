use Rattle.std.proofs.Common.{refl}
use Rattle.frame_pool.specs.Frames.{clean}
use Rattle.frame_pool.proofs.KeptLemmas.{kept_pool}
use Rattle.frame_pool.proofs.RunLemmas.{runs_changed}
use Rattle.frame_pool.proofs.pool.FramePool.mark_clean.Goals as goal

pub invariant_of-self : goal.invariant_of-self
invariant_of-self g c =
    let inside = c.self.inside in
    rw c.clean.ensures (
      kept_pool clean inside.table inside.empties c.args.slot (λ f. refl) (λ f page. page) c.self.invariant.0 (rw c.self.view_is c.requires.below),
      runs_changed clean inside.table.frames inside.table.founds inside.time c.args.slot (λ f. refl) (rw c.self.view_is c.requires.below) c.self.invariant.1,
    )
