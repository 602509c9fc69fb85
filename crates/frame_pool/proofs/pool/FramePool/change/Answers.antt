use Rattle.std.proofs.Common.{refl, arith}
use Rattle.frame_pool.specs.Frames.{changed}
use Rattle.frame_pool.proofs.KeptLemmas.{kept_pool, overwritten_page}
use Rattle.frame_pool.proofs.RunLemmas.{runs_changed}
use Rattle.frame_pool.proofs.pool.FramePool.change.Goals as goal

pub invariant_of-self : goal.invariant_of-self
invariant_of-self g c =
    let inside = c.self.inside in
    rw c.overwrite.ensures (
      kept_pool (λ f. changed f c.args.at c.args.bytes.now) inside.table inside.empties c.args.slot (λ f. refl)
          (λ f page. overwritten_page f.bytes c.args.at c.args.bytes.now page c.requires.inside (λ k. let fits = c.type_inv.bytes k in omega arith))
          c.self.invariant.0 (rw c.self.view_is c.requires.below),
      runs_changed (λ f. changed f c.args.at c.args.bytes.now) inside.table.frames inside.table.founds inside.time c.args.slot (λ f. refl) (rw c.self.view_is c.requires.below) c.self.invariant.1,
    )
