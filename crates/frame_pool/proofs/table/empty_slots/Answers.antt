use Rattle.std.proofs.Common.{refl}
use Rattle.frame_pool.proofs.FreshLemmas.{fresh_more}
use Rattle.frame_pool.proofs.table.empty_slots.Goals as goal

pub loop-number-preserved : goal.loop-number-preserved
loop-number-preserved g c =
    rw c.in_ok-push.ensures.items (fresh_more c.loop-number.all.items _ c.loop-number.number c.loop-number.invariant refl refl refl refl refl)
