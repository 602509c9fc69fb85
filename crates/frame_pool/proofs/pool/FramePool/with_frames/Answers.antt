use Rattle.frame_pool.proofs.FreshPool.{fresh_pool}
use Rattle.frame_pool.proofs.RunLemmas.{fresh_runs}
use Rattle.frame_pool.proofs.pool.FramePool.with_frames.Goals as goal

pub invariant_of-result : goal.invariant_of-result
invariant_of-result g c = rw c.in_ok-table.ensures (fresh_pool c.args.frames c.requires.least c.requires.most, fresh_runs _ c.args.frames)
