use Rattle.std.proofs.Common.{◌+◌}
use Rattle.frame_pool.proofs.KeptLemmas.{nowhere_of}
use Rattle.frame_pool.proofs.RunLemmas.{hit_there, upto_more, upto_stopped}
use Rattle.frame_pool.proofs.chain.has_run.Goals as goal

pub returns-in-None : goal.returns-in-None
returns-in-None g c =
    let slots = c.args.table.now.frames in
    let run = c.args.run.now in
    upto_stopped slots run.id run.first run.pages c.loop-k.k c.loop-k-test.true (nowhere_of slots run.id (run.first + c.loop-k.k) (c.find.ensures.nowhere c.in-None.is))

pub loop-k-preserved : goal.loop-k-preserved
loop-k-preserved g c =
    let run = c.args.run.now in
    let found = rw c.in_default.is at c.find.ensures.found in
    upto_more c.loop-k.invariant c.loop-k-test.true (hit_there c.args.table.now.frames c.in_default.field-0 run.id (run.first + c.loop-k.k) found.0 found.1)
