-- There is room for each byte, and it is the next.
use Rattle.std.proofs.Common.{◌∙◌}
use Rattle.trace_maker.proofs.CallLemmas.{has_room, one_more}
use Rattle.trace_maker.proofs.maker.bytes_by.Goals as goal

pub append-requires : goal.append-requires
append-requires c = has_room c.args.u c.loop-k.k c.loop-k.bytes c.loop-k.invariant c.loop-k-test.true

pub loop-k-preserved : goal.loop-k-preserved
loop-k-preserved c = c.append.ensures ∙ one_more c.args.u c.loop-k.k c.loop-k.bytes c.loop-k.invariant
