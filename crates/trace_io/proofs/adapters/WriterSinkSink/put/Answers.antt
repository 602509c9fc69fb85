use Rattle.std.proofs.Common.{rules}
use Rattle.std.proofs.lemmas.List.{take_rest}
use Rattle.trace_io.proofs.Pieces.{appends_part, written_prefix}
use Rattle.trace_io.proofs.adapters.WriterSinkSink.put.Goals as goal

pub loop-at-preserved : goal.loop-at-preserved
loop-at-preserved g c =
    let piece = c.args.piece.now in
    let next = rw (take_rest piece c.loop-at.at) at c.in-Ok.ensures.bytes in
    (search rules, appends_part _ _ _ piece c.loop-at.at c.in-Ok.count c.loop-at.invariant.1 next, search rules)

pub returns-in-Ok-2-clause-err : goal.returns-in-Ok-2-clause-err
returns-in-Ok-2-clause-err g c =
    let piece = c.args.piece.now in
    rw c.fault.ensures.writer (written_prefix _ _ _ piece c.loop-at.at c.write.result c.loop-at.invariant.1 (rw (take_rest piece c.loop-at.at) at c.write.ensures.bytes))

pub returns-in-Err-clause-err : goal.returns-in-Err-clause-err
returns-in-Err-clause-err g c =
    let piece = c.args.piece.now in
    rw c.fault-in-Err.ensures.writer (written_prefix _ _ _ piece c.loop-at.at c.write.result c.loop-at.invariant.1 (rw (take_rest piece c.loop-at.at) at c.write.ensures.bytes))
