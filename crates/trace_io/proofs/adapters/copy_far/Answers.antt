use Rattle.std.proofs.lemmas.List.{take_rest}
use Rattle.trace_io.proofs.Copies.{misses_both}
use Rattle.trace_io.proofs.adapters.copy_far.Goals as goal

pub returns-clause-misses : goal.returns-clause-misses
returns-clause-misses c =
    let bytes = c.args.bytes.now in
    let blocks = c.length_of_blocks_before-blocks.result in
    misses_both c.args.stop blocks c.length_before.result bytes c.length_of_blocks_before-blocks.ensures.misses (rw (take_rest bytes blocks) at c.length_before.ensures.misses)
