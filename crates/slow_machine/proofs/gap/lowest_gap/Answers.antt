use Rattle.std.proofs.Common.{sym}
use Rattle.slow_machine.proofs.GapLemmas.{gap_taken}
use Rattle.slow_machine.proofs.gap.lowest_gap.Goals as goal

pub loop-s-preserved : goal.loop-s-preserved
loop-s-preserved c =
    rw (c.with_gap_after-lowest.ensures, c.loop-s.invariant)
    (sym (gap_taken c.args.spaces.now c.args.parent.now c.args.pages c.loop-s.s-index _ c.loop-s-test.true))
