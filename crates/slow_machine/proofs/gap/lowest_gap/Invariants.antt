use Rattle.std.proofs.Common.{◌≡◌, take}
use Rattle.slow_machine.proofs.GapLemmas.{gap_so_far}
use Rattle.slow_machine.proofs.gap.lowest_gap.Given as goal

abbrev pub invariant-loop-s : goal.invariant-loop-s
invariant-loop-s l = l.lowest ≡ gap_so_far l.spaces l.parent l.pages (take l.s-index l.spaces)
