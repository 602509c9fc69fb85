use Rattle.std.proofs.Common.{◌≡◌, drop}
use Rattle.slow_machine.proofs.SpaceLemmas.{walk}
use Rattle.slow_machine.proofs.gap.lowest_unused.Given as goal

abbrev pub invariant-loop-s : goal.invariant-loop-s
invariant-loop-s l = record { so_far : walk l.low (drop l.s-index l.spaces) ≡ walk 0 l.spaces; counted : l.low ≡ l.s-index }
