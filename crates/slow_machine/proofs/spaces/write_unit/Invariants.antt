use Rattle.std.proofs.Common.{◌≡◌, ◌++◌, take, drop}
use Rattle.flat_machine.specs.Next.{change_space}
use Rattle.slow_machine.proofs.spaces.write_unit.Given as goal

abbrev pub invariant-loop-s : goal.invariant-loop-s
invariant-loop-s l = l.spaces ≡ change_space l.handle (λ s. record s { unit = l.unit }) (take l.s-index l.initial.spaces) ++ drop l.s-index l.initial.spaces
