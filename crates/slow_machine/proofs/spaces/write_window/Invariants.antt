use Rattle.std.proofs.Common.{◌≡◌, ◌++◌, take, drop}
use Rattle.flat_machine.specs.Next.{set_window}
use Rattle.slow_machine.proofs.spaces.write_window.Given as goal

abbrev pub invariant-loop-s : goal.invariant-loop-s
invariant-loop-s l = l.spaces ≡ set_window l.handle l.window (take l.s-index l.initial.spaces) ++ drop l.s-index l.initial.spaces
