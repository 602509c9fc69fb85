use Rattle.std.proofs.Common.{◌≡◌, ◌++◌, take, drop}
use Rattle.std.specs.Prelude.{map}
use Rattle.flat_machine.specs.Next.{killed_file}
use Rattle.slow_machine.proofs.files.kill_each.Given as goal

abbrev pub invariant-loop-f : goal.invariant-loop-f
invariant-loop-f g l = l.files ≡ map (killed_file l.spaces l.range) (take l.f-index l.initial.files) ++ drop l.f-index l.initial.files
