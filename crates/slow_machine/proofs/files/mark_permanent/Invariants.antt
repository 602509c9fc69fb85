use Rattle.std.proofs.Common.{◌≡◌, ◌++◌, take, drop, true}
use Rattle.flat_machine.specs.Next.{change_file}
use Rattle.slow_machine.proofs.files.mark_permanent.Given as goal

abbrev pub invariant-loop-f : goal.invariant-loop-f
invariant-loop-f g l = l.files ≡ change_file l.id (λ f. record f { permanent = true }) (take l.f-index l.initial.files) ++ drop l.f-index l.initial.files
