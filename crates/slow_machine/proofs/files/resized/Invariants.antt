use Rattle.std.proofs.Common.{◌≡◌, take}
use Rattle.flat_machine.specs.Next.{change_file, resized}
use Rattle.slow_machine.proofs.files.resized.Given as goal

abbrev pub invariant-loop-f : goal.invariant-loop-f
invariant-loop-f g l = l.made.items ≡ change_file l.id (resized l.pages) (take l.f-index l.files)
