use Rattle.std.proofs.Common.{◌≡◌, ◌++◌, take, drop}
use Rattle.flat_machine.specs.Next.{change_file, with_byte}
use Rattle.slow_machine.proofs.files.write_at.Given as goal

abbrev pub invariant-loop-f : goal.invariant-loop-f
invariant-loop-f g l = l.files ≡ change_file l.id (with_byte (record { file = l.id; page = l.page; offset = l.offset }) l.byte) (take l.f-index l.initial.files) ++ drop l.f-index l.initial.files
