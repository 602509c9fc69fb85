-- What a client gets for a reply of the machine, and the numbers of codes.
use Rattle.std.specs.Prelude.{ℕ, Result, Ok, Err}
use Rattle.labelled_disk.specs.declared.evidence.Halt.TheVariants as halt
use Rattle.labelled_disk.specs.declared.layout.RootFault.{RootFault}
use Rattle.labelled_disk.specs.declared.layout.RootFault.TheVariants as fault
use Rattle.flat_machine.specs.declared.call.Reply.{Reply}
use Rattle.flat_machine.specs.declared.call.Reply.TheVariants as reply
use Rattle.flat_machine.specs.declared.call.Refusal.{Refusal}
use Rattle.flat_machine.specs.declared.call.Refusal.TheVariants as why
use Rattle.fault_core.specs.declared.reference.Access.{Access}
use Rattle.fault_core.specs.declared.reference.Access.TheVariants as access
use Rattle.embedded.specs.declared.code.Code.{Code}
use Rattle.embedded.specs.declared.code.Code.TheVariants as code

-- a refusal, and that there is no further file, are codes
abbrev pub answer_to : Reply → Result Reply Code
answer_to (reply.Refused word) = Err (code.Refused word)
answer_to reply.Nothing = Err code.NoFile
answer_to other = Ok other

-- what a client gets for what a load or a store came to
abbrev pub answer_of : Access → Result (Unit {0}) Code
answer_of access.Done = Ok tt
answer_of (access.NoMap page) = Err (code.Refused (why.NoMap page))
answer_of (access.ReadOnly page) = Err (code.Refused (why.ReadOnly page))

-- an answer without a reply, as one with this reply where the call was carried out
abbrev pub replied : Reply → Result (Unit {0}) Code → Result Reply Code
replied plain (Ok done) = Ok plain
replied plain (Err e) = Err e

-- the place of a refusal among all, from 1 on
abbrev pub refusal_number : Refusal → ℕ
refusal_number why.Syntax = 1
refusal_number why.Space = 2
refusal_number why.File = 3
refusal_number why.Size = 4
refusal_number why.Full = 5
refusal_number why.Spaces = 6
refusal_number why.Gap = 7
refusal_number why.Range = 8
refusal_number why.Children = 9
refusal_number (why.Mapped space) = 10
refusal_number why.Window = 11
refusal_number why.Immutable = 12
refusal_number why.NotMapped = 13
refusal_number (why.NoMap page) = 14
refusal_number (why.ReadOnly page) = 15
refusal_number (why.FileMapped space) = 16
refusal_number why.Root = 17
refusal_number why.Ids = 18

abbrev pub root_number : RootFault → ℕ
root_number fault.Disk = 20
root_number (fault.NotVolume what) = 22
root_number fault.Unclean = 23
root_number (fault.Version version) = 24
root_number (fault.BadCount count) = 25

-- the number of a code, from 1 on
abbrev pub code_number : Code → ℕ
code_number (code.Refused word) = refusal_number word
code_number code.NoFile = 19
code_number (code.Halted halt.Disk) = 20
code_number (code.Halted (halt.Damaged evidence)) = 21
code_number (code.Root cause) = root_number cause
code_number code.NoMemory = 26
code_number code.Closed = 27
code_number code.Open = 28
code_number code.Argument = 29
