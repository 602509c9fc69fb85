-- What C gets of an answer.
use Rattle.std.specs.Prelude.{◌≡◌, ℕ, ℤ, pos, false, Option, Some, None, Result, Ok, Err}
use Rattle.labelled_disk.specs.declared.disk.Disk.{Ghosts}
use Rattle.labelled_disk.specs.declared.evidence.Evidence.{Evidence}
use Rattle.labelled_disk.specs.declared.evidence.Evidence.TheVariants as evidence
use Rattle.labelled_disk.specs.declared.evidence.Halt.{Halt}
use Rattle.labelled_disk.specs.declared.evidence.Halt.TheVariants as halt
use Rattle.labelled_disk.specs.Structure.{structure_number}
use Rattle.flat_machine.specs.declared.call.Call.{Call}
use Rattle.flat_machine.specs.declared.call.Reply.{Reply as MachineReply}
use Rattle.flat_machine.specs.declared.call.Reply.TheVariants as reply
use Rattle.flat_machine.specs.declared.call.Refusal.TheVariants as why
use Rattle.embedded.specs.declared.code.Code.{Code}
use Rattle.embedded.specs.declared.code.Code.TheVariants as code
use Rattle.embedded.specs.declared.engine.Engine.{Engine}
use Rattle.embedded.specs.Answers.{code_number}
use Rattle.embedded.specs.Called.{Called}
use Rattle.pilot_c.specs.declared.answers.Finding.{Finding}
use Rattle.pilot_c.specs.declared.answers.Reply.{Reply}

-- the code's number, or 0 where the call was carried out
abbrev pub number_of : {T : Type 0} → Result T Code → ℕ
number_of (Ok x) = 0
number_of (Err e) = code_number e

-- a reply without a number
abbrev pub nothing : Reply
nothing = record { file = 0; space = 0; page = 0; pages = 0; free = 0; kind = 0; permanent = false; immutable = false }

-- the numbers of a reply
abbrev pub numbers_of : MachineReply → Reply
numbers_of (reply.File id) = record nothing { file = id }
numbers_of (reply.Attributes pages kind permanent immutable) =
    record nothing { pages = pages; kind = kind; permanent = permanent; immutable = immutable }
numbers_of (reply.Volume capacity free) = record nothing { pages = capacity; free = free }
numbers_of (reply.Space handle first) = record nothing { space = handle; page = first }
numbers_of (reply.Place handle first pages) = record nothing { space = handle; page = first; pages = pages }
numbers_of other = nothing

-- the space or the page that a code names
abbrev pub named_by : Code → Reply
named_by (code.Refused (why.Mapped space)) = record nothing { space = space }
named_by (code.Refused (why.FileMapped space)) = record nothing { space = space }
named_by (code.Refused (why.NoMap page)) = record nothing { page = page }
named_by (code.Refused (why.ReadOnly page)) = record nothing { page = page }
named_by other = nothing

abbrev pub numbers : Result MachineReply Code → Reply
numbers (Ok r) = numbers_of r
numbers (Err e) = named_by e

-- no halt
abbrev pub no_finding : Finding
no_finding = record { what = 0; sector = 0; file = 0; found_file = 0; page = 0; found_page = 0 }

-- what evidence says
abbrev pub found_in : Evidence → Finding
found_in (evidence.Mismatch sector wanted found) =
    record { what = 2; sector = sector; file = wanted.id; found_file = found.id; page = wanted.page; found_page = found.page }
found_in (evidence.Malformed structure page) = record no_finding { what = 3; file = structure_number structure; page = page }
found_in (evidence.Missing id page) = record no_finding { what = 4; file = id; page = page }

-- what a halt says, if there is one
abbrev pub finding_of : Option Halt → Finding
finding_of None = no_finding
finding_of (Some halt.Disk) = record no_finding { what = 1 }
finding_of (Some (halt.Damaged e)) = found_in e

module _ {D A : Type 0} {G : Ghosts D} where
  -- the engine was called, and this is the number of its answer
  pub record HasNumber (call : Call) (old : Engine D A G) (number : ℤ) (new : Engine D A G) : Type 0 where
    pub answer : Result MachineReply Code
    pub called : Called call old answer new
    pub number_is : number ≡ pos (number_of answer)

  -- and these are its other numbers
  pub record HasNumbers (call : Call) (old : Engine D A G) (number : ℤ) (r : Reply) (new : Engine D A G) : Type 0 where
    pub answer : Result MachineReply Code
    pub called : Called call old answer new
    pub number_is : number ≡ pos (number_of answer)
    pub numbers_are : r ≡ numbers answer
