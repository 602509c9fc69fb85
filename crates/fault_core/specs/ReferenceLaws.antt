-- What the machine says of loads and stores, by what they come to and by the memory.
use Rattle.std.specs.Prelude.{◌≡◌, ℕ, true, false, List, [], length, Option, Some, None}
use Rattle.labelled_disk.specs.Sectors.{Sector, AreSectors}
use Rattle.labelled_disk.specs.State.{DiskState}
use Rattle.frame_pool.specs.Frames.{Slots}
use Rattle.flat_machine.specs.declared.call.Call.TheVariants.{Load, Store}
use Rattle.flat_machine.specs.declared.call.Refusal.{Refusal}
use Rattle.flat_machine.specs.declared.call.Refusal.TheVariants as why
use Rattle.flat_machine.specs.declared.call.Reply.{Reply}
use Rattle.flat_machine.specs.declared.call.Reply.TheVariants as reply
use Rattle.flat_machine.specs.Machine.{Machine}
use Rattle.flat_machine.specs.Form.{IsTyped}
use Rattle.flat_machine.specs.Next.{next}
use Rattle.flat_machine.specs.At.{cells_at}
use Rattle.flat_machine.specs.Allows.{Allows, AgreesWithCells}
use Rattle.flat_machine.specs.Refusal.{refusal}
use Rattle.swapper_kernel.specs.Goes.{Goes}
use Rattle.session_words.specs.CellLaws.{IsTouchedOrOwn}
use Rattle.session_words.specs.FrameLaws.{BringsKnown}
use Rattle.session_words.specs.Parts.{HasCells, but_none, TablesMeaning}
use Rattle.session_words.specs.StandsFor.{IsFor, StandsFor}
use Rattle.fault_core.specs.declared.reference.Access.{Access}
use Rattle.fault_core.specs.declared.reference.Access.TheVariants.{Done, NoMap, ReadOnly}
use Rattle.fault_core.specs.Access.{access_of}
use Rattle.fault_core.specs.Moves.{Loads, StoresAs}

-- the word that a reference is refused with, or none
abbrev pub word_of : Access → Option Refusal
word_of Done = None
word_of (NoMap page) = Some (why.NoMap page)
word_of (ReadOnly page) = Some (why.ReadOnly page)

-- a load is refused by what it comes to, and so is a store
abbrev pub LoadsAreTested : Type 0
LoadsAreTested = (m : Machine) (address count : ℕ) → refusal m (Load address count) ≡ word_of (access_of m.spaces false address count)

abbrev pub StoresAreTested : Type 0
StoresAreTested = (m : Machine) (address : ℕ) (bytes : List ℕ) → refusal m (Store address bytes) ≡ word_of (access_of m.spaces true address (length bytes))

-- where a memory has the cells of the machine's files, the bytes that a load gives of it agree with the cells
abbrev pub LoadsAreAllowed : Type 0
LoadsAreAllowed = (x : List Sector) (m : Machine) (address : ℕ) (bytes : List ℕ) → AreSectors x → HasCells but_none x m.files → Loads m.spaces address bytes x
    → AgreesWithCells (cells_at m address (length bytes)) bytes

-- what a client learns of a reference that came to this
abbrev pub reply_to : Reply → Access → Reply
reply_to plain Done = plain
reply_to plain (NoMap page) = reply.Refused (why.NoMap page)
reply_to plain (ReadOnly page) = reply.Refused (why.ReadOnly page)

-- the machine allows the reply to a load that came to what the projection says, and to a store
abbrev pub LoadsAreAnswered : Type 0
LoadsAreAnswered = (spaces_of : TablesMeaning) (x : List Sector) (m : Machine) (address : ℕ) (bytes : List ℕ) (a : Access) → IsFor spaces_of x m → a ≡ access_of m.spaces false address (length bytes)
    → (a ≡ Done → Loads m.spaces address bytes x) → Allows m (Load address (length bytes)) (reply_to (reply.Bytes bytes) a)

abbrev pub StoresAreAnswered : Type 0
StoresAreAnswered = (m : Machine) (address : ℕ) (bytes : List ℕ) (a : Access) → a ≡ access_of m.spaces true address (length bytes) → Allows m (Store address bytes) (reply_to reply.Done a)

-- a store leads from what a session stands for to the machine's next
abbrev pub StoresStand : Type 0
StoresStand = (spaces_of : TablesMeaning) (address : ℕ) (bytes : List ℕ) (old new : DiskState) (before after : Slots) (m : Machine) → IsTyped (Store address bytes) → Done ≡ access_of m.spaces true address (length bytes)
    → Goes (StoresAs Done m.spaces address bytes) (IsTouchedOrOwn m.spaces address (length bytes)) [] old before new after → BringsKnown m.spaces before after
    → StandsFor spaces_of old before m → StandsFor spaces_of new after (next m (Store address bytes))
