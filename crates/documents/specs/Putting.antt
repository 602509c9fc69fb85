-- What putting a document does: over a machine that the engine stands for, and how it fails.
use Rattle.std.specs.Prelude.{◌≡◌, ◌≢◌, ◌⊎◌, ◌<◌, ℕ, List, Option, length, Result, Err, IfOk, IfErr, OnOk}
use Rattle.labelled_disk.specs.Calls.{Rose}
use Rattle.labelled_disk.specs.declared.disk.Disk.{Ghosts}
use Rattle.labelled_disk.specs.declared.evidence.Halt.{Halt}
use Rattle.labelled_disk.specs.Sectors.{Sector}
use Rattle.flat_machine.specs.Machine.{Machine}
use Rattle.embedded.specs.declared.code.Code.TheVariants as code
use Rattle.embedded.specs.declared.engine.Engine.{Engine}
use Rattle.embedded.specs.Called.{HasStopped}
use Rattle.embedded.specs.Opened.{Reveals}
use Rattle.embedded.specs.Spending.{HasFailed}
use Rattle.embedded.specs.Stops.{Leaves}
use Rattle.documents.specs.declared.fault.Fault.{Fault}
use Rattle.documents.specs.declared.fault.Fault.TheVariants as fault
use Rattle.documents.specs.Room.{HasNoRoom, is_full}
use Rattle.documents.specs.Stands.{IsAsBefore, IsPut, is_failure}
use Rattle.documents.specs.Stops.{HasWhole, WholeOrAbsent}

module _ {D A : Type 0} {G : Ghosts D} where
  -- The engine stood for the machine, and the source had these bytes left, if it reveals them: then the document is there, or all is as before, or
  -- the disk failed. It is full where what was read has no room. Wherever it is stopped, the document is there whole or not at all,
  -- and once it is put, the disk has it.
  pub record Puts (m : Machine) (name : List ℕ) (left now : Option (List ℕ)) (old new : Engine D A G) (result : Result ℕ Fault) : Type 0 where
    pub document : IfOk result (λ id. IsPut m id name left new)
    pub kept : IfErr result (λ e. (e ≡ fault.Call is_failure) ⊎ IsAsBefore m new)
    pub full : result ≡ Err (fault.Call is_full) → HasNoRoom m left now
    pub stops : Leaves (WholeOrAbsent m name left) old new
    pub lasts : (d : List Sector) → Reveals d new → OnOk result (HasWhole m name left d)

  -- A name that is too long is answered so, and no other, and nothing is done. Each answer that blames the source, the session or the disk is right.
  pub record PutFails (name : List ℕ) (before after : ℕ) (old new : Engine D A G) (result : Result ℕ Fault) : Type 0 where
    pub named : 255 < length name → (result ≡ Err fault.LongName) × (new ≡ old)
    pub long : result ≡ Err fault.LongName → 255 < length name
    pub other : result ≢ Err fault.NoDocument
    pub input : result ≡ Err fault.Input → Rose before after
    pub stopped : (why : Halt) → result ≡ Err (fault.Call (code.Halted why)) → HasStopped why new
    pub cause : result ≡ Err (fault.Call is_failure) → HasFailed old new
