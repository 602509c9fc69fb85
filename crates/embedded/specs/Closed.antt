-- How a session ends.
use Rattle.std.specs.Prelude.{◌≡◌, true, Result, Ok, Err, IfErr, OnOk}
use Rattle.labelled_disk.specs.Calls.{Rose}
use Rattle.labelled_disk.specs.declared.disk.Disk.{Ghosts}
use Rattle.labelled_disk.specs.declared.evidence.Halt.{Halt}
use Rattle.labelled_disk.specs.declared.evidence.Halt.TheVariants as halt
use Rattle.flat_machine.specs.Machine.{Machine}
use Rattle.pilot_engine.specs.Closing.{HasShut, IsStop, Throughout}
use Rattle.embedded.specs.declared.code.Code.{Code}
use Rattle.embedded.specs.declared.code.Code.TheVariants as code
use Rattle.embedded.specs.declared.engine.Engine.{Engine}
use Rattle.embedded.specs.Called.{HasStopped}
use Rattle.embedded.specs.Engine.{Between, IsClosed, disk_of, is_open, StandsFor}
use Rattle.embedded.specs.Spending.{IsLater}
use Rattle.embedded.specs.Taking.{HasFree}

module _ {D A : Type 0} {G : Ghosts D} where
  -- The volume was closed, on the medium, with the files of the machine after the close; or the disk or damage stopped that. The
  -- engine keeps the disk, without a session.
  pub record Closes (old : Engine D A G) (answer : Result (Unit {0}) Code) (new : Engine D A G) : Type 0 where
    pub closed : (m : Machine) → StandsFor old m → OnOk answer (HasFree (HasShut m) new)
    pub sound : (m : Machine) → StandsFor old m → IfErr answer (λ e. e ≡ code.Halted halt.Disk)
    pub stops : (m : Machine) → StandsFor old m → Between (Throughout (IsStop m)) old new
    pub synced : OnOk answer (HasFree (λ disk. disk.synced ≡ true) new × (new.halt ≡ old.halt))
    pub stopped : (why : Halt) → answer ≡ Err (code.Halted why) → HasStopped why new
    pub cause : answer ≡ Err (code.Halted halt.Disk) → Between (λ before after. Rose before.faults after.faults) old new
    pub none : IsClosed old → (answer ≡ Err code.Closed) × (new ≡ old)
    pub ended : IsClosed new
    pub later : IsLater (disk_of old) (disk_of new)

  -- The session was let go, and the volume is left open.
  pub record Abandons (old : Engine D A G) (answer : Result (Unit {0}) Code) (new : Engine D A G) : Type 0 where
    pub done : is_open old ≡ true → answer ≡ Ok tt
    pub none : IsClosed old → (answer ≡ Err code.Closed) × (new ≡ old)
    pub ended : IsClosed new
    pub disk : disk_of new ≡ disk_of old
    pub same_halt : new.halt ≡ old.halt
