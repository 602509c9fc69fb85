-- What a call comes to that takes a disk which no session has.
use Rattle.std.specs.Prelude.{◌≡◌, Option, Some, None, Result, Ok, Err}
use Rattle.labelled_disk.specs.declared.disk.Disk.{Ghosts}
use Rattle.labelled_disk.specs.State.{DiskState}
use Rattle.embedded.specs.declared.code.Code.{Code}
use Rattle.embedded.specs.declared.code.Code.TheVariants as code
use Rattle.embedded.specs.declared.held.Held.{Held}
use Rattle.embedded.specs.declared.held.Held.TheVariants as held
use Rattle.embedded.specs.declared.engine.Engine.{Engine}
use Rattle.embedded.specs.Engine.{IsClosed, disk_of}

-- an answer of a crate below, in the engine's codes
abbrev pub coded : {T E : Type 0} → (E → Code) → Result T E → Result T Code
coded word (Ok x) = Ok x
coded word (Err e) = Err (word e)

module _ {D A : Type 0} {G : Ghosts D} where
  abbrev pub free_in : Held D A G → Option DiskState
  free_in held.Nothing = None
  free_in (held.Disk disk) = Some (G.state disk)
  free_in (held.Session live) = None

  -- the state of its disk, if it has one and no session
  abbrev pub free_disk : Engine D A G → Option DiskState
  free_disk e = free_in e.held

  -- it has a disk without a session, and so it is of the disk's state
  abbrev pub HasFree : (DiskState → Type 0) → Engine D A G → Type 0
  HasFree P e = (disk : DiskState) × (free_disk e ≡ Some disk) × P disk

  abbrev pub TakesIn : {T : Type 0} → (DiskState → Type 0) → Held D A G → Result T Code → Type 0 → Type 0
  TakesIn P held.Nothing answer same = (answer ≡ Err code.Closed) × same
  TakesIn P (held.Disk disk) answer same = P (G.state disk)
  TakesIn P (held.Session live) answer same = (answer ≡ Err code.Open) × same

  -- it has no disk without a session, and the code says why
  abbrev pub MissesFree : Held D A G → Code → Type 0
  MissesFree held.Nothing e = e ≡ code.Closed
  MissesFree (held.Disk disk) e = ⊥
  MissesFree (held.Session live) e = e ≡ code.Open

  -- An engine that let go of its disk answers that it is closed, and one with a session that it is open already; both stay
  -- as they are. Else so it is of the state of the disk.
  abbrev pub Takes : {T : Type 0} → (DiskState → Type 0) → Engine D A G → Result T Code → Engine D A G → Type 0
  Takes P old answer new = TakesIn P old.held answer (new ≡ old)

  -- it has a disk in this state without a session, and nothing stopped one
  pub record IsFresh (disk : DiskState) (e : Engine D A G) : Type 0 where
    pub free : free_disk e ≡ Some disk
    pub closed : IsClosed e
    pub no_halt : e.halt ≡ None

  -- the same, in some state
  abbrev pub IsNew : Engine D A G → Type 0
  IsNew e = (disk : DiskState) × IsFresh disk e

  -- the disk was let go, and with it a session, if there was one
  pub record LetsGo (old new : Engine D A G) : Type 0 where
    pub closed : IsClosed new
    pub disk : disk_of new ≡ None
    pub same_halt : new.halt ≡ old.halt
