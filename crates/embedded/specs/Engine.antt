-- What an engine holds, and the machine that its session stands for.
use Rattle.std.specs.Prelude.{◌≡◌, ◌≤◌, Bool, true, false, Option, Some, None, IfSome}
use Rattle.labelled_disk.specs.declared.disk.Disk.{Ghosts}
use Rattle.labelled_disk.specs.State.{DiskState}
use Rattle.flat_machine.specs.Machine.{Machine}
use Rattle.running_words.specs.Running.{Runs}
use Rattle.embedded.specs.declared.held.Held.{Held}
use Rattle.embedded.specs.declared.held.Held.TheVariants as held
use Rattle.embedded.specs.declared.engine.Engine.{Engine}
use Rattle.fault_core.specs.Core.{state}

abbrev pub OfBoth : (DiskState → DiskState → Type 0) → Option DiskState → Option DiskState → Type 0
OfBoth P (Some old) (Some new) = P old new
OfBoth P old new = ⊥

-- as many faults were counted on a disk later, or more; one that was let go of stays so
abbrev pub AreNoFewer : Option DiskState → Option DiskState → Type 0
AreNoFewer (Some old) (Some new) = old.faults ≤ new.faults
AreNoFewer (Some old) None = ⊥
AreNoFewer None (Some new) = ⊥
AreNoFewer None None = Unit {0}

module _ {D A : Type 0} {G : Ghosts D} where
  abbrev pub disk_in : Held D A G → Option DiskState
  disk_in held.Nothing = None
  disk_in (held.Disk disk) = Some (G.state disk)
  disk_in (held.Session live) = Some (state live.session.core).disk

  -- the state of its disk, if it has not let go of it
  abbrev pub disk_of : Engine D A G → Option DiskState
  disk_of e = disk_in e.held

  abbrev pub IsIn : Held D A G → Machine → Type 0
  IsIn (held.Session live) m = (live.session.running ≡ true) × Runs live.session.core live.session.volume m
  IsIn other m = ⊥

  -- it has a session, which stands for the machine
  abbrev pub StandsFor : Engine D A G → Machine → Type 0
  StandsFor e m = IsIn e.held m

  abbrev pub is_running : Held D A G → Bool
  is_running (held.Session live) = live.session.running
  is_running other = false

  -- it has a session that carries out calls
  abbrev pub is_open : Engine D A G → Bool
  is_open e = is_running e.held

  -- it has none
  abbrev pub IsClosed : Engine D A G → Type 0
  IsClosed e = is_open e ≡ false

  -- so it is of the state of its disk
  abbrev pub OfDisk : (DiskState → Type 0) → Engine D A G → Type 0
  OfDisk P e = IfSome (disk_of e) P

  -- it has a disk before and after, and so it is of their states
  abbrev pub Between : (DiskState → DiskState → Type 0) → Engine D A G → Engine D A G → Type 0
  Between P old new = OfBoth P (disk_of old) (disk_of new)

  -- no fault that was counted on its disk before is lost
  abbrev pub LosesNoFault : Engine D A G → Engine D A G → Type 0
  LosesNoFault old new = AreNoFewer (disk_of old) (disk_of new)
