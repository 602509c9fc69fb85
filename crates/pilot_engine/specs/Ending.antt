-- How a session ends: from the disk that it had to the one that is handed back.
use Rattle.std.specs.Prelude.{◌≡◌, true, Result, Err, IfErr, OnOk}
use Rattle.labelled_disk.specs.declared.disk.Disk.{Ghosts}
use Rattle.labelled_disk.specs.declared.evidence.Halt.{Halt}
use Rattle.labelled_disk.specs.declared.evidence.Halt.TheVariants as halt
use Rattle.labelled_disk.specs.Calls.{Rose}
use Rattle.labelled_disk.specs.State.{DiskState}
use Rattle.flat_machine.specs.Machine.{Machine}
use Rattle.frame_pool.specs.Frames.{Slots}
use Rattle.volume_root.specs.declared.root.Root.{Root}
use Rattle.filer_kernel.specs.Evidence.{ShowsEvidence}
use Rattle.file_manager.specs.Reasons.{InitialState, ShowsReason}
use Rattle.fault_core.specs.Core.{state}
use Rattle.running_words.specs.Bound.{CostsOther}
use Rattle.pilot_engine.specs.declared.session.Session.{Session}
use Rattle.pilot_engine.specs.Closing.{HasShut, IsStop, ShutsBySync, Throughout, WroteOn}
use Rattle.pilot_engine.specs.Halting.{EndHalts}
use Rattle.pilot_engine.specs.Opening.{IsUnset, LeavesOpen}
use Rattle.pilot_engine.specs.Reasons.{NeverBlamesEnd, SeesHome}
use Rattle.pilot_engine.specs.Sparing.{SparesAll}

-- What an end did, where the session stood for the machine: the volume is closed, with the files that stay then, on the medium, or the disk failed;
-- so is each crash state of what was written; the clean flag is set right after a sync; and the transfers are bounded.
pub record ClosesIn {T : Type 0} (m : Machine) (old new : DiskState) (result : Result T Halt) : Type 0 where
  pub closed : OnOk result (HasShut m new)
  pub sound : IfErr result (λ e. e ≡ halt.Disk)
  pub stops : Throughout (IsStop m) old new
  pub syncs : ShutsBySync old new
  pub cost : CostsOther old new

-- What an end wrote, over any contents, with this root, where the frames were such: its writes, that it spares each permanent file, and that all is on
-- the medium where it went well.
pub record WritesAtEnd {T : Type 0} (root : Root) (before : Slots) (old new : DiskState) (result : Result T Halt) : Type 0 where
  pub wrote : WroteOn root before old new
  pub spares : SparesAll old new
  pub synced : OnOk result (new.synced ≡ true)

module _ {D A : Type 0} {G : Ghosts D} where
  -- How an end fails: its cause; that a fault of the disk was counted; that its evidence is so of the later disk; and that it leaves the clean flag as
  -- unset as it was.
  pub record HaltsAtEnd {T : Type 0} (old : Session D A G) (new : DiskState) (result : Result T Halt) : Type 0 where
    pub cause : IfErr result (EndHalts old.core.intervals (state old.core) (record (state old.core) { disk = new }))
    pub counted : result ≡ Err halt.Disk → Rose (state old.core).disk.faults new.faults
    pub evidence_seen : IfErr result (ShowsEvidence new)
    pub left_open : IsUnset (state old.core).disk → IfErr result (LeavesOpen new)

  -- The session kept to this initial state: the halt has its reason in it, and blames no page of the space tables.
  pub record AccountsAtEnd {T : Type 0} (o : InitialState) (old : Session D A G) (new : DiskState) (result : Result T Halt) : Type 0 where
    pub reasons : IfErr result (ShowsReason o (state old.core).layout new)
    pub sees : SeesHome o old.core → IfErr result (NeverBlamesEnd o new)
