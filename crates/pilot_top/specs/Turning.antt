-- What one turn of a run does to the session, and how it stops it.
use Rattle.std.specs.Prelude.{◌≡◌, ◌≤◌, ℕ, true}
use Rattle.labelled_disk.specs.declared.disk.Disk.{Ghosts}
use Rattle.labelled_disk.specs.declared.evidence.Halt.{Halt}
use Rattle.labelled_disk.specs.declared.evidence.Halt.TheVariants as halt
use Rattle.labelled_disk.specs.Calls.{Rose}
use Rattle.labelled_disk.specs.State.{DiskState}
use Rattle.flat_machine.specs.Machine.{Machine}
use Rattle.filer_kernel.specs.Evidence.{ShowsEvidence}
use Rattle.fault_core.specs.Core.{state}
use Rattle.file_manager.specs.Creating.{next_id}
use Rattle.file_manager.specs.Reasons.{InitialState, KeepsOn, ShowsReason, giving}
use Rattle.running_words.specs.Running.{Runs}
use Rattle.running_words.specs.Session.{IsOpen, WroteIn}
use Rattle.running_words.specs.Stages.{client_or_own}
use Rattle.pilot_engine.specs.declared.session.Session.{Session}
use Rattle.pilot_engine.specs.Reasons.{IsBlameless, SeesHome}
use Rattle.pilot_top.specs.OnePlace.{ChangesApart}
use Rattle.pilot_top.specs.Parts.{TurnsRoot}
use Rattle.pilot_top.specs.Turn.{IsGoing, IsIdle, stops_session}
use Rattle.pilot_top.specs.declared.turn.Turn.{Turn}
use Rattle.pilot_top.specs.declared.turn.Turn.TheVariants as turn

-- What the source's faults say of a turn: they don't fall, and one rose where the source failed.
pub record ReadsSource (t : Turn) (before after : ℕ) : Type 0 where
  pub later : before ≤ after
  pub cause : t ≡ turn.ReadFault → Rose before after

-- Where a turn stopped the session: a session that stood for such a machine found no damage, the fault is counted, and what is revealed is so.
pub record StopsTurn (t : Turn) (stands : Machine → Type 0) (old new : DiskState) : Type 0 where
  pub sound : (m : Machine) (why : Halt) → stands m → t ≡ turn.Halts why → why ≡ halt.Disk
  pub counted : t ≡ turn.Halts halt.Disk → Rose old.faults new.faults
  pub evidence_seen : (why : Halt) → t ≡ turn.Halts why → ShowsEvidence new why

module _ {D A : Type 0} {G : Ghosts D} where
  -- To an initial state to which the session kept, its root being ahead of it, it keeps, where it goes on, and it sees the space tables, and of files
  -- what it saw; where it was stopped, that has its reason in this state, and is none that it rules out.
  pub record AccountsTurn (o : InitialState) (t : Turn) (old new : Session D A G) : Type 0 where
    pub keeps_to : IsGoing t → KeepsOn (giving o (next_id new.volume.root)) new.core.filer
    pub reasons : (why : Halt) → t ≡ turn.Halts why → ShowsReason o (state old.core).layout (state new.core).disk why
    pub sees : SeesHome o old.core → IsGoing t → SeesHome o new.core
    pub right : SeesHome o old.core → (why : Halt) → t ≡ turn.Halts why → IsBlameless o (state new.core).disk why

  -- What stays: the session, where no call was carried out; that it runs, where it goes on; and its layout.
  pub record StaysInTurn (t : Turn) (old new : Session D A G) : Type 0 where
    pub idle : IsIdle t → new ≡ old
    pub going : IsGoing t → new.running ≡ true
    pub open_still : IsOpen (state new.core).layout new.volume
    pub layout : (state new.core).layout ≡ (state old.core).layout

  -- What was written over any contents: pages and labels, and roots. In a session that stood for a machine it changes files apart from each
  -- other.
  pub record WritesTurn (t : Turn) (old new : Session D A G) : Type 0 where
    pub wrote : WroteIn client_or_own (state old.core).disk (state old.core).slots (state new.core).disk (state new.core).slots
    pub roots : TurnsRoot (IsGoing t) old.volume.root new.volume.root (state old.core).disk (state new.core).disk
    pub apart : (m : Machine) → Runs old.core old.volume m → ChangesApart (stops_session t) (state old.core).disk (state new.core).disk
