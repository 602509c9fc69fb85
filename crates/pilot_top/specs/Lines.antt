-- What a session does with the lines of a trace, from its start to its end.
use Rattle.std.specs.Prelude.{◌≡◌, ◌≢◌, ◌⊎◌, ◌+◌, ◌^◌, ◌≤◌, true, false, ℕ, List, length, sum_by, Option, Some, None}
use Rattle.labelled_disk.specs.declared.disk.Disk.{Ghosts}
use Rattle.labelled_disk.specs.declared.evidence.Evidence.{Evidence}
use Rattle.labelled_disk.specs.State.{DiskState}
use Rattle.fault_core.specs.Core.{state}
use Rattle.frame_pool.specs.Frames.{Slots}
use Rattle.flat_machine.specs.After.{TraceLine, after}
use Rattle.flat_machine.specs.Machine.{Machine}
use Rattle.swapper_kernel.specs.Goes.{Went}
use Rattle.trace_io.specs.Reading.{IsShort, reading, rest_of}
use Rattle.volume_root.specs.declared.root.Root.{Root}
use Rattle.running_words.specs.Bound.{other_bound}
use Rattle.pilot_engine.specs.Closing.{HasShut, ShutsBySync}
use Rattle.pilot_engine.specs.declared.session.Session.{Session}
use Rattle.pilot_top.specs.CrashStates.{CrashStates, ShutsLast}
use Rattle.pilot_top.specs.Ending.{closes, halts}
use Rattle.pilot_top.specs.Headline.{Answering, EndsEarly, IsLeftOpen, LeadsTo, RevealsDamage, line_bound}
use Rattle.pilot_top.specs.OnePlace.{ChangesApart}
use Rattle.pilot_top.specs.Parts.{InParts, PartMay, RaisesRoot, Stops}
use Rattle.pilot_top.specs.Queued.{RepliesChange, WroteChange}
use Rattle.pilot_top.specs.Replied.{Replied}
use Rattle.pilot_top.specs.Sparing.{RunSpares}
use Rattle.pilot_top.specs.World.{World, Gives, SinkFailed, SourceFailed, Took}
use Rattle.pilot_top.specs.declared.status.Status.{Status}
use Rattle.pilot_top.specs.declared.status.Status.TheVariants as status

-- The lines of a trace were answered in a session that stood for such machines, and it ended with this status: what the sink has, and the place
-- to which the writes lead. `shown` is the label that had changed, if one had, and `reasoned` says of evidence that it has its reason.
pub record AnswersLines (s : Status) (stands : Machine → Type 0) (shown : Option Evidence) (reasoned : Evidence → Type 0) (old new : World) : Type 0 where
  pub answering : (m : Machine) (b t : List ℕ) → stands m → Gives old b → Took old t → Answering s m b new.left t new.took (SinkFailed old new) (LeadsTo m (reading b) old.disk new.disk)
  -- Whatever the disk holds; and a session that stood for a machine shows no damage.
  pub replied : (b t : List ℕ) → IsLeftOpen old.disk → Gives old b → Took old t → (s ≡ status.Damaged → shown ≡ None) → Replied s b new.left t new.took (SinkFailed old new) new.disk reasoned
  pub damage : (t : List ℕ) → IsLeftOpen old.disk → Took old t → s ≡ status.Damaged → shown ≡ None
      → (revealed : RevealsDamage t new.took (SinkFailed old new) new.disk) × reasoned revealed.evidence
  pub sound : (m : Machine) → stands m → s ≢ status.Damaged
  pub short : (b : List ℕ) → Gives old b → s ≡ status.Done → IsShort (2 ^ 32) b

-- Where a label had changed that is shown: replies, and then its line; and where the source had such bytes, they are to the first lines.
pub record PutsChange (s : Status) (shown : Option Evidence) (left took now : Option (List ℕ)) (failed : Type 0) : Type 0 where
  pub changed : (b t : List ℕ) (e : Evidence) → left ≡ Some b → took ≡ Some t → s ≡ status.Damaged → shown ≡ Some e → RepliesChange b t now failed e
  pub line : (t : List ℕ) (e : Evidence) → took ≡ Some t → s ≡ status.Damaged → shown ≡ Some e → WroteChange t now failed e

-- What the disk has: after each write, and at the end, where it is closed, or left open.
pub record LeavesDisk (s : Status) (stands : Machine → Type 0) (old new : World) : Type 0 where
  pub crash_states : (m : Machine) (b : List ℕ) → stands m → Gives old b → CrashStates m (reading b) old.disk new.disk
  pub some_crash_states : (m : Machine) → stands m → (lines : List TraceLine) × CrashStates m lines old.disk new.disk
  pub closed : (m : Machine) (b : List ℕ) → stands m → Gives old b → s ≡ status.Done → halts (reading b) ≡ false → HasShut (after m (reading b) (length (reading b))) new.disk
  pub closed_unheard : (m : Machine) (b : List ℕ) → stands m → Gives old b → s ≡ status.StreamFault → ¬ SourceFailed old new → Gives new (rest_of b) → closes (reading b) ≡ true
      → HasShut (after m (reading b) (length (reading b))) new.disk
  pub stays_open : (b : List ℕ) → IsLeftOpen old.disk → Gives old b → EndsEarly s (reading b) → IsLeftOpen new.disk
  pub untaken : (b : List ℕ) → IsLeftOpen old.disk → Gives old b → s ≡ status.StreamFault → ¬ Gives new (rest_of b) → IsLeftOpen new.disk
  pub left_open : IsLeftOpen old.disk → (s ≡ status.Long) ⊎ (s ≡ status.Damaged) → IsLeftOpen new.disk

-- Over any contents, which writes were made on a volume with this root, from these frames: where the last of them is, which files they spare,
-- and which roots are among them; those of a session that stood for a machine change files apart from each other. `hid` says of a file that no
-- window showed it.
pub record WritesLines (s : Status) (stands : Machine → Type 0) (root : Root) (before : Slots) (hid : ℕ → Type 0) (old new : World) : Type 0 where
  pub permitted : ShutsLast old.disk new.disk
  pub syncs : (m : Machine) → stands m → ShutsBySync old.disk new.disk
  pub apart : (m : Machine) → stands m → ChangesApart true old.disk new.disk
  pub stops : (b t : List ℕ) → Gives old b → Took old t → Stops s b new.left t new.took (SinkFailed old new) (λ k. InParts (PartMay (reading b)) k old.disk new.disk)
  pub spares : (b : List ℕ) → Gives old b → RunSpares root (reading b) old.disk before new.disk hid
  pub roots : (last : Root) × RaisesRoot root last old.disk new.disk
  pub same_disk : Went old.disk new.disk
  pub transfers : (m : Machine) (b : List ℕ) → stands m → Gives old b
      → new.disk.transfers ≤ old.disk.transfers + (other_bound old.disk.sectors + sum_by (line_bound old.disk.sectors) (reading b))

module _ {D A : Type 0} {G : Ghosts D} where
  -- the disk of a session
  abbrev pub session_disk : Session D A G → DiskState
  session_disk session = (state session.core).disk
