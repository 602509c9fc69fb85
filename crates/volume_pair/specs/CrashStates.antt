-- What stands on the second disk in each crash state of the writes of a call.
use Rattle.std.specs.Prelude.{◌≡◌, ℕ, zero, suc, ◌+◌, ◌<◌, ◌≤◌, false, List, length, Some, slice_get, Contains, Result}
use Rattle.labelled_disk.specs.declared.disk.DiskWrite.{DiskWrite}
use Rattle.labelled_disk.specs.CrashState.{crash_state}
use Rattle.labelled_disk.specs.File.{File}
use Rattle.labelled_disk.specs.FilesOn.{files_on}
use Rattle.labelled_disk.specs.Root.{LabelsRight, counter_of, root_page, serial_of, short_at}
use Rattle.labelled_disk.specs.RootLaws.{StaysRight}
use Rattle.labelled_disk.specs.Sectors.{Sector}
use Rattle.labelled_disk.specs.State.{DiskState}
use Rattle.labelled_disk.specs.WriteRuns.{Appended}
use Rattle.filer_kernel.specs.View.{MakesOnly, View}
use Rattle.file_manager.specs.declared.volume.Volume.{Volume}
use Rattle.pair_machine.specs.declared.call.PairCall.{PairCall}
use Rattle.pair_machine.specs.declared.call.PairCall.TheVariants.{Compare}
use Rattle.pair_machine.specs.Pair.{Pair, next_pair}
use Rattle.volume_root.specs.declared.root.Root.{Root}
use Rattle.volume_root.specs.Sound.{Sound}
use Rattle.volume_pair.specs.Copying.{id_of}
use Rattle.volume_pair.specs.Owned.{WritesFor, file_of}
use Rattle.volume_pair.specs.Pairs.{IsPaired}
use Rattle.volume_pair.specs.Sides.{IsLookedAt, SyncsSecond, with_own}
use Rattle.volume_pair.specs.declared.fault.PairHalt.{PairHalt}

-- Writes were made. In each crash state of them the disk is as it is after some steps, at most so many, and with each write
-- there are as many steps or more.
pub record CrashStatesOf (P : ℕ → List Sector → Type 0) (most : ℕ) (old new : DiskState) : Type 0 where
  pub writes : List DiskWrite
  pub appended : Appended writes old new
  pub steps : ℕ → ℕ
  pub rise : (j k : ℕ) → j ≤ k → steps j ≤ steps k
  pub within : (k : ℕ) → steps k ≤ most
  pub each : (d : List Sector) (k : ℕ) → old.contents ≡ Some d → P (steps k) (crash_state d writes k)

-- there was a sync after the last write, where the disk reveals its syncs
abbrev pub IsSyncedNow : DiskState → Type 0
IsSyncedNow disk = (writes : List DiskWrite) (syncs : List ℕ) → disk.writes ≡ Some writes → disk.syncs ≡ Some syncs → Contains syncs (length writes)

-- there was a sync after so many of the writes that were made between the two states, where both reveal their syncs
abbrev pub SyncedAt : ℕ → DiskState → DiskState → Type 0
SyncedAt n old new = (earlier : List DiskWrite) (before later : List ℕ) → old.writes ≡ Some earlier → old.syncs ≡ Some before → new.syncs ≡ Some later → Contains later (length earlier + n)

-- That; and for each of these numbers there was a sync after a write from which on there are more steps than the number.
pub record SyncedStatesOf (P : ℕ → List Sector → Type 0) (most : ℕ) (numbers : ℕ → Type 0) (old new : DiskState) : Type 0 where
  pub states : CrashStatesOf P most old new
  pub synced : (j : ℕ) → numbers j → (n : ℕ) × (n ≤ length states.writes) × (j < states.steps n) × SyncedAt n old new

-- the labels are right, the files are these, and the root has these numbers
pub record HasFiles (files : List File) (serial counter : ℕ) (d : List Sector) : Type 0 where
  pub files_are : files_on d ≡ files
  pub right : LabelsRight d
  pub same_serial : serial_of d ≡ serial
  pub same_counter : counter_of d ≡ counter

-- and the volume is in use
abbrev pub HasFilesInUse : List File → ℕ → ℕ → List Sector → Type 0
HasFilesInUse files serial counter d = HasFiles files serial counter d × (short_at (root_page d) 10 ≡ 0)

-- or it is closed, and then it is sound
abbrev pub HasFilesHonestly : List File → ℕ → ℕ → List Sector → Type 0
HasFilesHonestly files serial counter d = HasFiles files serial counter d × (short_at (root_page d) 10 ≡ 1 → Sound d)

-- the list of before, and after a step the other one
abbrev pub list_after : List File → List File → ℕ → List File
list_after before after zero = before
list_after before after (suc k) = after

-- In each crash state the volume is in use, with the numbers of this root. Its files are those of one list, or those of the
-- other one, and from then on always.
abbrev pub ChangesFiles : List File → List File → Root → DiskState → DiskState → Type 0
ChangesFiles before after root old new = CrashStatesOf (λ k. HasFilesInUse (list_after before after k) root.serial root.counter) 1 old new

-- In each crash state its files are these, and where it is closed the volume is sound.
abbrev pub KeepsFiles : List File → ℕ → ℕ → DiskState → DiskState → Type 0
KeepsFiles files serial counter old new = CrashStatesOf (λ k. HasFilesHonestly files serial counter) 0 old new

-- the permanent files and the root are those of before, and the labels are right
pub record KeepsVolume (d e : List Sector) : Type 0 where
  pub stays : StaysRight false d e
  pub root : slice_get e 0 ≡ slice_get d 0

-- What a call writes on the second disk: over any contents, what it may for the file that it copies, never the root, and nothing in a
-- comparison but pages of frames that were dirty; a permanent mark comes right after a sync. Where both sides stand for lists, the
-- second list is there in each crash state, that of before the call or that of after it.
pub record WritesSecond {T : Type 0} (call : PairCall) (result : Result T PairHalt) (from to : View) (volume : Volume) (new : View) : Type 0 where
  pub labels : List DiskWrite
  pub makes : MakesOnly (with_own (id_of call)) labels to new
  pub layout : new.layout ≡ to.layout
  pub own : WritesFor (file_of call) to new
  pub around : SyncsSecond result to.disk new.disk
  pub compares : (id : ℕ) → call ≡ Compare id → IsLookedAt to new
  pub crash_states : (p : Pair) → IsPaired from to volume p → ChangesFiles p.to (next_pair p call).to volume.root to.disk new.disk
