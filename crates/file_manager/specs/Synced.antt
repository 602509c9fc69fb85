-- Labels and the syncs of a call: what is on the medium before the first of them, and after the last.
use Rattle.std.specs.Prelude.{◌≡◌, ℕ, ◌+◌, ◌<◌, ◌≤◌, true, false, List, ◌++◌, length, Some, slice_get, Contains}
use Rattle.labelled_disk.specs.declared.disk.DiskWrite.{DiskWrite}
use Rattle.labelled_disk.specs.State.{DiskState}
use Rattle.labelled_disk.specs.WriteRuns.{Appended}
use Rattle.swapper_kernel.specs.Goes.{KeepsSyncs, is_page_write}
-- labels after a sync, and fresh ones over zeros that were there by then
pub use Rattle.label_calls.specs.Synced.{LabelsAfterSync}

-- each label that was written between the two states is on the medium at the second
pub record LabelsAreSynced (old new : DiskState) : Type 0 where
  pub synced : (earlier writes : List DiskWrite) (before syncs : List ℕ) → old.writes ≡ Some earlier → new.writes ≡ Some (earlier ++ writes) → old.syncs ≡ Some before → new.syncs ≡ Some syncs
      → (k : ℕ) (w : DiskWrite) → slice_get writes k ≡ Some w → is_page_write w ≡ false → (s : ℕ) × (k < s) × (s ≤ length writes) × Contains syncs (length earlier + s)

-- no label was written between the two states, and there was a sync
pub record SyncsQuietly (old new : DiskState) : Type 0 where
  pub writes : List DiskWrite
  pub appended : Appended writes old new
  pub pages : (k : ℕ) (w : DiskWrite) → slice_get writes k ≡ Some w → is_page_write w ≡ true
  pub kept : KeepsSyncs old new
  pub place : ℕ
  pub within : place ≤ length writes
  pub synced : (earlier : List DiskWrite) (before syncs : List ℕ) → old.writes ≡ Some earlier → old.syncs ≡ Some before → new.syncs ≡ Some syncs → Contains syncs (length earlier + place)
