-- The cuts of what was written between two states of a disk.
use Rattle.std.specs.Prelude.{◌≡◌, ◌⊎◌, ℕ, ◌+◌, ◌≤◌, List, ◌++◌, length, Contains, Some}
use Rattle.labelled_disk.specs.declared.disk.DiskWrite.{DiskWrite}
use Rattle.labelled_disk.specs.Sectors.{Sector}
use Rattle.labelled_disk.specs.State.{DiskState}
use Rattle.cut_words.specs.Cut.{IsCut}
use Rattle.cut_words.specs.Syncs.{last_sync}

-- The disk held d at the first of the two states. e is a cut after k of the writes that were made since; at the last sync
-- before, s of them had been made.
pub record IsCutBetween (old new : DiskState) (d : List Sector) (s k : ℕ) (e : List Sector) : Type 0 where
  pub earlier : List DiskWrite
  pub writes : List DiskWrite
  pub syncs : List ℕ
  pub held : old.contents ≡ Some d
  pub wrote_before : old.writes ≡ Some earlier
  pub wrote : new.writes ≡ Some (earlier ++ writes)
  pub settled : new.syncs ≡ Some syncs
  pub made : k ≤ length writes
  pub last : last_sync syncs (length earlier + k) ≡ Some (length earlier + s)
  pub cut : IsCut d writes s k e

-- P of the disk before and each cut from the sync after the first write on: where there was a sync since that write, or
-- another write
abbrev pub EachCutFromFirstSync : (List Sector → List Sector → Type 0) → DiskState → DiskState → Type 0
EachCutFromFirstSync P old new = (d e : List Sector) (s k : ℕ) → IsCutBetween old new d s k e → (1 ≤ s) ⊎ (2 ≤ k) → P d e

-- no sync is lost
abbrev pub KeepsSyncs : DiskState → DiskState → Type 0
KeepsSyncs old new = (syncs : List ℕ) → new.syncs ≡ Some syncs
    → (before : List ℕ) × (old.syncs ≡ Some before) × ((s : ℕ) → Contains before s → Contains syncs s)

-- there was a sync after i of the writes that were made between the two
abbrev pub SyncedAfter : ℕ → DiskState → DiskState → Type 0
SyncedAfter i old new = (earlier : List DiskWrite) (syncs : List ℕ) → old.writes ≡ Some earlier → new.syncs ≡ Some syncs
    → Contains syncs (length earlier + i)
