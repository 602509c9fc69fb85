-- The cuts of a disk that reveals when it was settled.
use Rattle.std.specs.Prelude.{◌≡◌, ℕ, ◌<◌, ◌≤◌, Bool, true, List, length, Some}
use Rattle.labelled_disk.specs.declared.disk.DiskWrite.{DiskWrite}
use Rattle.labelled_disk.specs.CrashState.{crash_state}
use Rattle.labelled_disk.specs.Sectors.{Sector}
use Rattle.labelled_disk.specs.Syncing.{AreSyncs, RevealsSyncs, synced_at}
use Rattle.labelled_disk.specs.State.{DiskState}
use Rattle.cut_laws.specs.Cut.{IsCut}
use Rattle.cut_laws.specs.Syncs.{last_sync, Tears}

-- P of k and each cut after k writes of a disk that held d before them, once it was settled, where it reveals both
abbrev pub DiskTears : (ℕ → List Sector → Type 0) → List Sector → DiskState → Type 0
DiskTears P d disk = (writes : List DiskWrite) (syncs : List ℕ) → disk.writes ≡ Some writes → disk.syncs ≡ Some syncs
    → Tears P d writes syncs

-- e is a cut of that disk after k writes
pub record IsDiskCut (d : List Sector) (disk : DiskState) (k : ℕ) (e : List Sector) : Type 0 where
  pub writes : List DiskWrite
  pub syncs : List ℕ
  pub wrote : disk.writes ≡ Some writes
  pub settled : disk.syncs ≡ Some syncs
  pub last : ℕ
  pub is_last : last_sync syncs k ≡ Some last
  pub cut : IsCut d writes last k e

-- The syncs of a disk on which n writes were made, and one more.
pub record DiskSyncLaws (n : ℕ) (synced : Bool) (syncs : List ℕ) : Type 0 where
  pub by_then : (k s : ℕ) → last_sync syncs k ≡ Some s → s ≤ n
  pub now : synced ≡ true → last_sync syncs n ≡ Some n
  -- a sync changes nothing of what came before it, and is the last one from then on
  pub before : (k : ℕ) → k < n → last_sync (synced_at n syncs) k ≡ last_sync syncs k
  pub after : (k : ℕ) → n ≤ k → last_sync (synced_at n syncs) k ≡ Some n

-- where all writes are on the medium, a cut after all of them is what they made
abbrev pub SyncedHasNoOther : Type 0
SyncedHasNoOther = (d : List Sector) (disk : DiskState) (writes : List DiskWrite) (e : List Sector)
    → RevealsSyncs disk.writes disk.syncs disk.synced → disk.synced ≡ true → disk.writes ≡ Some writes
    → IsDiskCut d disk (length writes) e → e ≡ crash_state d writes (length writes)
