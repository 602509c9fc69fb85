-- The last sync before a write, and what is so of each cut.
use Rattle.std.specs.Prelude.{◌≡◌, ◌↔◌, ℕ, ◌≤◌, nat_le, if◌then◌else◌, List, [], ◌∷◌, ◌++◌, Contains, Option, Some, None, max, ◌<◌}
use Rattle.std.specs.Option.{option_map_or}
use Rattle.labelled_disk.specs.declared.disk.DiskWrite.{DiskWrite}
use Rattle.labelled_disk.specs.Sectors.{Sector}
use Rattle.cut_words.specs.Cut.{IsCut}

-- A sync is reported as the number of the writes that were made before it. Of those that are at most k, the greatest.
abbrev pub last_sync : List ℕ → ℕ → Option ℕ
last_sync [] k = None
last_sync (s ∷ syncs) k = if nat_le s k then Some (option_map_or (max s) (last_sync syncs k) s) else
    last_sync syncs k

-- it was made, no later than k, and none between
pub record IsLastSync (syncs : List ℕ) (k s : ℕ) : Type 0 where
  pub made : Contains syncs s
  pub by_then : s ≤ k
  pub none_between : (later : ℕ) → Contains syncs later → later ≤ k → later ≤ s

-- P of k and each cut after k writes, once the disk was settled
abbrev pub Tears : (ℕ → List Sector → Type 0) → List Sector → List DiskWrite → List ℕ → Type 0
Tears P d writes syncs = (k s : ℕ) (e : List Sector) → last_sync syncs k ≡ Some s → IsCut d writes s k e → P k e

pub record SyncLaws (syncs : List ℕ) (k : ℕ) : Type 0 where
  pub revealed : (s : ℕ) → last_sync syncs k ≡ Some s ↔ IsLastSync syncs k s
  pub none : last_sync syncs k ≡ None → (s : ℕ) → Contains syncs s → s ≤ k → ⊥
  -- a sync that was made later changes nothing of what came before it
  pub later : (n : ℕ) → k < n → last_sync (syncs ++ n ∷ []) k ≡ last_sync syncs k
  -- one that was made after all others is the last from then on
  pub last : (n : ℕ) → n ≤ k → ((s : ℕ) → Contains syncs s → s ≤ n) → last_sync (syncs ++ n ∷ []) k ≡ Some n
