-- A run from a closed volume to a closed one, or to an open one: in each cut of it the clean flag is right.
use Rattle.std.specs.Prelude.{◌≡◌, ◌≢◌, ◌⊎◌, ℕ, suc, ◌+◌, ◌<◌, ◌≤◌, List, length, slice_get, Some, Contains}
use Rattle.labelled_disk.specs.declared.label.Label.{Label}
use Rattle.labelled_disk.specs.declared.disk.DiskWrite.{DiskWrite}
use Rattle.labelled_disk.specs.declared.disk.DiskWrite.TheVariants.{Whole}
use Rattle.labelled_disk.specs.CrashState.{crash_state}
use Rattle.labelled_disk.specs.Root.{IsRoot, serial_of, counter_of}
use Rattle.labelled_disk.specs.Sectors.{Sector}
use Rattle.volume_root.specs.Sound.{Sound}
use Rattle.cut_laws.specs.Cut.{IsCut}
use Rattle.cut_laws.specs.Roots.{flag_of}

-- The disk was synced after s of its writes and not since, when k were made: the next sync, if there is one, was not yet made,
-- though it may come after no other write.
pub record IsBetweenSyncs (syncs : List ℕ) (s k : ℕ) : Type 0 where
  pub made : Contains syncs s
  pub by_then : s ≤ k
  pub none_between : (n : ℕ) → Contains syncs n → s < n → k ≤ n

-- write j is a root with the counter of the one that stood there
pub record RewritesRoot (d : List Sector) (writes : List DiskWrite) (j : ℕ) : Type 0 where
  pub label : Label
  pub page : List ℕ
  pub here : slice_get writes j ≡ Some (Whole 0 label page)
  pub same_counter : counter_of (crash_state d writes (suc j)) ≡ counter_of (crash_state d writes j)

-- the last write sets the clean flag, and a sync was made just before it
pub record ClosesAfterSync (d : List Sector) (made : ℕ) (writes : List DiskWrite) (syncs : List ℕ) : Type 0 where
  pub earlier : ℕ
  pub last : length writes ≡ suc earlier
  pub turn : RewritesRoot d writes earlier
  pub synced : Contains syncs (made + earlier)

-- These writes, after so many others, on a disk that held d. In each crash state the root is valid, with one serial, and where it
-- says that the volume was closed the volume is sound. The first write opens the volume, and a sync follows before the next
-- one; the volume stays open up to the last write, which closes it after a sync, or does not close it.
pub record OpensAndCloses (d : List Sector) (made : ℕ) (writes : List DiskWrite) (syncs : List ℕ) : Type 0 where
  pub valid : (j : ℕ) → IsRoot (length d) (slice_get (crash_state d writes j) 0)
  pub same_serial : (j : ℕ) → serial_of (crash_state d writes j) ≡ serial_of d
  pub honest : (j : ℕ) → flag_of (crash_state d writes j) ≡ 1 → Sound (crash_state d writes j)
  pub open_flag : (j : ℕ) → 1 ≤ j → j < length writes → flag_of (crash_state d writes j) ≡ 0
  pub opens : 1 ≤ length writes → RewritesRoot d writes 0
  pub synced : (length writes ≤ 1) ⊎ Contains syncs (made + 1)
  pub closes : (1 ≤ length writes → flag_of (crash_state d writes (length writes)) ≡ 0) ⊎ ClosesAfterSync d made writes syncs

-- all sectors but the root are those of a crash state
abbrev pub IsCrashStateButRoot : List Sector → List DiskWrite → List Sector → Type 0
IsCrashStateButRoot d writes e = (j : ℕ) × (j ≤ length writes)
    × ((i : ℕ) → i ≢ 0 → slice_get e i ≡ slice_get (crash_state d writes j) i)

-- The root is valid, with the volume's serial. Where it says that the volume was closed the volume is sound, with the files of a
-- crash state.
pub record IsHonest (d : List Sector) (writes : List DiskWrite) (e : List Sector) : Type 0 where
  pub valid : IsRoot (length d) (slice_get e 0)
  pub same_serial : serial_of e ≡ serial_of d
  pub honest : flag_of e ≡ 1 → Sound e × IsCrashStateButRoot d writes e

-- so is each cut after k of the writes, where the disk was synced after s of them, or before them, and not since
abbrev pub CutsAreHonest : Type 0
CutsAreHonest = (d : List Sector) (made : ℕ) (writes : List DiskWrite) (syncs : List ℕ) → OpensAndCloses d made writes syncs
    → (k s : ℕ) (e : List Sector) → k ≤ length writes → IsBetweenSyncs syncs (made + s) (made + k)
    → IsCut d writes s k e → IsHonest d writes e
