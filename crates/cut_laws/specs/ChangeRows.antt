-- Changes of files that are apart, of the writes of calls in a row: a call that failed may end with a label by which a file goes.
use Rattle.std.specs.Prelude.{◌≡◌, ◌⊎◌, ℕ, suc, ◌+◌, ◌≤◌, Bool, true, false, List, ◌++◌, length, slice_get, Some, Contains}
use Rattle.labelled_disk.specs.declared.disk.DiskWrite.{DiskWrite}
use Rattle.labelled_disk.specs.CrashState.{crash_state}
use Rattle.labelled_disk.specs.Sectors.{Sector}
use Rattle.labelled_disk.specs.WriteRuns.{after_writes}
use Rattle.label_laws.specs.Cleared.{IsAfterClearing}
use Rattle.cut_laws.specs.ChangesApart.{AreChangesApart, IsLabelled, IsQuiet, IsResize, MarksApart}

module _ (with_temporary : Bool) where
  -- Of these writes, which were made after so many others on a disk that held d.
  module _ (syncs : List ℕ) (made : ℕ) (d : List Sector) (writes : List DiskWrite) where
    -- a label by which a file goes comes between two syncs, or it is the last write of a call that failed
    abbrev pub GoesApart : Bool → ℕ → DiskWrite → Type 0
    GoesApart failed k write = Contains syncs (made + k)
        × ((id : ℕ) × IsLabelled with_temporary id (crash_state d writes k) write)
        × (Contains syncs (made + suc k) ⊎ ((failed ≡ true) × (suc k ≡ length writes)))

    -- a size changes after a sync since which nothing else did; a page is added over a sector that had been cleared by then
    abbrev pub ResizesCleared : ℕ → DiskWrite → Type 0
    ResizesCleared k write = (id : ℕ) × (since : ℕ) × (since ≤ k) × Contains syncs (made + since)
        × IsResize with_temporary id (crash_state d writes k) write × IsAfterClearing d writes since k write
        × ((i : ℕ) (w : DiskWrite) → since ≤ i → i ≤ k → slice_get writes i ≡ Some w
        → IsQuiet with_temporary (crash_state d writes i) w ⊎ IsResize with_temporary id (crash_state d writes i) w)

    -- the write changes no file; or one, and the syncs around it are there
    abbrev pub IsChangeApart : Bool → ℕ → DiskWrite → Type 0
    IsChangeApart failed k write = IsQuiet with_temporary (crash_state d writes k) write
        ⊎ MarksApart with_temporary syncs made d writes k write ⊎ GoesApart failed k write
        ⊎ ResizesCleared k write

    -- so is each of them
    abbrev pub AreApart : Bool → Type 0
    AreApart failed = (k : ℕ) (write : DiskWrite) → slice_get writes k ≡ Some write → IsChangeApart failed k write

  -- Their changes are apart, whether the last call failed or not.
  abbrev pub ApartAreChangesApart : Type 0
  ApartAreChangesApart = (syncs : List ℕ) (made : ℕ) (d : List Sector) (writes : List DiskWrite) (failed : Bool)
      → AreApart syncs made d writes failed → AreChangesApart with_temporary syncs made d writes

  -- The writes of a call that did not fail, and then others.
  abbrev pub ApartThen : Type 0
  ApartThen = (syncs : List ℕ) (made : ℕ) (d : List Sector) (first next : List DiskWrite) (failed : Bool)
      → AreApart syncs made d first false
      → AreApart syncs (made + length first) (after_writes first d) next failed
      → AreApart syncs made d (first ++ next) failed

  -- Later there may be more syncs, and that a call failed may be said of any.
  abbrev pub ApartLater : Type 0
  ApartLater = (syncs later : List ℕ) (made : ℕ) (d : List Sector) (writes : List DiskWrite) (failed : Bool)
      → ((s : ℕ) → Contains syncs s → Contains later s) → AreApart syncs made d writes failed
      → AreApart later made d writes failed

  abbrev pub ApartWhetherFailed : Type 0
  ApartWhetherFailed = (syncs : List ℕ) (made : ℕ) (d : List Sector) (writes : List DiskWrite) (failed : Bool)
      → AreApart syncs made d writes false → AreApart syncs made d writes failed
