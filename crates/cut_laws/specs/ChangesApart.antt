-- Changes of files with a sync between each two, but that one file may get other sizes without one: each cut has the files
-- of one crash state.
use Rattle.std.specs.Prelude.{◌≡◌, ◌≢◌, ◌⊎◌, ℕ, suc, ◌+◌, ◌≤◌, Bool, true, List, length, slice_get, Some, Contains}
use Rattle.labelled_disk.specs.declared.disk.DiskWrite.{DiskWrite}
use Rattle.labelled_disk.specs.declared.disk.DiskWrite.TheVariants.{LabelOnly}
use Rattle.labelled_disk.specs.CrashState.{crash_state, written}
use Rattle.labelled_disk.specs.File.{File, size}
use Rattle.labelled_disk.specs.FilesOn.{disk_file, leads_file}
use Rattle.labelled_disk.specs.Label.{leader_page}
use Rattle.labelled_disk.specs.Sectors.{Sector}
use Rattle.labelled_disk.specs.WriteLaws.{HasData}
use Rattle.label_laws.specs.Shape.{SameShape, bare_file}
use Rattle.cut_laws.specs.Cut.{IsCut}
use Rattle.cut_laws.specs.Honest.{IsBetweenSyncs}
use Rattle.cut_laws.specs.OneCrashState.{AreFilesWhole, FilesOfOneCrashState}

module _ (with_temporary : Bool) where
  -- What a write does to the files.

  -- each keeps its shape
  abbrev pub IsQuiet : List Sector → DiskWrite → Type 0
  IsQuiet now write = (id : ℕ) → SameShape with_temporary now (written write now) id

  -- all others do
  abbrev pub LeavesOthers : ℕ → List Sector → DiskWrite → Type 0
  LeavesOthers id now write = (other : ℕ) → other ≢ id → SameShape with_temporary now (written write now) other

  -- this one gets another size
  abbrev pub IsResize : ℕ → List Sector → DiskWrite → Type 0
  IsResize id now write = LeavesOthers id now write
      × (f : File) × (disk_file with_temporary now id ≡ Some f)
      × (g : File) × (disk_file with_temporary (written write now) id ≡ Some g)
      × (bare_file g ≡ record (bare_file f) { pages = size g })

  -- its leader gets another label, by which it is there
  abbrev pub IsMark : ℕ → List Sector → DiskWrite → Type 0
  IsMark id now (LabelOnly sector label) = LeavesOthers id now (LabelOnly sector label)
      × (s : Sector) × HasData now sector s × (s.0.page ≡ leader_page)
      × (leads_file with_temporary id (label, s.1) ≡ true)
      × (f : File) × (disk_file with_temporary (written (LabelOnly sector label) now) id ≡ Some f)
  IsMark id now other = ⊥

  -- one label is written
  abbrev pub IsLabelled : ℕ → List Sector → DiskWrite → Type 0
  IsLabelled id now (LabelOnly sector label) = LeavesOthers id now (LabelOnly sector label)
  IsLabelled id now other = ⊥

  -- And which syncs are around it, of these writes, which were made after so many others on a disk that held d.
  module _ (syncs : List ℕ) (made : ℕ) (d : List Sector) (writes : List DiskWrite) where
    -- a mark comes right after a sync
    abbrev pub MarksApart : ℕ → DiskWrite → Type 0
    MarksApart k write = Contains syncs (made + k) × (id : ℕ) × IsMark id (crash_state d writes k) write

    -- a label by which a file goes, too, and another sync follows, or no write
    abbrev pub LabelsApart : ℕ → DiskWrite → Type 0
    LabelsApart k write = Contains syncs (made + k) × ((id : ℕ) × IsLabelled id (crash_state d writes k) write)
        × (Contains syncs (made + suc k) ⊎ (suc k ≡ length writes))

    -- of a size it is enough that nothing else changed since a sync
    abbrev pub ResizesApart : ℕ → Type 0
    ResizesApart k = (id : ℕ) × (since : ℕ) × (since ≤ k) × Contains syncs (made + since)
        × ((write : DiskWrite) → slice_get writes k ≡ Some write → IsResize id (crash_state d writes k) write)
        × ((i : ℕ) (write : DiskWrite) → since ≤ i → i ≤ k → slice_get writes i ≡ Some write
        → IsQuiet (crash_state d writes i) write ⊎ IsResize id (crash_state d writes i) write)

    abbrev pub AreChangesApart : Type 0
    AreChangesApart = (k : ℕ) (write : DiskWrite) → slice_get writes k ≡ Some write
        → IsQuiet (crash_state d writes k) write ⊎ MarksApart k write ⊎ LabelsApart k write ⊎ ResizesApart k

  -- Each cut after k of the writes, where the disk was synced after s of them, or before them, and not since.
  abbrev pub ChangesApartAreOfOneCrashState : Type 0
  ChangesApartAreOfOneCrashState = (d : List Sector) (made : ℕ) (writes : List DiskWrite) (syncs : List ℕ)
      → ((j : ℕ) → j ≤ length writes → AreFilesWhole with_temporary (crash_state d writes j))
      → AreChangesApart syncs made d writes
      → (k s : ℕ) (e : List Sector) → k ≤ length writes → IsBetweenSyncs syncs (made + s) (made + k)
      → IsCut d writes s k e → FilesOfOneCrashState with_temporary d writes s k e
