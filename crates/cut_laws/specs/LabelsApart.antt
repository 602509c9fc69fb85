-- What the labels and the syncs of some writes say of the changes of permanent files.
use Rattle.std.specs.Prelude.{◌≡◌, ◌⊎◌, ℕ, suc, ◌+◌, ◌≤◌, Bool, true, false, List, ◌++◌, length, slice_get, Some, Contains}
use Rattle.labelled_disk.specs.declared.disk.DiskWrite.{DiskWrite}
use Rattle.labelled_disk.specs.declared.disk.DiskWrite.TheVariants.{LabelOnly}
use Rattle.labelled_disk.specs.CrashState.{crash_state}
use Rattle.labelled_disk.specs.File.{File}
use Rattle.labelled_disk.specs.FilesOn.{disk_file}
use Rattle.labelled_disk.specs.Sectors.{Sector, free_label}
use Rattle.labelled_disk.specs.WriteRuns.{after_writes}
use Rattle.label_laws.specs.Mixed.{gives_label}
use Rattle.label_laws.specs.PermittedRuns.{ArePermitted}
use Rattle.cut_laws.specs.ChangesApart.{AreChangesApart}
use Rattle.cut_laws.specs.LeaderWrites.{WritesLeader}
use Rattle.cut_laws.specs.Windows.{IsLabelWriteOf}

-- a label of a permanent file is written, or written over
abbrev pub IsLabelOfPermanent : ℕ → List Sector → DiskWrite → Type 0
IsLabelOfPermanent id now write = IsLabelWriteOf id now write × (f : File) × (disk_file false now id ≡ Some f)

-- none is but of this file's pages
abbrev pub IsAtMostPageOf : ℕ → List Sector → DiskWrite → Type 0
IsAtMostPageOf id now write = (other : ℕ)
    → (WritesLeader other now write → ⊥) × (IsLabelOfPermanent other now write → other ≡ id)

-- a label is freed
abbrev pub IsFreeing : DiskWrite → Type 0
IsFreeing (LabelOnly sector label) = label ≡ free_label
IsFreeing other = ⊥

-- Of these writes, which were made after so many others on a disk that held d.
module _ (syncs : List ℕ) (made : ℕ) (d : List Sector) (writes : List DiskWrite) where
  -- a leader's label comes right after a sync; after one that goes another sync follows, or it is the last write of a call
  -- that failed
  abbrev pub IsLeaderApart : Bool → ℕ → DiskWrite → Type 0
  IsLeaderApart failed k write = Contains syncs (made + k)
      × (IsFreeing write → Contains syncs (made + suc k) ⊎ ((failed ≡ true) × (suc k ≡ length writes)))

  -- since a sync labels of pages of this file alone were written, of those of permanent files
  abbrev pub ArePagesApart : ℕ → ℕ → Type 0
  ArePagesApart id k = (since : ℕ) × (since ≤ k) × Contains syncs (made + since)
      × ((i : ℕ) (write : DiskWrite) → since ≤ i → i ≤ k → slice_get writes i ≡ Some write
      → IsAtMostPageOf id (crash_state d writes i) write)

  -- this write is so
  abbrev pub IsLabelApart : Bool → ℕ → ℕ → DiskWrite → Type 0
  IsLabelApart failed id k write =
      (WritesLeader id (crash_state d writes k) write → IsLeaderApart failed k write)
      × (IsLabelOfPermanent id (crash_state d writes k) write
      → WritesLeader id (crash_state d writes k) write ⊎ ArePagesApart id k)

  -- each label of a permanent file is that of a leader or of a page, and comes so
  abbrev pub AreLabelsApart : Bool → Type 0
  AreLabelsApart failed = (k : ℕ) (write : DiskWrite) (id : ℕ) → slice_get writes k ≡ Some write
      → IsLabelApart failed id k write

-- so are the changes of permanent files
abbrev pub LabelsApartAreChangesApart : Type 0
LabelsApartAreChangesApart = (d : List Sector) (made : ℕ) (writes : List DiskWrite) (syncs : List ℕ) (failed : Bool)
    → ArePermitted d writes → AreLabelsApart syncs made d writes failed → AreChangesApart false syncs made d writes

-- Rows of writes: those of one call that did not fail, and then those of another; and bytes of pages alone.
abbrev pub LabelsApartThen : Type 0
LabelsApartThen = (d : List Sector) (made : ℕ) (first next : List DiskWrite) (syncs : List ℕ) (failed : Bool)
    → AreLabelsApart syncs made d first false
    → AreLabelsApart syncs (made + length first) (after_writes first d) next failed
    → AreLabelsApart syncs made d (first ++ next) failed

abbrev pub PagesAreApart : Type 0
PagesAreApart = (d : List Sector) (made : ℕ) (writes : List DiskWrite) (syncs : List ℕ) (failed : Bool)
    → ((k : ℕ) (write : DiskWrite) → slice_get writes k ≡ Some write → gives_label write ≡ false)
    → AreLabelsApart syncs made d writes failed
