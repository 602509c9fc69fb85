-- A file that is shortened or lengthened, said of the writes alone.
use Rattle.std.specs.Prelude.{◌≡◌, ◌⊎◌, ℕ, suc, ◌<◌, Bool, true, List, length, map, slice_get, Some}
use Rattle.labelled_disk.specs.declared.disk.DiskWrite.{DiskWrite}
use Rattle.labelled_disk.specs.declared.disk.DiskWrite.TheVariants.{Whole, LabelOnly, Page}
use Rattle.labelled_disk.specs.File.{File, Page as Cells, byte, size}
use Rattle.labelled_disk.specs.FilesOn.{disk_file, is_page}
use Rattle.labelled_disk.specs.Label.{is_free, leader_page}
use Rattle.labelled_disk.specs.CrashState.{crash_state}
use Rattle.labelled_disk.specs.Runs.{sector_of, zero_bytes}
use Rattle.labelled_disk.specs.Sectors.{Sector, free_label}
use Rattle.label_laws.specs.PermittedRuns.{ArePermitted}
use Rattle.label_laws.specs.Mixed.{gives_label}
use Rattle.label_laws.specs.Shape.{SameShape}
use Rattle.cut_laws.specs.Cut.{AtSome, IsCutSince}
use Rattle.cut_laws.specs.ShapeLaws.{IsWholeOn}
use Rattle.cut_laws.specs.Windows.{EachWrite, FreeIsUnwritten, IsLabelWriteOf, IsUnwritten, PagesOfCrashStates, disk_page}

-- the sector of the file's last page is freed
abbrev pub FreesLastPage : ℕ → List Sector → DiskWrite → Type 0
FreesLastPage id now (Whole sector label page) = ⊥
FreesLastPage id now (LabelOnly sector label) = (label ≡ free_label) × (f : File) × (disk_file true now id ≡ Some f)
    × (s : Sector) × (slice_get now sector ≡ Some s) × (p : ℕ) × (size f ≡ suc p) × (is_page id p s ≡ true)
FreesLastPage id now (Page sector wanted page) = ⊥

-- a sector gets the label of the page after the file's last
abbrev pub AddsNextPage : ℕ → List Sector → DiskWrite → Type 0
AddsNextPage id now (Whole sector label page) = (f : File) × (disk_file true now id ≡ Some f)
    × (is_page id (size f) (label, page) ≡ true) × (suc (size f) < leader_page)
AddsNextPage id now (LabelOnly sector label) = ⊥
AddsNextPage id now (Page sector wanted page) = ⊥

-- The file is shortened from its last page down, or lengthened at its end. A sector that gives a page up or becomes one
-- gets no other label, and one that becomes a page had zeros where it was free at first.
pub record IsResized (d : List Sector) (writes : List DiskWrite) (id : ℕ) : Type 0 where
  pub whole : IsWholeOn d id
  pub at_end : EachWrite (λ now write. IsLabelWriteOf id now write
      → FreesLastPage id now write ⊎ AddsNextPage id now write) d writes
  pub one_label : (k l : ℕ) (write other : DiskWrite) → slice_get writes k ≡ Some write
      → IsLabelWriteOf id (crash_state d writes k) write → slice_get writes l ≡ Some other → gives_label other ≡ true
      → sector_of other ≡ sector_of write → l ≡ k
  pub zeros : (k : ℕ) (write : DiskWrite) (s : Sector) → slice_get writes k ≡ Some write
      → IsLabelWriteOf id (crash_state d writes k) write → slice_get d (sector_of write) ≡ Some s → is_free s.0 ≡ true
      → s.1 ≡ zero_bytes
  pub free_unwritten : FreeIsUnwritten d writes

-- The file has the size of one crash state, its pages are its own, and a page that was not written has the bytes that it
-- had, or is new and zeros.
pub record SizeBetween (with_temporary : Bool) (d : List Sector) (writes : List DiskWrite) (e : List Sector) (id : ℕ)
    : Type 0 where
  pub shape : AtSome 0 (length writes) (λ j. SameShape with_temporary (crash_state d writes j) e id)
  pub pages : PagesOfCrashStates d writes e id
  pub unwritten : (p : ℕ) (cells : Cells) → p < leader_page → IsUnwritten id p d writes
      → disk_page e id p ≡ Some cells → (disk_page d id p ≡ Some cells) ⊎ (cells ≡ map byte zero_bytes)

abbrev pub ResizedHasSizeBetween : Bool → Type 0
ResizedHasSizeBetween with_temporary = (d : List Sector) (writes : List DiskWrite) (e : List Sector) (id : ℕ)
    → ArePermitted d writes → IsCutSince d writes e → IsResized d writes id
    → SizeBetween with_temporary d writes e id
