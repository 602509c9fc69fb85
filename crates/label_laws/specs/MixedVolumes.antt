-- Label writes mixed with writes of page bytes, on a volume.
use Rattle.std.specs.Prelude.{◌≡◌, ◌≢◌, ℕ, ◌<◌, ◌≤◌, Bool, List, length, take, slice_get, Option, option_map}
use Rattle.std.specs.List.{AllByRecursion}
use Rattle.labelled_disk.specs.declared.label.Wanted.{Wanted}
use Rattle.labelled_disk.specs.declared.disk.DiskWrite.{DiskWrite}
use Rattle.labelled_disk.specs.declared.disk.DiskWrite.TheVariants.{Whole, LabelOnly, Page}
use Rattle.labelled_disk.specs.Sectors.{Sector}
use Rattle.labelled_disk.specs.CrashState.{crash_state, written}
use Rattle.labelled_disk.specs.Layout.{first_data}
use Rattle.labelled_disk.specs.File.{File}
use Rattle.labelled_disk.specs.FilesOn.{disk_file}
use Rattle.labelled_disk.specs.Right.{FilesRight}
use Rattle.labelled_disk.specs.Root.{RightFor, serial_of, counter_of}
use Rattle.labelled_disk.specs.WriteLaws.{Changed}
use Rattle.label_laws.specs.Mixed.{labels, label_writes}
use Rattle.label_laws.specs.Shape.{SameShape, bare_file}

-- the write leaves the root and the labels of both maps
abbrev pub LeavesLow : ℕ → DiskWrite → Type 0
LeavesLow first (Whole sector label page) = first ≤ sector
LeavesLow first (LabelOnly sector label) = first ≤ sector
LeavesLow first (Page sector wanted page) = 0 < sector

-- one file has this shape now, all others have those that they had, and the labels of the files are right
pub record ShapeChanged (with_temporary : Bool) (serial counter : ℕ) (d e : List Sector) (id : ℕ) (now : Option File) : Type 0 where
  pub file : option_map bare_file (disk_file with_temporary e id) ≡ option_map bare_file now
  pub others : (other : ℕ) → other ≢ id → SameShape with_temporary d e other
  pub right : FilesRight with_temporary serial counter e

-- all files have the shapes that they had, and the labels of the files are right
pub record ShapesKept (with_temporary : Bool) (serial counter : ℕ) (d e : List Sector) : Type 0 where
  pub shapes : (other : ℕ) → SameShape with_temporary d e other
  pub right : FilesRight with_temporary serial counter e

-- the crash state of the label writes alone that has the labels of crash state k
abbrev pub label_count : List DiskWrite → ℕ → ℕ
label_count writes k = length (label_writes (take k writes))

pub record MixedLaws (with_temporary : Bool) : Type 0 where
  -- the same labels and the same root
  pub labels_right : (d e : List Sector) → labels e ≡ labels d → slice_get e 0 ≡ slice_get d 0 → RightFor with_temporary d → RightFor with_temporary e
  -- bytes for a page, whether or not its label names it
  pub page_right : (d : List Sector) (sector : ℕ) (wanted : Wanted) (page : List ℕ) → 0 < sector → RightFor with_temporary d → RightFor with_temporary (written (Page sector wanted page) d)
  -- any writes that leave root and maps
  pub runs_right : (d : List Sector) (writes : List DiskWrite) (k : ℕ) → RightFor with_temporary d → AllByRecursion (LeavesLow (first_data (length d))) writes
      → FilesRight with_temporary (serial_of d) (counter_of d) (crash_state d writes k) → RightFor with_temporary (crash_state d writes k)
  -- what the label writes alone make of a file is what all make of its shape
  pub changes : (serial counter : ℕ) (d : List Sector) (writes : List DiskWrite) (k id : ℕ) (now : Option File)
      → Changed with_temporary serial counter d (crash_state d (label_writes writes) (label_count writes k)) id now → ShapeChanged with_temporary serial counter d (crash_state d writes k) id now
  -- and there are no more of them than there are
  pub fewer : (writes : List DiskWrite) (k : ℕ) → label_count writes k ≤ length (label_writes writes)
