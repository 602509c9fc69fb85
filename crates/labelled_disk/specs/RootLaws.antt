-- What one write makes of a volume's labels and files.
use Rattle.std.specs.Prelude.{◌≡◌, ◌≢◌, ℕ, ◌<◌, ◌≤◌, Bool, List, length, slice_get, slice_set, Some}
use Rattle.labelled_disk.specs.declared.disk.DiskWrite.{DiskWrite}
use Rattle.labelled_disk.specs.Sectors.{Sector}
use Rattle.labelled_disk.specs.CrashState.{written}
use Rattle.labelled_disk.specs.Layout.{first_data}
use Rattle.labelled_disk.specs.FilesOn.{disk_file, files_among}
use Rattle.labelled_disk.specs.Right.{FilesRight, OnlyMaps}
use Rattle.labelled_disk.specs.Root.{IsRoot, RightFor, number_at, serial_of, counter_of}
use Rattle.labelled_disk.specs.Permitted.{Permitted}
use Rattle.labelled_disk.specs.WriteLaws.{HasData}

module _ (with_temporary : Bool) where
  -- the files are as they were, and all labels are right
  pub record StaysRight (d e : List Sector) : Type 0 where
    pub files : files_among with_temporary e ≡ files_among with_temporary d
    pub right : RightFor with_temporary e

  -- a write of a data sector leaves root and maps, so only the files' labels count
  abbrev pub DataWritten : Type 0
  DataWritten = (d : List Sector) (i : ℕ) (s t : Sector) → RightFor with_temporary d → HasData d i s
      → FilesRight with_temporary (serial_of d) (counter_of d) (slice_set d i t) → RightFor with_temporary (slice_set d i t)

  -- another root with the same serial, and a counter that is no lower
  abbrev pub RootWritten : Type 0
  RootWritten = (d : List Sector) (t : Sector) → RightFor with_temporary d → IsRoot (length d) (Some t) → number_at t.1 16 ≡ serial_of d → counter_of d ≤ number_at t.1 20
      → StaysRight d (slice_set d 0 t)

  -- other bytes in a sector of a map
  abbrev pub MapWritten : Type 0
  MapWritten = (d : List Sector) (i : ℕ) (s : Sector) (page : List ℕ) → RightFor with_temporary d → 0 < i → i < first_data (length d) → slice_get d i ≡ Some s
      → StaysRight d (slice_set d i (s.0, page))

  -- whatever stands in both maps
  abbrev pub MapsDiffer : Type 0
  MapsDiffer = (d e : List Sector) → OnlyMaps d e → RightFor with_temporary d → StaysRight d e

  -- on any disk a permitted write changes one identifier's file at most
  abbrev pub OneFileAtMost : Type 0
  OneFileAtMost = (d : List Sector) (write : DiskWrite) → Permitted d write
      → (id : ℕ) × ((other : ℕ) → other ≢ id → disk_file with_temporary (written write d) other ≡ disk_file with_temporary d other)

  -- what each kind of write does
  pub record RootLaws : Type 0 where
    pub data_written : DataWritten
    pub root_written : RootWritten
    pub map_written : MapWritten
    pub maps_differ : MapsDiffer
    pub one_file : OneFileAtMost
