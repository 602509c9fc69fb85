-- The orders of a file, with writes of page bytes anywhere among them: the shape of the file in each crash state.
use Rattle.std.specs.Prelude.{◌≡◌, ℕ, suc, ◌+◌, ◌/◌, ◌%◌, ◌^◌, ◌<◌, ◌≤◌, Bool, true, false, List, ◌∷◌, length, replicate, slice_get, Some, None}
use Rattle.labelled_disk.specs.declared.disk.DiskWrite.{DiskWrite}
use Rattle.labelled_disk.specs.Label.{leader_page, page_label}
use Rattle.labelled_disk.specs.Sectors.{Sector}
use Rattle.labelled_disk.specs.CrashState.{crash_state}
use Rattle.labelled_disk.specs.Layout.{capacity, data_sectors}
use Rattle.labelled_disk.specs.File.{File, size, total_room, zero_page}
use Rattle.labelled_disk.specs.FilesOn.{is_of, leads_file, files_among, disk_file}
use Rattle.labelled_disk.specs.Right.{FilesRight}
use Rattle.labelled_disk.specs.Runs.{zero_bytes, growth, creation, freeing, AreUnused, IsAt, ArePagesDown, ArePagesUp, lengthened, shortened}
use Rattle.label_laws.specs.Mixed.{label_writes}
use Rattle.label_laws.specs.MixedVolumes.{ShapeChanged, label_count}

-- the label writes so far never get fewer
abbrev pub LabelCountRises : Type 0
LabelCountRises = (writes : List DiskWrite) (j k : ℕ) → j ≤ k → label_count writes j ≤ label_count writes k

module _ (with_temporary : Bool) (serial counter : ℕ) where
  -- the file at crash state k of some writes has the shape of this one
  abbrev pub ShapeIs : List Sector → List DiskWrite → ℕ → ℕ → File → Type 0
  ShapeIs d writes k id f = ShapeChanged with_temporary serial counter d (crash_state d writes k) id (Some f)

  pub record MixedRunLaws : Type 0 where
    -- no label was written yet
    pub before : (d : List Sector) (writes : List DiskWrite) (k id : ℕ) → FilesRight with_temporary serial counter d → label_count writes k ≡ 0
        → ShapeChanged with_temporary serial counter d (crash_state d writes k) id (disk_file with_temporary d id)
    pub growth : (d : List Sector) (writes : List DiskWrite) (k id kind : ℕ) (f : File) (is : List ℕ) → label_writes writes ≡ growth id kind (size f) is → FilesRight with_temporary serial counter d
        → disk_file with_temporary d id ≡ Some f → AreUnused d is → length is + total_room (files_among with_temporary d) ≤ capacity (length d) → ShapeIs d writes k id (lengthened (label_count writes k) f)
    pub shrinking : (d : List Sector) (writes : List DiskWrite) (k id : ℕ) (f : File) (is : List ℕ) → label_writes writes ≡ freeing is → FilesRight with_temporary serial counter d
        → disk_file with_temporary d id ≡ Some f → ArePagesDown d id (size f) is → ShapeIs d writes k id (shortened (label_count writes k) f)
    pub creation : (d : List Sector) (writes : List DiskWrite) (k j id kind leader : ℕ) (is : List ℕ) → label_writes writes ≡ creation id kind leader is → FilesRight with_temporary serial counter d
        → leads_file with_temporary id (page_label id kind leader_page, zero_bytes) ≡ true → ((j : ℕ) (u : Sector) → slice_get (data_sectors d) j ≡ Some u → is_of id u ≡ false)
        → (id / 2 ^ 32 ≡ serial → id % 2 ^ 32 < counter) → AreUnused d (leader ∷ is) → suc (length is) + total_room (files_among with_temporary d) ≤ capacity (length d)
        → label_count writes k ≡ suc j → ShapeIs d writes k id (record { id = id; kind = kind; permanent = false; immutable = false; pages = replicate j zero_page })
    pub deletion : (d : List Sector) (writes : List DiskWrite) (k j id leader : ℕ) (f : File) (is : List ℕ) → label_writes writes ≡ freeing (leader ∷ is) → FilesRight with_temporary serial counter d
        → disk_file with_temporary d id ≡ Some f → IsAt (leads_file with_temporary id) d leader → ArePagesUp d id 0 is → label_count writes k ≡ suc j
        → ShapeChanged with_temporary serial counter d (crash_state d writes k) id None
