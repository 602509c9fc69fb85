-- A temporary file is made, lengthened, shortened and removed, as the permanent files see it.
use Rattle.std.specs.Prelude.{◌≡◌, ℕ, suc, ◌+◌, ◌/◌, ◌%◌, ◌^◌, ◌<◌, ◌≤◌, true, false, List, ◌∷◌, length, slice_get, Some}
use Rattle.labelled_disk.specs.declared.disk.DiskWrite.{DiskWrite}
use Rattle.labelled_disk.specs.Label.{leader_page, page_label}
use Rattle.labelled_disk.specs.Sectors.{Sector}
use Rattle.labelled_disk.specs.CrashState.{crash_state}
use Rattle.labelled_disk.specs.Layout.{capacity, data_sectors}
use Rattle.labelled_disk.specs.File.{File, size, total_room}
use Rattle.labelled_disk.specs.FilesOn.{is_of, leads_file, files_among, disk_file}
use Rattle.labelled_disk.specs.Right.{FilesRight}
use Rattle.labelled_disk.specs.Runs.{zero_bytes, growth, creation, freeing, AreUnused, IsAt, ArePagesDown, ArePagesUp}
use Rattle.label_laws.specs.Mixed.{label_writes}
use Rattle.label_laws.specs.MixedVolumes.{ShapesKept}

-- Whatever page bytes are written between the label writes, each crash state has the permanent files in the shapes that they
-- had, and their labels are right.
pub record TemporaryRunLaws (serial counter : ℕ) : Type 0 where
  pub growth : (d : List Sector) (writes : List DiskWrite) (k id kind : ℕ) (f : File) (is : List ℕ) → label_writes writes ≡ growth id kind (size f) is → FilesRight true serial counter d
      → disk_file true d id ≡ Some f → f.permanent ≡ false → AreUnused d is → length is + total_room (files_among true d) ≤ capacity (length d)
      → ShapesKept false serial counter d (crash_state d writes k)
  pub shrinking : (d : List Sector) (writes : List DiskWrite) (k id : ℕ) (f : File) (is : List ℕ) → label_writes writes ≡ freeing is → FilesRight true serial counter d
      → disk_file true d id ≡ Some f → f.permanent ≡ false → ArePagesDown d id (size f) is → ShapesKept false serial counter d (crash_state d writes k)
  pub creation : (d : List Sector) (writes : List DiskWrite) (k id kind leader : ℕ) (is : List ℕ) → label_writes writes ≡ creation id kind leader is → FilesRight true serial counter d
      → leads_file true id (page_label id kind leader_page, zero_bytes) ≡ true → ((j : ℕ) (u : Sector) → slice_get (data_sectors d) j ≡ Some u → is_of id u ≡ false)
      → (id / 2 ^ 32 ≡ serial → id % 2 ^ 32 < counter) → AreUnused d (leader ∷ is) → suc (length is) + total_room (files_among true d) ≤ capacity (length d)
      → ShapesKept false serial counter d (crash_state d writes k)
  pub deletion : (d : List Sector) (writes : List DiskWrite) (k id leader : ℕ) (f : File) (is : List ℕ) → label_writes writes ≡ freeing (leader ∷ is) → FilesRight true serial counter d
      → disk_file true d id ≡ Some f → f.permanent ≡ false → IsAt (leads_file true id) d leader → ArePagesUp d id 0 is → ShapesKept false serial counter d (crash_state d writes k)
