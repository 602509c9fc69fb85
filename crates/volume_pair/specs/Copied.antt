-- The second volume while a file is copied into it.
use Rattle.std.specs.Prelude.{◌≡◌, ◌≢◌, ◌<◌, ◌≤◌, ℕ, zero, suc, Bool, true, List, [], map, length, Some, slice_get}
use Rattle.labelled_disk.specs.declared.layout.Layout.{Layout}
use Rattle.labelled_disk.specs.File.{File, byte, size}
use Rattle.labelled_disk.specs.Label.{is_file}
use Rattle.labelled_disk.specs.Layout.{first_data}
use Rattle.labelled_disk.specs.Sectors.{Sector}
use Rattle.label_calls.specs.Bytes.{PutsPage}
use Rattle.filer_kernel.specs.View.{View}
use Rattle.swapper_kernel.specs.Differs.{Differs}
use Rattle.swapper_kernel.specs.Stands.{labels_of}
use Rattle.session_words.specs.Parts.{IsTriple, Shape, is_loose_at, shapes_of}
use Rattle.session_words.specs.PlaceLaws.{with_shape}
use Rattle.file_manager.specs.Book.{IsBookedUpto}
use Rattle.volume_pair.specs.CrashStates.{KeepsVolume}
use Rattle.volume_pair.specs.Sides.{HasBooks, HasPageBytes}

-- the page of the file, which stands in some sector, gets these bytes, and nothing else changes
pub record PutsInFile (id page : ℕ) (bytes : List ℕ) (m n : List Sector) : Type 0 where
  pub sector : ℕ
  pub triple : IsTriple (labels_of m) id page sector
  pub put : PutsPage sector (record { id = id; page = page }) bytes m n

-- the sectors of other files, and that of the root, are those of before
pub record KeepsOthers (id : ℕ) (x w : List Sector) : Type 0 where
  pub long : length w ≡ length x
  pub root : slice_get w 0 ≡ slice_get x 0
  pub others : (k : ℕ) (s : Sector) → slice_get w k ≡ Some s → first_data (length w) ≤ k → is_file s.0 ≡ true → s.0.id ≢ id → slice_get x k ≡ Some s

-- of the size and type of this file, with these marks
abbrev pub shape_with : File → Bool → Bool → Shape
shape_with f permanent immutable = record { kind = f.kind; permanent = permanent; immutable = immutable; size = size f }

-- Beside the files of before there is one more, which has so many first pages of this file's cells.
pub record IsCopying (v : View) (x : List Sector) (fs : List File) (f : File) (permanent immutable : Bool) (done : ℕ) : Type 0 where
  pub memory : List Sector
  pub books : HasBooks v (with_shape (shapes_of fs) f.id (shape_with f permanent immutable)) memory
  pub keeps : KeepsOthers f.id x memory
  pub cells : (page : ℕ) (bytes : List ℕ) → HasPageBytes memory f.id page bytes → page < done → slice_get f.pages page ≡ Some (map byte bytes)

-- But for the bytes in pages of the volume's own, the sectors are those of a memory with the files of before and this one, which
-- has both marks and all its cells.
pub record HasCopy (x : List Sector) (fs : List File) (f : File) (layout : Layout) (e : List Sector) : Type 0 where
  pub memory : List Sector
  pub booked : IsBookedUpto 0 layout [] (with_shape (shapes_of fs) f.id (shape_with f true true)) memory
  pub keeps : KeepsOthers f.id x memory
  pub cells : (page : ℕ) (bytes : List ℕ) → HasPageBytes memory f.id page bytes → page < size f → slice_get f.pages page ≡ Some (map byte bytes)
  pub differs : Differs (is_loose_at []) memory e

-- the volume is that of before, or after a step it has the copy
abbrev pub IsSealing : List Sector → List File → File → Layout → List Sector → ℕ → List Sector → Type 0
IsSealing x fs f layout d zero e = KeepsVolume d e
IsSealing x fs f layout d (suc k) e = HasCopy x fs f layout e
