-- A file that is found on a disk whose labels are those of some files.
use Rattle.std.specs.Prelude.{◌≡◌, ℕ, ◌<◌, true, List, map, slice_get, Some}
use Rattle.labelled_disk.specs.Label.{is_file_id, leader_page}
use Rattle.labelled_disk.specs.Sectors.{Sector}
use Rattle.labelled_disk.specs.File.{File, Page, byte}
use Rattle.labelled_disk.specs.FilesOn.{disk_file}
use Rattle.swapper_kernel.specs.Kinds.{HasKind, a_file}
use Rattle.session_words.specs.Parts.{Shape, Shapes, shape_of}

-- the identifiers are those of files, and the sizes are below the leader's page number
pub record AreShapes (shapes : Shapes) : Type 0 where
  pub given : (id : ℕ) (f : Shape) → shapes id ≡ Some f → is_file_id id ≡ true
  pub short : (id : ℕ) (f : Shape) → shapes id ≡ Some f → f.size < leader_page

-- a sector of the disk has this page of this file
pub record HasPage (d : List Sector) (id page : ℕ) (p : Page) : Type 0 where
  pub place : ℕ
  pub s : Sector
  pub there : HasKind d place s a_file
  pub same_id : s.0.id ≡ id
  pub same_page : s.0.page ≡ page
  pub bytes : p ≡ map byte s.1

-- a file of this shape is found, and its pages stand in sectors
pub record IsFound (d : List Sector) (id : ℕ) (shape : Shape) (f : File) : Type 0 where
  pub found : disk_file true d id ≡ Some f
  pub same_id : f.id ≡ id
  pub same_shape : shape_of f ≡ shape
  pub pages : (j : ℕ) (p : Page) → slice_get f.pages j ≡ Some p → HasPage d id j p
