-- What labels alone say of the files of a disk: all but their bytes.
use Rattle.std.specs.Prelude.{◌≡◌, ℕ, ◌<◌, Bool, true, List, length, take, slice_get, Option, Some, None, option_map}
use Rattle.std.specs.Option.{option_map_or}
use Rattle.labelled_disk.specs.declared.disk.DiskWrite.{DiskWrite}
use Rattle.labelled_disk.specs.Sectors.{Sector}
use Rattle.labelled_disk.specs.CrashState.{crash_state}
use Rattle.labelled_disk.specs.Layout.{data_sectors}
use Rattle.labelled_disk.specs.File.{File, Page, size, total_room}
use Rattle.labelled_disk.specs.FilesOn.{is_page, disk_file, files_among}
use Rattle.labelled_disk.specs.Lowest.{is_needed}
use Rattle.labelled_disk.specs.Right.{FilesRight}
use Rattle.labelled_disk.specs.WriteLaws.{HasData}
use Rattle.label_laws.specs.Mixed.{labels, label_writes}

-- a file without its bytes
pub record BareFile : Type 0 where
  pub id : ℕ
  pub kind : ℕ
  pub permanent : Bool
  pub immutable : Bool
  pub pages : ℕ

abbrev pub bare_file : File → BareFile
bare_file f = record { id = f.id; kind = f.kind; permanent = f.permanent; immutable = f.immutable; pages = size f }

-- files of one shape are the same where each page is
abbrev pub SameByPages : Type 0
SameByPages = (f g : File) → bare_file g ≡ bare_file f → ((p : ℕ) → p < size f → slice_get g.pages p ≡ slice_get f.pages p) → g ≡ f

module _ (with_temporary : Bool) where
  -- the file of an identifier has this shape on both disks, or there is none on either
  abbrev pub SameShape : List Sector → List Sector → ℕ → Type 0
  SameShape d e id = option_map bare_file (disk_file with_temporary e id) ≡ option_map bare_file (disk_file with_temporary d id)

  -- two disks with the same labels
  pub record LabelLaws (d e : List Sector) : Type 0 where
    pub shapes : (id : ℕ) → SameShape d e id
    pub room : total_room (files_among with_temporary e) ≡ total_room (files_among with_temporary d)
    pub needed : (i : ℕ) → is_needed with_temporary (data_sectors e) i ≡ is_needed with_temporary (data_sectors d) i
    pub right : (serial counter : ℕ) → FilesRight with_temporary serial counter d → FilesRight with_temporary serial counter e

  abbrev pub LabelsGiveShape : Type 0
  LabelsGiveShape = (d e : List Sector) → labels e ≡ labels d → LabelLaws d e

  -- the cells of a page of a file, if there is one
  abbrev pub page_on : List Sector → ℕ → ℕ → Option Page
  page_on d id p = option_map_or (λ f. slice_get f.pages p) (disk_file with_temporary d id) None

  -- two disks with the same labels have the same page of a file, where the sectors that are this page are the same
  abbrev pub PagesBySectors : Type 0
  PagesBySectors = (d e : List Sector) (id p : ℕ) → labels e ≡ labels d → ((i : ℕ) (s : Sector) → HasData d i s → is_page id p s ≡ true → slice_get e i ≡ Some s)
      → page_on e id p ≡ page_on d id p

  -- so writes of page bytes among label writes change no shape
  abbrev pub MixedShapes : Type 0
  MixedShapes = (d : List Sector) (writes : List DiskWrite) (k : ℕ) → LabelLaws (crash_state d (label_writes writes) (length (label_writes (take k writes)))) (crash_state d writes k)
