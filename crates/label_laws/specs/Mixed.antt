-- Label writes mixed with writes of page bytes: the labels in each crash state, and the cells of a page that no write names.
use Rattle.std.specs.Prelude.{◌≡◌, ◌≢◌, ℕ, Bool, true, false, ◌==◌, if◌then◌else◌, List, [], ◌∷◌, length, map, take, filter, slice_get, Some}
use Rattle.std.specs.List.{AllByRecursion}
use Rattle.labelled_disk.specs.declared.label.Label.{Label}
use Rattle.labelled_disk.specs.declared.disk.DiskWrite.{DiskWrite}
use Rattle.labelled_disk.specs.declared.disk.DiskWrite.TheVariants.{Whole, LabelOnly, Page}
use Rattle.labelled_disk.specs.Label.{leader_page}
use Rattle.labelled_disk.specs.Sectors.{Sector}
use Rattle.labelled_disk.specs.CrashState.{crash_state}
use Rattle.labelled_disk.specs.File.{File, byte}
use Rattle.labelled_disk.specs.FilesOn.{is_page, disk_file}
use Rattle.labelled_disk.specs.Right.{FilesRight}
use Rattle.labelled_disk.specs.Runs.{sector_of}
use Rattle.labelled_disk.specs.WriteLaws.{HasData}
use Rattle.label_laws.specs.PermittedRuns.{ArePermitted}

-- the labels of a disk
abbrev pub labels : List Sector → List Label
labels d = map (λ s. s.0) d

-- the write gives a label
abbrev pub gives_label : DiskWrite → Bool
gives_label (Whole sector label page) = true
gives_label (LabelOnly sector label) = true
gives_label (Page sector wanted page) = false

-- the writes that give a label, in their order
abbrev pub label_writes : List DiskWrite → List DiskWrite
label_writes writes = filter gives_label writes

-- in each crash state the labels are those that the label writes before it give
abbrev pub LabelsByLabelWrites : Type 0
LabelsByLabelWrites = (d : List Sector) (writes : List DiskWrite) (k : ℕ) → labels (crash_state d writes k) ≡ labels (crash_state d (label_writes writes) (length (label_writes (take k writes))))

-- a sector that no write was made on stands as it stood
abbrev pub SectorStays : Type 0
SectorStays = (d : List Sector) (writes : List DiskWrite) (k i : ℕ) → AllByRecursion (λ write. sector_of write ≢ i) (take k writes) → slice_get (crash_state d writes k) i ≡ slice_get d i

-- the bytes of a sector after these writes, where they give it no label
abbrev pub page_after : ℕ → List ℕ → List DiskWrite → List ℕ
page_after i page [] = page
page_after i page (Whole sector label new ∷ writes) = page_after i page writes
page_after i page (LabelOnly sector label ∷ writes) = page_after i page writes
page_after i page (Page sector wanted new ∷ writes) = page_after i (if sector == i then new else page) writes

-- the write gives no label to this sector
abbrev pub LeavesLabel : ℕ → DiskWrite → Type 0
LeavesLabel i write = gives_label write ≡ true → sector_of write ≢ i

-- permitted writes that give a sector no label leave it the label, and the bytes that were written last
abbrev pub LastPageStands : Type 0
LastPageStands = (d : List Sector) (writes : List DiskWrite) (k i : ℕ) (s : Sector) → ArePermitted d writes → slice_get d i ≡ Some s → AllByRecursion (LeavesLabel i) (take k writes)
    → slice_get (crash_state d writes k) i ≡ Some (s.0, page_after i s.1 (take k writes))

module _ (with_temporary : Bool) (serial counter : ℕ) where
  -- with right labels, a sector that is a page of a file has its cells
  abbrev pub PageStands : Type 0
  PageStands = (d : List Sector) (i : ℕ) (s : Sector) (id p : ℕ) (f : File) → FilesRight with_temporary serial counter d → HasData d i s → is_page id p s ≡ true → p ≢ leader_page
      → disk_file with_temporary d id ≡ Some f → slice_get f.pages p ≡ Some (map byte s.1)

  -- so the page of a sector that no write was made on keeps its cells, whatever else was written
  abbrev pub PageStays : Type 0
  PageStays = (d : List Sector) (writes : List DiskWrite) (k i : ℕ) (s : Sector) (id p : ℕ) (g : File) → HasData d i s → is_page id p s ≡ true → p ≢ leader_page
      → AllByRecursion (λ write. sector_of write ≢ i) (take k writes) → FilesRight with_temporary serial counter (crash_state d writes k) → disk_file with_temporary (crash_state d writes k) id ≡ Some g
      → slice_get g.pages p ≡ Some (map byte s.1)

  -- or, where the writes are permitted, has the cells of the bytes that were written last
  abbrev pub LastPageShows : Type 0
  LastPageShows = (d : List Sector) (writes : List DiskWrite) (k i : ℕ) (s : Sector) (id p : ℕ) (g : File) → HasData d i s → is_page id p s ≡ true → p ≢ leader_page
      → ArePermitted d writes → AllByRecursion (LeavesLabel i) (take k writes) → FilesRight with_temporary serial counter (crash_state d writes k) → disk_file with_temporary (crash_state d writes k) id ≡ Some g
      → slice_get g.pages p ≡ Some (map byte (page_after i s.1 (take k writes)))
