-- The writes that may be made on the disk of a volume.
use Rattle.std.specs.Prelude.{◌≡◌, ◌⊎◌, ℕ, ◌<◌, ◌≤◌, bit_or, true, List, length, replicate, slice_get, Some}
use Rattle.labelled_disk.specs.declared.label.Label.{Label}
use Rattle.labelled_disk.specs.declared.label.Wanted.{Wanted}
use Rattle.labelled_disk.specs.declared.disk.DiskWrite.{DiskWrite}
use Rattle.labelled_disk.specs.declared.disk.DiskWrite.TheVariants.{Whole, LabelOnly, Page}
use Rattle.labelled_disk.specs.Label.{is_free, is_file, names, leader_page, root_label}
use Rattle.labelled_disk.specs.Sectors.{Sector, free_label}
use Rattle.labelled_disk.specs.WriteLaws.{HasData}
use Rattle.labelled_disk.specs.Root.{IsRoot}

-- a valid root in sector 0
pub record IsRootWrite (d : List Sector) (sector : ℕ) (label : Label) (page : List ℕ) : Type 0 where
  pub place : sector ≡ 0
  pub root_label : label ≡ root_label
  pub valid : IsRoot (length d) (Some (label, page))

-- a page of zeros for a file or for the space tables, on a data sector that was free
pub record IsFreshWrite (d : List Sector) (sector : ℕ) (label : Label) (page : List ℕ) : Type 0 where
  pub old : (s : Sector) × HasData d sector s × (is_free s.0 ≡ true)
  pub of_file : ((label.page < 96) × (label ≡ record { id = 3; page = label.page; kind = 0; flags = 0; last = 0 })) ⊎ (is_file label ≡ true)
  pub no_flags : label.flags ≡ 0
  pub zero_page : page ≡ replicate 512 0

-- free, or the old leader with a mark more
abbrev pub IsNextLabel : Label → Label → Type 0
IsNextLabel old new =
    (new ≡ free_label) ⊎ ((old.page ≡ leader_page) × ((new ≡ record old { flags = bit_or old.flags 1 }) ⊎ (new ≡ record old { flags = bit_or old.flags 2 })))

-- another label for a data sector of a file or of the space tables
pub record IsLabelWrite (d : List Sector) (sector : ℕ) (label : Label) : Type 0 where
  pub old : (s : Sector) × HasData d sector s × ((s.0.id ≡ 3) ⊎ (16 ≤ s.0.id)) × IsNextLabel s.0 label

-- bytes for the page that the label there names
pub record IsPageWrite (d : List Sector) (sector : ℕ) (wanted : Wanted) : Type 0 where
  pub not_root : 0 < sector
  pub old : (s : Sector) × (slice_get d sector ≡ Some s) × (names s.0 wanted ≡ true)

-- the write may be made on these sectors
abbrev pub Permitted : List Sector → DiskWrite → Type 0
Permitted d (Whole sector label page) = IsRootWrite d sector label page ⊎ IsFreshWrite d sector label page
Permitted d (LabelOnly sector label) = IsLabelWrite d sector label
Permitted d (Page sector wanted page) = IsPageWrite d sector wanted
