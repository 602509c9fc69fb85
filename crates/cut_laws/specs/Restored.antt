-- A disk that is put in order: sectors that no file needs are freed, and root and maps are written.
use Rattle.std.specs.Prelude.{◌≡◌, ◌⊎◌, ℕ, ◌<◌, Bool, List, length, slice_get, Some}
use Rattle.labelled_disk.specs.declared.disk.DiskWrite.{DiskWrite}
use Rattle.labelled_disk.specs.declared.disk.DiskWrite.TheVariants.{Whole, LabelOnly, Page}
use Rattle.labelled_disk.specs.FilesOn.{files_among}
use Rattle.labelled_disk.specs.Layout.{first_data}
use Rattle.labelled_disk.specs.Sectors.{Sector, free_label}
use Rattle.label_laws.specs.Unneeded.{IsUnneeded}
use Rattle.cut_laws.specs.Cut.{IsCutSince}

module _ (with_temporary : Bool) where
  -- anything before the data, or a free label for a sector that no file of d needs
  abbrev pub IsRestoring : List Sector → DiskWrite → Type 0
  IsRestoring d (Whole sector label page) = sector < first_data (length d)
  IsRestoring d (LabelOnly sector label) = (sector < first_data (length d))
      ⊎ (IsUnneeded with_temporary d sector × (label ≡ free_label))
  IsRestoring d (Page sector wanted page) = sector < first_data (length d)

  -- whatever labels the disk has, each cut has its files
  abbrev pub RestoredKeepsFiles : Type 0
  RestoredKeepsFiles = (d : List Sector) (writes : List DiskWrite) (e : List Sector) → IsCutSince d writes e
      → ((k : ℕ) (write : DiskWrite) → slice_get writes k ≡ Some write → IsRestoring d write)
      → files_among with_temporary e ≡ files_among with_temporary d
