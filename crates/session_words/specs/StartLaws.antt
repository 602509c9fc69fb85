-- The labels of a sound volume are those of its files, and those of the space tables are made one by one.
use Rattle.std.specs.Prelude.{◌≡◌, ◌⊎◌, ℕ, suc, true, false, List, slice_get, slice_set, Some}
use Rattle.labelled_disk.specs.declared.label.Label.{Label}
use Rattle.labelled_disk.specs.Label.{is_free}
use Rattle.labelled_disk.specs.Layout.{data_sectors}
use Rattle.labelled_disk.specs.Lowest.{is_needed}
use Rattle.labelled_disk.specs.Sectors.{Sector, AreSectors}
use Rattle.labelled_disk.specs.FilesOn.{files_on}
use Rattle.labelled_disk.specs.Root.{LabelsRight}
use Rattle.volume_root.specs.Sound as sound
use Rattle.swapper_kernel.specs.Stands.{labels_of}
use Rattle.session_words.specs.Parts.{is_owned_upto, Shapes, shapes_of, HasPages, HasLeaders, MarksFit, is_owned, is_marked}
use Rattle.session_words.specs.PlaceLaws.{IsMade}

-- the label of a page of the space tables
abbrev pub table_label : ℕ → Label
table_label page = record { id = 3; page = page; kind = 0; flags = 0; last = 0 }

-- the labels of a volume are those of its files, if each is free or needed
pub record IsFilesAlone (d : List Sector) : Type 0 where
  pub pages : HasPages (labels_of d) (is_owned_upto 0 (shapes_of (files_on d)))
  pub leaders : HasLeaders (labels_of d) (shapes_of (files_on d))

pub record StartLaws : Type 0 where
  pub bits : (d : List Sector) → AreSectors d → sound.HasBits d → MarksFit (is_marked d) (labels_of d)
  pub files : (d : List Sector) → LabelsRight d → ((i : ℕ) (s : Sector) → slice_get (data_sectors d) i ≡ Some s → (is_free s.0 ≡ true) ⊎ (is_needed false (data_sectors d) i ≡ true)) → IsFilesAlone d
  pub table : (labels : List Label) (k n : ℕ) (shapes : Shapes) → HasPages labels (is_owned_upto n shapes) → IsMade labels k (table_label n) (is_owned_upto n shapes)
      → HasPages (slice_set labels k (table_label n)) (is_owned_upto (suc n) shapes)
  pub whole : (labels : List Label) (shapes : Shapes) → HasPages labels (is_owned_upto 96 shapes) → HasPages labels (is_owned shapes)
