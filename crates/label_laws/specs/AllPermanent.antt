-- The permanent files, and all files.
use Rattle.std.specs.Prelude.{◌≡◌, ℕ, true, false, if◌then◌else◌, List, filter, Option, Some, None}
use Rattle.std.specs.Option.{option_map_or}
use Rattle.labelled_disk.specs.Sectors.{Sector}
use Rattle.labelled_disk.specs.File.{File}
use Rattle.labelled_disk.specs.FilesOn.{disk_file, files_among, files_on}
use Rattle.labelled_disk.specs.Right.{FilesRight}
use Rattle.labelled_disk.specs.Root.{RightFor, LabelsRight}
use Rattle.labelled_disk.specs.RootLaws.{StaysRight}
use Rattle.labelled_disk.specs.WriteLaws.{Changed, Kept}
use Rattle.volume_root.specs.Sound.{Sound}
use Rattle.label_laws.specs.MixedVolumes.{ShapeChanged}
use Rattle.label_laws.specs.Unneeded.{AreFreeOrNeeded}

-- the permanent files are those of all that are permanent
abbrev pub PermanentAreAmong : List Sector → Type 0
PermanentAreAmong d = files_on d ≡ filter (λ f. f.permanent) (files_among true d)

-- the file, if it is permanent
abbrev pub if_permanent : Option File → Option File
if_permanent o = option_map_or (λ f. if f.permanent then Some f else None) o None

-- where the labels of all files are right, those of the permanent ones are
pub record PermanentLaws : Type 0 where
  pub among : (serial counter : ℕ) (d : List Sector) → FilesRight true serial counter d → PermanentAreAmong d
  pub files : (serial counter : ℕ) (d : List Sector) → FilesRight true serial counter d → FilesRight false serial counter d
  pub volume : (d : List Sector) → RightFor true d → LabelsRight d
  pub each : (serial counter : ℕ) (d : List Sector) (id : ℕ) → FilesRight true serial counter d → disk_file false d id ≡ if_permanent (disk_file true d id)

-- what happens to all files happens to the permanent ones, as far as it can be seen
pub record SeenByPermanent : Type 0 where
  pub changed : (serial counter : ℕ) (d e : List Sector) (id : ℕ) (now : Option File) → FilesRight true serial counter d → Changed true serial counter d e id now
      → Changed false serial counter d e id (if_permanent now)
  pub shape_changed : (serial counter : ℕ) (d e : List Sector) (id : ℕ) (now : Option File) → FilesRight true serial counter d → ShapeChanged true serial counter d e id now
      → ShapeChanged false serial counter d e id (if_permanent now)
  pub kept : (serial counter : ℕ) (d e : List Sector) → FilesRight true serial counter d → Kept true serial counter d e → Kept false serial counter d e
  pub stays_right : (d e : List Sector) → RightFor true d → StaysRight true d e → StaysRight false d e

-- where each data sector is free or a permanent file's, all files are permanent
pub record NoTemporaryLaws : Type 0 where
  pub files : (d : List Sector) → AreFreeOrNeeded false d → files_among true d ≡ files_on d
  pub right : (d : List Sector) → AreFreeOrNeeded false d → LabelsRight d → RightFor true d
  pub sound : (d : List Sector) → Sound d → RightFor true d × (files_among true d ≡ files_on d)
