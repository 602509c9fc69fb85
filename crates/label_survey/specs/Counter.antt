-- The counter of a volume, raised above its files.
use Rattle.std.specs.Prelude.{◌≡◌, ◌⊎◌, ℕ, ◌+◌, ◌/◌, ◌%◌, ◌^◌, ◌≤◌, false, List, Some}
use Rattle.std.specs.List.{AllByRecursion}
use Rattle.labelled_disk.specs.Sectors.{Sector}
use Rattle.labelled_disk.specs.File.{File}
use Rattle.labelled_disk.specs.FilesOn.{files_on, disk_file}
use Rattle.labelled_disk.specs.Right.{IsGiven}

-- above each permanent file of this serial, and no higher than it has to be
pub record IsRaised (d : List Sector) (serial counter now : ℕ) : Type 0 where
  pub kept : counter ≤ now
  pub given : AllByRecursion (IsGiven serial now) (files_on d)
  pub least : (now ≡ counter) ⊎ ((f : File) × (disk_file false d f.id ≡ Some f) × (f.id / 2 ^ 32 ≡ serial) × (f.id % 2 ^ 32 + 1 ≡ now))
