-- A volume that was just made is sound, and has no file.
use Rattle.std.specs.Prelude.{◌≡◌, ℕ, ◌<◌, ◌≤◌, ◌^◌, List, [], length}
use Rattle.labelled_disk.specs.Sectors.{Sector}
use Rattle.labelled_disk.specs.Layout.{IsCount}
use Rattle.labelled_disk.specs.FilesOn.{files_on}
use Rattle.labelled_disk.specs.Root.{serial_of, counter_of}
use Rattle.volume_root.specs.Format.{formatted}
use Rattle.volume_root.specs.Sound.{Sound}

-- a sound volume of n sectors without a file, with this serial and counter
pub record IsEmptyVolume (n serial counter : ℕ) (d : List Sector) : Type 0 where
  pub sectors : length d ≡ n
  pub sound : Sound d
  pub no_files : files_on d ≡ []
  pub has_serial : serial_of d ≡ serial
  pub has_counter : counter_of d ≡ counter

-- a new volume is a sound one without a file
abbrev pub NewIsEmpty : Type 0
NewIsEmpty = (n serial counter : ℕ) → IsCount n → 1 ≤ serial → serial < 2 ^ 32 → 1 ≤ counter → counter < 2 ^ 32 → IsEmptyVolume n serial counter (formatted n serial counter)
