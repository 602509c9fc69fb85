-- What makes a volume sound: its parts but the clean flag, and then a root that says so.
use Rattle.std.specs.Prelude.{◌≡◌, ◌↔◌, ◌≤◌, ◌<◌, ◌^◌, true, false, List, length, slice_get, slice_set, Some}
use Rattle.std.specs.List.{AllByRecursion}
use Rattle.labelled_disk.specs.Sectors.{Sector, AreSectors}
use Rattle.labelled_disk.specs.CrashState.{written}
use Rattle.labelled_disk.specs.Layout.{capacity}
use Rattle.labelled_disk.specs.File.{total_room}
use Rattle.labelled_disk.specs.FilesOn.{files_on}
use Rattle.labelled_disk.specs.Right.{IsGiven}
use Rattle.labelled_disk.specs.Root.{IsRoot, HasMaps, LabelsRight, root_page, number_at, short_at, serial_of, counter_of}
use Rattle.volume_root.specs.declared.root.Root.{Root}
use Rattle.volume_root.specs.Flag.{with_flag}
use Rattle.volume_root.specs.RootPage.{IsValidRoot, root_write}
use Rattle.label_laws.specs.Unneeded.{AreFreeOrNeeded}
use Rattle.volume_root.specs.Sound.{HasBits, HasFileMap, Sound}

-- sound, whatever the clean flag
pub record IsSoundButFlag (d : List Sector) : Type 0 where
  pub labels : LabelsRight d
  pub free_or_needed : AreFreeOrNeeded false d
  pub bits : HasBits d
  pub file_map : HasFileMap d

-- any valid clean root with the same serial and a counter that is no lower, a root of such fields, and the flag alone
pub record SoundLaws (d : List Sector) : Type 0 where
  pub by_sector : (t : Sector) → IsRoot (length d) (Some t) → number_at t.1 16 ≡ serial_of d → counter_of d ≤ number_at t.1 20 → short_at t.1 10 ≡ 1 → Sound (slice_set d 0 t)
  pub by_root : (root : Root) → IsValidRoot (length d) root → root.clean ≡ true → root.serial ≡ serial_of d → counter_of d ≤ root.counter → root.serial < 2 ^ 32 → root.counter < 2 ^ 32
      → Sound (written (root_write root) d)
  pub by_flag : AreSectors d → Sound (with_flag true d)

abbrev pub SoundWhenClosed : Type 0
SoundWhenClosed = (d : List Sector) → IsSoundButFlag d → SoundLaws d

-- a volume is sound exactly where it is so but for its clean flag, and the flag says that it was closed
abbrev pub SoundByParts : Type 0
SoundByParts = (d : List Sector) → (Sound d ↔ (IsSoundButFlag d × (short_at (root_page d) 10 ≡ 1)))

-- all that a sound volume is, but that there is room for its files
pub record IsSoundButRoom (d : List Sector) : Type 0 where
  pub has_root : IsRoot (length d) (slice_get d 0)
  pub has_maps : HasMaps (length d) d
  pub ids_given : AllByRecursion (IsGiven (serial_of d) (counter_of d)) (files_on d)
  pub clean : short_at (root_page d) 10 ≡ 1
  pub free_or_needed : AreFreeOrNeeded false d
  pub bits : HasBits d
  pub file_map : HasFileMap d

-- so it is sound exactly where there is room
abbrev pub SoundByRoom : Type 0
SoundByRoom = (d : List Sector) → IsSoundButRoom d → (Sound d ↔ (total_room (files_on d) ≤ capacity (length d)))
