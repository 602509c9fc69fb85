-- The clean flag of a volume: it is cleared when the volume is opened, and set again when it is closed.
use Rattle.std.specs.Prelude.{◌≡◌, ◌≢◌, ◌⊎◌, ℕ, Bool, true, if◌then◌else◌, List, length, slice_get, Some, Err}
use Rattle.labelled_disk.specs.declared.disk.DiskWrite.{DiskWrite}
use Rattle.labelled_disk.specs.declared.layout.RootFault.{RootFault}
use Rattle.labelled_disk.specs.declared.layout.RootFault.TheVariants as fault
use Rattle.labelled_disk.specs.CrashState.{written}
use Rattle.labelled_disk.specs.Sectors.{Sector, AreSectors}
use Rattle.labelled_disk.specs.FilesOn.{files_on}
use Rattle.labelled_disk.specs.Permitted.{Permitted}
use Rattle.labelled_disk.specs.Layout.{IsCount, data_sectors}
use Rattle.labelled_disk.specs.Root.{IsRoot, LabelsRight, root_page, serial_of, counter_of, short_at}
use Rattle.volume_root.specs.declared.root.Root.{Root}
use Rattle.volume_root.specs.RootPage.{judged, root_in, root_write}
use Rattle.volume_root.specs.Sound.{HasFileMap, Sound, map_bytes}

-- the root of these sectors, with this clean flag
abbrev pub root_with : Bool → List Sector → Root
root_with clean d = record (root_in (root_page d)) { clean = clean }

-- the write that gives a volume this flag
abbrev pub flag_write : Bool → List Sector → DiskWrite
flag_write clean d = root_write (root_with clean d)

-- the sectors with this flag
abbrev pub with_flag : Bool → List Sector → List Sector
with_flag clean d = written (flag_write clean d) d

-- the volume of these sectors can't be opened, and this is why
abbrev pub IsRefused : List Sector → RootFault → Type 0
IsRefused d why =
    ((¬ IsCount (length d)) × (why ≡ fault.BadCount (length d)))
    ⊎ (IsCount (length d) × (s : Sector) × (slice_get d 0 ≡ Some s) × (judged true (length d) s ≡ Err why))

-- Sectors with a valid root have one with each flag, and the volume is the same: nothing but sector 0 changes. Each of
-- the two writes, over these sectors or those with either flag, is permitted: of the few kinds that keep a volume repairable.
pub record FlagLaws (d : List Sector) : Type 0 where
  pub sectors : (clean : Bool) → length (with_flag clean d) ≡ length d
  pub others : (clean : Bool) (i : ℕ) → i ≢ 0 → slice_get (with_flag clean d) i ≡ slice_get d i
  pub same_data : (clean : Bool) → data_sectors (with_flag clean d) ≡ data_sectors d
  pub files : (clean : Bool) → files_on (with_flag clean d) ≡ files_on d
  pub has_serial : (clean : Bool) → serial_of (with_flag clean d) ≡ serial_of d
  pub has_counter : (clean : Bool) → counter_of (with_flag clean d) ≡ counter_of d
  pub flag : (clean : Bool) → short_at (root_page (with_flag clean d)) 10 ≡ (if clean then 1 else 0)
  pub map : (clean : Bool) → map_bytes (with_flag clean d) ≡ map_bytes d
  pub file_map : (clean : Bool) → HasFileMap d → HasFileMap (with_flag clean d)
  pub again : (before now : Bool) → written (flag_write now d) (with_flag before d) ≡ with_flag now d
  pub permitted_first : (clean : Bool) → Permitted d (flag_write clean d)
  pub permitted : (before now : Bool) → Permitted (with_flag before d) (flag_write now d)
  pub right : (clean : Bool) → LabelsRight d → LabelsRight (with_flag clean d)
  pub sound : Sound d → Sound (with_flag true d)

-- so it is on each disk
abbrev pub FlagKeepsVolume : Type 0
FlagKeepsVolume = (d : List Sector) → AreSectors d → IsRoot (length d) (slice_get d 0) → FlagLaws d

-- a sound volume is opened
abbrev pub SoundIsOpened : Type 0
SoundIsOpened = (d : List Sector) → AreSectors d → Sound d → (why : RootFault) → ¬ IsRefused d why
