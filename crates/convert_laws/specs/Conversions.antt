-- What the conversion of an old volume writes and leaves, whatever its labels are.
use Rattle.std.specs.Prelude.{◌≡◌, ◌⊎◌, ℕ, ◌≤◌, ◌<◌, ◌^◌, List, length, slice_get}
use Rattle.labelled_disk.specs.File.{total_room}
use Rattle.labelled_disk.specs.FilesOn.{files_on}
use Rattle.labelled_disk.specs.Layout.{capacity}
use Rattle.labelled_disk.specs.CrashState.{crash_state}
use Rattle.labelled_disk.specs.Root.{root_page, serial_of, counter_of}
use Rattle.labelled_disk.specs.Sectors.{Sector, AreSectors}
use Rattle.labelled_disk.specs.WriteRuns.{after_writes}
use Rattle.volume_root.specs.OldRoot.{IsValidOldRoot, judged_old}
use Rattle.volume_root.specs.RootPage.{root_in}
use Rattle.volume_root.specs.Sound.{Sound}
use Rattle.label_survey.specs.Counter.{IsRaised}
use Rattle.scavenger.specs.Restored.{RestoresEach}
use Rattle.scavenger.specs.Stays.{AreBits, AreNames}
use Rattle.old_files.specs.OldFiles.{files_old}
use Rattle.old_files.specs.Conversion.{IsStillThat}
use Rattle.convert_laws.specs.Converted.{Conversion, convert_writes, settled_disk}
use Rattle.convert_laws.specs.Orders.{first_writes}

-- It is the conversion of these sectors: the root there, all frees and leaders, both maps by the labels as they then
-- are, and a counter above the files.
pub record IsFor (d : List Sector) (c : Conversion) : Type 0 where
  pub root : c.root ≡ root_in (root_page d)
  pub arrange : c.arrange ≡ first_writes d
  pub bits : AreBits (settled_disk d c) c.bits
  pub names : AreNames (settled_disk d c) c.names
  pub counter : IsRaised (settled_disk d c) c.root.serial c.root.counter c.counter
  pub serial_fits : c.root.serial < 2 ^ 32
  pub counter_fits : c.counter < 2 ^ 32

-- a sound volume with the old files, the same serial, and a counter above its files
pub record IsConvertedTo (d h : List Sector) : Type 0 where
  pub sound : Sound h
  pub files : files_on h ≡ files_old d
  pub has_serial : serial_of h ≡ serial_of d
  pub has_counter : IsRaised h (serial_of d) (counter_of d) (counter_of h)

-- root and old files are those of d, or all is converted
abbrev pub IsOldOrConverted : List Sector → List Sector → Type 0
IsOldOrConverted d now = IsStillThat d now ⊎ IsConvertedTo d now

-- all its writes convert the volume, and so it is in each crash state
pub record ConvertsAll (d : List Sector) (c : Conversion) : Type 0 where
  pub converted : IsConvertedTo d (after_writes (convert_writes c) d)
  pub crash_states : (k : ℕ) → IsOldOrConverted d (crash_state d (convert_writes c) k)

-- So it is for each disk with a valid old root whose files have room.
abbrev pub ConversionsConvert : Type 0
ConversionsConvert = RestoresEach → (d : List Sector) (c : Conversion) → AreSectors d
    → IsValidOldRoot (length d) c.root → total_room (files_old d) ≤ capacity (length d)
    → IsFor d c → ConvertsAll d c

-- Of a volume that was left: its root is judged as before, it wants the same room of as many sectors, and what it
-- becomes is what the volume before becomes.
pub record ConvertsAgain (d e : List Sector) : Type 0 where
  pub sectors : length e ≡ length d
  pub root : slice_get e 0 ≡ slice_get d 0
  pub judged : (s : Sector) → judged_old (length e) s ≡ judged_old (length d) s
  pub wanted : total_room (files_old e) ≡ total_room (files_old d)
  pub room : capacity (length e) ≡ capacity (length d)
  pub converted : (h : List Sector) → IsConvertedTo e h → IsConvertedTo d h

abbrev pub LeftIsTakenAgain : Type 0
LeftIsTakenAgain = (d e : List Sector) → IsStillThat d e → ConvertsAgain d e
