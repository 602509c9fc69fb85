-- What `convert` does, by its status.
use Rattle.std.specs.Prelude.{◌≡◌, ◌⊎◌, ◌++◌, ℕ, List, codes, length, true}
use Rattle.std.specs.Fmt.{decimal}
use Rattle.labelled_disk.specs.declared.layout.RootFault.{RootFault}
use Rattle.labelled_disk.specs.declared.layout.RootFault.TheVariants as fault
use Rattle.labelled_disk.specs.File.{total_room}
use Rattle.labelled_disk.specs.Layout.{capacity}
use Rattle.labelled_disk.specs.Sectors.{Sector}
use Rattle.label_laws.specs.Counts.{total_pages}
use Rattle.volume_root.specs.OldRoot.{IsOldCount}
use Rattle.old_files.specs.OldFiles.{files_old}
use Rattle.volume_convert.specs.Answers.{HasNoRoom, IsNoOldVolume}
use Rattle.volume_convert.specs.Leaves.{AreMade, ArePartMade, IsConverted, StaysConvertible, old_unneeded}
use Rattle.pilot_top.specs.World.{World, Holds, DiskFailed, SinkFailed, StaysUnwritten, Writes, WritesPrefix, WritesLast}
use Rattle.pilot_top.specs.declared.last.Cause.TheVariants as cause
use Rattle.pilot_top.specs.declared.status.Status.{Status}
use Rattle.pilot_top.specs.declared.status.Status.TheVariants as status

-- the line about a conversion: files and pages that stay, page 0 of each among them, and sectors that were freed
abbrev pub conversion_line : ℕ → ℕ → ℕ → List ℕ
conversion_line files pages freed = codes "converted " ++ decimal files ++ codes " " ++ decimal pages ++ codes " "
    ++ decimal freed ++ codes "\n"

-- the text is such a line
pub record IsConversionLine (text : List ℕ) : Type 0 where
  pub files : ℕ
  pub pages : ℕ
  pub freed : ℕ
  pub text_is : text ≡ conversion_line files pages freed

-- the line about an old volume
abbrev pub converted_text : List Sector → List ℕ
converted_text d = conversion_line (length (files_old d)) (total_pages (files_old d)) (length (old_unneeded d))

-- the disk has an old volume
abbrev pub IsOldVolume : List Sector → Type 0
IsOldVolume d = (why : RootFault) → ¬ IsNoOldVolume d why

-- A `convert` ended with this status, and left disk and sink so.
pub record ConvertedBy (s : Status) (before after : World) : Type 0 where
  -- The old files stay, on a sound volume of today, and what was found is revealed.
  pub restored : (s ≡ status.Done) ⊎ (s ≡ status.StreamFault) → IsConverted before.disk after.disk
  pub synced : (s ≡ status.Done) ⊎ (s ≡ status.StreamFault) → after.disk.synced ≡ true
  pub line : s ≡ status.Done → (d : List Sector) → Holds before d → Writes before after (converted_text d)
  pub part_of_line : s ≡ status.StreamFault → (d : List Sector) → Holds before d
      → WritesPrefix before after (converted_text d)
  -- Whatever the disk holds, it is the line of some conversion.
  pub some_line : s ≡ status.Done → (text : List ℕ) × IsConversionLine text × Writes before after text
  pub some_prefix : s ≡ status.StreamFault → (text : List ℕ) × IsConversionLine text × WritesPrefix before after text
  -- Which writes were made; and after each of them the volume is the old one with its files, or all of it is converted.
  pub by : (s ≡ status.Done) ⊎ (s ≡ status.StreamFault) → AreMade before.disk after.disk
  pub part : s ≡ status.DiskFault → ArePartMade before.disk after.disk
  pub part_line : s ≡ status.DiskFault → WritesLast before after cause.DiskFault
  pub crash_states : StaysConvertible before.disk after.disk
  -- A disk that has no old volume; the count of sectors is revealed whatever it holds.
  pub count : ¬ IsOldCount before.disk.sectors
      → (s ≡ status.NoMemory)
      ⊎ ((s ≡ status.NotOpened) × WritesLast before after (cause.Root (fault.BadCount before.disk.sectors)))
  pub no_volume : (d : List Sector) → Holds before d → s ≡ status.NotOpened
      → (why : RootFault) × IsNoOldVolume d why × WritesLast before after (cause.Root why)
  pub no_volume_refused : (d : List Sector) (why : RootFault) → Holds before d → IsNoOldVolume d why
      → s ≡ status.NotOpened ⊎ s ≡ status.DiskFault ⊎ s ≡ status.NoMemory
  pub no_volume_unwritten : (d : List Sector) (why : RootFault) → Holds before d → IsNoOldVolume d why
      → StaysUnwritten before after
  -- Files without room are left, and the line has what they want and what there is.
  pub unfit : (d : List Sector) → Holds before d → s ≡ status.Unfit
      → IsOldVolume d × HasNoRoom d × StaysUnwritten before after
      × WritesLast before after (cause.Unfit (total_room (files_old d)) (capacity (length d)))
  pub unfit_refused : (d : List Sector) → Holds before d → IsOldVolume d → HasNoRoom d
      → s ≡ status.Unfit ⊎ s ≡ status.DiskFault ⊎ s ≡ status.NoMemory
  pub no_room_unwritten : (d : List Sector) → Holds before d → HasNoRoom d → StaysUnwritten before after
  -- An old volume whose files have room is converted, where nothing failed.
  pub complete : (d : List Sector) → Holds before d → IsOldVolume d → ¬ HasNoRoom d → ¬ DiskFailed before after
      → ¬ SinkFailed before after
      → (s ≡ status.Done) ⊎ (s ≡ status.NoMemory)
