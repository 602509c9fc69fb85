-- A conversion of an old volume: its writes, what they leave, and what stands in each crash state before.
use Rattle.std.specs.Prelude.{◌≡◌, ◌⊎◌, ℕ, ◌+◌, ◌<◌, ◌≤◌, ◌^◌, Some, true, false, List, [], ◌∷◌, ◌++◌, length, slice_get, slice_set}
use Rattle.std.specs.List.{AllByRecursion}
use Rattle.labelled_disk.specs.declared.disk.DiskWrite.{DiskWrite}
use Rattle.labelled_disk.specs.Label.{is_file, is_free, root_label}
use Rattle.labelled_disk.specs.Sectors.{Sector, AreSectors}
use Rattle.labelled_disk.specs.Layout.{IsCount, capacity, data_sectors, vam, vfm}
use Rattle.labelled_disk.specs.File.{total_room}
use Rattle.labelled_disk.specs.FilesOn.{files_on}
use Rattle.labelled_disk.specs.CrashState.{crash_state}
use Rattle.labelled_disk.specs.Root.{serial_of, counter_of}
use Rattle.labelled_disk.specs.WriteRuns.{after_writes}
use Rattle.volume_root.specs.declared.root.Root.{Root}
use Rattle.volume_root.specs.RootPage.{root_bytes, root_write}
use Rattle.volume_root.specs.Sound.{Sound}
use Rattle.label_survey.specs.Counter.{IsRaised}
use Rattle.scavenger.specs.Orders.{map_writes}
use Rattle.scavenger.specs.Stays.{AreBits, AreNames}
use Rattle.scavenger.specs.Restored.{RestoresEach}
use Rattle.old_files.specs.OldFiles.{files_old}
use Rattle.old_files.specs.Arranging.{IsSpareWrite, IsSettled}
use Rattle.old_files.specs.Conversion.{IsMapWrite, IsStillThat}

-- What is written: the old root that was read, the writes of free labels and leaders, the bytes of both maps, and the
-- counter.
pub record Conversion : Type 0 where
  pub root : Root
  pub arrange : List DiskWrite
  pub bits : List ℕ
  pub names : List ℕ
  pub counter : ℕ

-- the root of today, open
abbrev pub today : Root → Root
today root = record root { version = 3; clean = false }

-- and closed, with the new counter
abbrev pub closed_today : Conversion → Root
closed_today c = record (today c.root) { clean = true; counter = c.counter }

-- both maps, each sector with its label
abbrev pub both_maps : Conversion → List DiskWrite
both_maps c = map_writes 1 1 c.bits (vam c.root.sectors)
    ++ map_writes 2 (1 + vam c.root.sectors) c.names (vfm c.root.sectors)

-- free labels and leaders; both maps; the root, closed
abbrev pub convert_writes : Conversion → List DiskWrite
convert_writes c = (c.arrange ++ both_maps c) ++ root_write (closed_today c) ∷ []

-- the disk with free labels and leaders, as it would be with a root of today
abbrev pub settled_disk : List Sector → Conversion → List Sector
settled_disk d c = slice_set (after_writes c.arrange d) 0 (root_label, root_bytes (today c.root))

-- It is one of this disk. Nothing is asked of its maps.
pub record IsConversionOf (d : List Sector) (c : Conversion) : Type 0 where
  -- the root
  pub accepted : IsCount (length d)
  pub count : c.root.sectors ≡ length d
  pub serial : (1 ≤ c.root.serial) × (c.root.serial < 2 ^ 32)
  pub counter : (1 ≤ c.root.counter) × (c.root.counter < 2 ^ 32)
  pub next_fits : c.counter < 2 ^ 32
  -- free labels and leaders
  pub spare : AllByRecursion (IsSpareWrite d) c.arrange
  pub settled : IsSettled (data_sectors d) (data_sectors (after_writes c.arrange d))
  pub freed : (i : ℕ) (s : Sector) → slice_get (data_sectors (after_writes c.arrange d)) i ≡ Some s
      → is_file s.0 ≡ false → is_free s.0 ≡ true
  pub room : total_room (files_old d) ≤ capacity (length d)
  -- both maps, by the labels as they then are
  pub sectors : AreSectors (settled_disk d c)
  pub low : AllByRecursion (IsMapWrite d) (both_maps c)
  pub bits : AreBits (settled_disk d c) c.bits
  pub names : AreNames (settled_disk d c) c.names
  pub raised : IsRaised (settled_disk d c) c.root.serial c.root.counter c.counter

-- the old files of d, the serial, and a counter above them, on a sound volume
pub record IsConverted (d : List Sector) (c : Conversion) (h : List Sector) : Type 0 where
  pub sound : Sound h
  pub files : files_on h ≡ files_old d
  pub has_serial : serial_of h ≡ c.root.serial
  pub has_counter : IsRaised (settled_disk d c) c.root.serial c.root.counter (counter_of h)

-- so it is of each disk; and in each crash state root and old files are those of d, or all is written
pub record Converts (d : List Sector) (c : Conversion) : Type 0 where
  pub converted : IsConverted d c (after_writes (convert_writes c) d)
  pub crash_states : (k : ℕ) → IsStillThat d (crash_state d (convert_writes c) k)
      ⊎ (crash_state d (convert_writes c) k ≡ after_writes (convert_writes c) d)

abbrev pub ConvertingConverts : Type 0
ConvertingConverts = RestoresEach → (d : List Sector) (c : Conversion) → IsConversionOf d c → Converts d c
