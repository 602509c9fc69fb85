-- How a pair starts, and how the second volume is closed.
use Rattle.std.specs.Prelude.{◌≡◌, ◌⊎◌, ℕ, false, true, List, length, slice_get, Some}
use Rattle.labelled_disk.specs.declared.disk.DiskWrite.{DiskWrite}
use Rattle.labelled_disk.specs.declared.evidence.Halt.TheVariants as halt
use Rattle.labelled_disk.specs.declared.layout.Layout.{Layout}
use Rattle.labelled_disk.specs.declared.layout.RootFault.{RootFault}
use Rattle.labelled_disk.specs.declared.layout.RootFault.TheVariants as fault
use Rattle.labelled_disk.specs.Calls.{Rose}
use Rattle.labelled_disk.specs.File.{total_room}
use Rattle.labelled_disk.specs.FilesOn.{files_on}
use Rattle.labelled_disk.specs.Layout.{capacity}
use Rattle.labelled_disk.specs.Root.{counter_of, serial_of}
use Rattle.labelled_disk.specs.Sectors.{Sector}
use Rattle.labelled_disk.specs.State.{DiskState}
use Rattle.frame_pool.specs.Frames.{Frame, Has, Slots}
use Rattle.swapper_kernel.specs.declared.manager.Manager.{Manager}
use Rattle.swapper_kernel.specs.Goes.{IsDirty, Went, Wrote}
use Rattle.swapper_kernel.specs.Homes.{IsLayout}
use Rattle.swapper_kernel.specs.Maps.{id_of}
use Rattle.filer_kernel.specs.Evidence.{ShowsEvidence}
use Rattle.filer_kernel.specs.View.{MakesOnly, View}
use Rattle.session_words.specs.OpenLaws.{CanOpen}
use Rattle.session_words.specs.Parts.{HasRoot}
use Rattle.session_words.specs.Volume.{volume_page}
use Rattle.volume_root.specs.declared.root.Root.{Root}
use Rattle.volume_root.specs.Flag.{IsRefused, with_flag}
use Rattle.volume_root.specs.Sound.{Sound}
use Rattle.file_manager.specs.declared.volume.Volume.{Volume}
use Rattle.pair_machine.specs.Pair.{Pair}
use Rattle.volume_pair.specs.declared.fault.PairStart.{PairStart}
use Rattle.volume_pair.specs.declared.fault.PairStart.TheVariants as start
use Rattle.volume_pair.specs.Owned.{EachWrite, IsWriteFor, no_file}
use Rattle.volume_pair.specs.Sides.{IsSide}

-- no frame is there
abbrev pub IsBare : Slots → Type 0
IsBare slots = (i : ℕ) (f : Frame) → Has slots i f → ⊥

-- the root of the volume in use
abbrev pub in_use : Root → Root
in_use root = record root { clean = false }

-- the root of the closed volume
abbrev pub closed_root : Root → Root
closed_root root = record root { clean = true }

-- the lists that two volumes stand for, with the numbers of the second
abbrev pub pair_of : List Sector → List Sector → Pair
pair_of d e = record { from = files_on d; to = files_on e; serial = serial_of e; capacity = capacity (length e) }

-- Over any contents: the same disk later. The writes that were made were permitted, each where it is made, and bytes were written
-- to pages of the volume's own alone, but for pages of frames that were dirty. The root's label was written alone.
pub record IsWritten (before : Slots) (old new : DiskState) : Type 0 where
  pub labels : List DiskWrite
  pub went : Went old new
  pub wrote : Wrote volume_page labels old before new
  pub own : EachWrite (IsWriteFor (IsDirty before) no_file) old new

-- so it is between two views, with the frames that are dirty afterwards
pub record IsWrittenOwn (v w : View) : Type 0 where
  pub labels : List DiskWrite
  pub makes : MakesOnly volume_page labels v w
  pub own : EachWrite (IsWriteFor (IsDirty v.slots) no_file) v.disk w.disk

-- the volume of these sectors is not refused
abbrev pub IsAccepted : List Sector → Type 0
IsAccepted d = (why : RootFault) → ¬ IsRefused d why

-- where one of the volumes was refused, this is why, or its disk failed
abbrev pub IsRightRefusal : List Sector → List Sector → PairStart → Type 0
IsRightRefusal d e (start.From w) = (w ≡ fault.Disk) ⊎ IsRefused d w
IsRightRefusal d e (start.To w) = (w ≡ fault.Disk) ⊎ IsRefused e w
IsRightRefusal d e start.NoMemory = Unit {0}
IsRightRefusal d e (start.Halt h) = Unit {0}

-- it came before the first write
abbrev pub IsEarly : PairStart → Type 0
IsEarly (start.From w) = Unit {0}
IsEarly (start.To w) = Unit {0}
IsEarly start.NoMemory = Unit {0}
IsEarly (start.Halt h) = ⊥

-- the layout is that of the disk's sectors
abbrev pub IsLaid : DiskState → Layout → Type 0
IsLaid disk layout = IsLayout layout × (layout.sectors ≡ disk.sectors)

-- it comes from a disk or the memory, and not from a volume
abbrev pub IsOutside : PairStart → Type 0
IsOutside (start.From w) = w ≡ fault.Disk
IsOutside (start.To w) = w ≡ fault.Disk
IsOutside start.NoMemory = Unit {0}
IsOutside (start.Halt h) = h ≡ halt.Disk

-- it is a fault of a disk only where that disk counted one, and its evidence of damage is so of the second
abbrev pub IsCounted : DiskState → DiskState → DiskState → DiskState → PairStart → Type 0
IsCounted from to new_from new_to (start.From w) = w ≡ fault.Disk → Rose from.faults new_from.faults
IsCounted from to new_from new_to (start.To w) = w ≡ fault.Disk → Rose to.faults new_to.faults
IsCounted from to new_from new_to start.NoMemory = Unit {0}
IsCounted from to new_from new_to (start.Halt h) = (h ≡ halt.Disk → Rose to.faults new_to.faults) × ShowsEvidence new_to h

-- The volume of these sectors is in use: its flag is cleared, it has the files of before, and so many sectors are used.
pub record IsStarted (d : List Sector) (v : View) (volume : Volume) : Type 0 where
  pub side : IsSide v (files_on d) (with_flag false d)
  pub root : HasRoot (length (with_flag false d)) (slice_get (with_flag false d) 0) (serial_of d) (counter_of d) (capacity (length d))
  pub used : volume.used ≡ total_room (files_on d)

-- The disk has a volume that can be opened, with the second list and its numbers.
pub record HasVolume (p : Pair) (root : Root) (disk : DiskState) : Type 0 where
  pub sectors : List Sector
  pub revealed : disk.contents ≡ Some sectors
  pub can_open : CanOpen sectors
  pub files : files_on sectors ≡ p.to
  pub has_root : HasRoot (length sectors) (slice_get sectors 0) root.serial root.counter p.capacity

-- no page of either map is dirty
abbrev pub AreWritten : Slots → Type 0
AreWritten slots = (which : Manager) (page : ℕ) → IsDirty slots (id_of which) page → ⊥

-- The disk has a sound volume with the second list and its numbers, and all of it is on the medium.
pub record HasClosed (p : Pair) (root : Root) (disk : DiskState) : Type 0 where
  pub sectors : List Sector
  pub revealed : disk.contents ≡ Some sectors
  pub sound : Sound sectors
  pub files : files_on sectors ≡ p.to
  pub same_serial : serial_of sectors ≡ root.serial
  pub same_counter : counter_of sectors ≡ root.counter
  pub synced : disk.synced ≡ true
