-- A session's end: its temporary files go, then the pages of the space tables, and the volume is closed.
use Rattle.std.specs.Prelude.{◌≡◌, ◌⊎◌, ℕ, ◌+◌, ◌<◌, ◌≤◌, true, List, [], ◌∷◌, ◌++◌, filter, length, Option, Some, None}
use Rattle.labelled_disk.specs.declared.disk.DiskWrite.{DiskWrite}
use Rattle.labelled_disk.specs.declared.layout.Layout.{Layout}
use Rattle.labelled_disk.specs.File.{File, file_at}
use Rattle.labelled_disk.specs.Layout.{capacity}
use Rattle.labelled_disk.specs.Calls.{RevealsSame, RevealsWrite}
use Rattle.labelled_disk.specs.CrashState.{crash_state, written}
use Rattle.labelled_disk.specs.Root.{root_page, short_at, serial_of, counter_of}
use Rattle.labelled_disk.specs.Sectors.{Sector}
use Rattle.labelled_disk.specs.State.{DiskState}
use Rattle.labelled_disk.specs.WriteRuns.{Appended, after_writes}
use Rattle.volume_root.specs.RootPage.{root_write}
use Rattle.volume_root.specs.Sound.{Sound}
use Rattle.volume_root.specs.declared.root.Root.{Root}
use Rattle.frame_pool.specs.Frames.{Frame, Slots, Has}
use Rattle.flat_machine.specs.declared.call.Call.TheVariants.{Close}
use Rattle.flat_machine.specs.Machine.{Machine}
use Rattle.flat_machine.specs.Next.{next}
use Rattle.swapper_kernel.specs.declared.manager.Manager.{Manager}
use Rattle.swapper_kernel.specs.Goes.{IsDirty, Makes, Wrote, Went}
use Rattle.swapper_kernel.specs.Maps.{id_of}
use Rattle.swapper_kernel.specs.SyncLaws.{HasSync}
use Rattle.swapper_kernel.specs.Stands.{Stands}
use Rattle.filer_kernel.specs.declared.cached.CachedRuns.{CachedRuns}
use Rattle.session_words.specs.CloseLaws.{IsClosed}
use Rattle.session_words.specs.Parts.{TablesMeaning}
use Rattle.session_words.specs.StandsFor.{RevealsSettled}
use Rattle.session_words.specs.Volume.{volume_page}
use Rattle.file_manager.specs.declared.volume.Volume.{Volume}
use Rattle.running_words.specs.Bound.{room_above}
use Rattle.running_words.specs.Session.{AreOpen, IsAlone}
use Rattle.pilot_engine.specs.Writing.{EndMay, Written}

-- Each crash state of the writes.

-- writes were made, and the sectors in each crash state of them are such
pub record Throughout (P : List Sector → Type 0) (old new : DiskState) : Type 0 where
  pub writes : List DiskWrite
  pub appended : Appended writes old new
  pub each : (d : List Sector) (k : ℕ) → old.contents ≡ Some d → P (crash_state d writes k)

-- the disk reveals the settled files of the machine, its labels are right, and its root has the machine's numbers; with a set
-- clean flag the volume is sound
pub record IsStop (m : Machine) (d : List Sector) : Type 0 where
  pub revealed : RevealsSettled d m
  pub same_serial : serial_of d ≡ m.serial
  pub same_counter : counter_of d ≡ m.counter
  pub honest : short_at (root_page d) 10 ≡ 1 → Sound d

-- the same, and the clean flag is not set
pub record IsOpenStop (m : Machine) (d : List Sector) : Type 0 where
  pub revealed : RevealsSettled d m
  pub same_serial : serial_of d ≡ m.serial
  pub same_counter : counter_of d ≡ m.counter
  pub open_flag : short_at (root_page d) 10 ≡ 0

-- Temporary files go.

-- the permanent ones of some files
abbrev pub permanents : List File → List File
permanents files = filter (λ f. f.permanent) files

-- the machine without some of its temporary files
pub record Sheds (m n : Machine) : Type 0 where
  pub rest : n ≡ record m { files = n.files }
  pub permanent : permanents n.files ≡ permanents m.files
  pub fewer : (id : ℕ) (f : File) → file_at n.files id ≡ Some f → file_at m.files id ≡ Some f
  pub room : (cursor : ℕ) → room_above cursor n.files ≤ room_above cursor m.files

-- Disk, frames and what a session keeps beside them stand for a machine without some of the temporary files; those of
-- these identifiers are all gone.
pub record Shed (spaces_of : TablesMeaning) (gone : ℕ → Type 0) (m : Machine) (disk : DiskState) (slots : Slots) (layout : Layout) (runs : CachedRuns) (volume : Volume) : Type 0 where
  pub left : Machine
  pub stands : IsAlone spaces_of disk slots layout runs volume left
  pub sheds : Sheds m left
  pub permanent : (id : ℕ) (f : File) → gone id → file_at left.files id ≡ Some f → f.permanent ≡ true

-- identifiers above this one and up to that of the next file, or all above where there is none
abbrev pub up_to_next : ℕ → Option ℕ → ℕ → Type 0
up_to_next cursor (Some next) id = (cursor < id) × (id ≤ next)
up_to_next cursor None id = cursor < id

-- The volume is closed.

-- Disk and frames make a memory whose volume can be opened, with the files of the machine after its close; frames have
-- pages of both maps alone, and the root is the machine's.
pub record IsEmptied (m : Machine) (root : Root) (disk : DiskState) (slots : Slots) : Type 0 where
  pub memory : List Sector
  pub stands : Stands disk slots memory
  pub closed : IsClosed m memory
  pub maps_alone : (i : ℕ) (f : Frame) → Has slots i f → (f.home.id ≡ 1) ⊎ (f.home.id ≡ 2)
  pub same_serial : root.serial ≡ m.serial
  pub same_counter : root.counter ≡ m.counter

-- no page of either map is dirty
abbrev pub AreWritten : Slots → Type 0
AreWritten slots = (which : Manager) (page : ℕ) → IsDirty slots (id_of which) page → ⊥

-- the disk has that memory
pub record IsReady (m : Machine) (root : Root) (disk : DiskState) : Type 0 where
  pub sectors : List Sector
  pub revealed : disk.contents ≡ Some sectors
  pub closed : IsClosed m sectors
  pub same_serial : root.serial ≡ m.serial
  pub same_counter : root.counter ≡ m.counter

-- the root of a closed volume
abbrev pub closed_root : Root → Root
closed_root root = record root { clean = true }

-- The volume is sound, with the numbers of the machine and the files that stay after its close.
pub record IsShut (m : Machine) (d : List Sector) : Type 0 where
  pub sound : Sound d
  pub same_serial : serial_of d ≡ m.serial
  pub same_counter : counter_of d ≡ m.counter
  pub same_room : capacity (length d) ≡ m.capacity
  pub revealed : RevealsSettled d (next m Close)

-- the disk has such a volume
pub record RevealsShut (m : Machine) (disk : DiskState) : Type 0 where
  pub sectors : List Sector
  pub revealed : disk.contents ≡ Some sectors
  pub shut : IsShut m sectors

-- and all of it is on the medium
pub record HasShut (m : Machine) (disk : DiskState) : Type 0 where
  pub reveals : RevealsShut m disk
  pub synced : disk.synced ≡ true

-- none of these writes sets the clean flag, or the last alone, which is the root of a closed volume
abbrev pub ShutLast : List DiskWrite → Type 0
ShutLast writes = AreOpen writes ⊎ ((earlier : List DiskWrite) × (root : Root) × (writes ≡ earlier ++ root_write (closed_root root) ∷ []) × AreOpen earlier)

-- nothing was written, or the root of the closed volume, with the counter of the one that stood there
abbrev pub MayClose : Root → DiskState → DiskState → Type 0
MayClose root old new = RevealsSame old new ⊎ (RevealsWrite (root_write (closed_root root)) old new
    × ((d : List Sector) → old.contents ≡ Some d → counter_of (written (root_write (closed_root root)) d) ≡ counter_of d))

-- The last of these writes alone sets the clean flag: it is a root with the counter of the one that stood there, and the disk
-- was synced just before it.
pub record ShutAfterSync (writes : List DiskWrite) (old new : DiskState) : Type 0 where
  pub earlier : List DiskWrite
  pub root : Root
  pub is : writes ≡ earlier ++ root_write (closed_root root) ∷ []
  pub opens : AreOpen earlier
  pub synced : (made : List DiskWrite) → old.writes ≡ Some made → HasSync new (length made + length earlier)
  pub same_counter : (d : List Sector) → old.contents ≡ Some d
      → counter_of (written (root_write (closed_root root)) (after_writes earlier d)) ≡ counter_of (after_writes earlier d)

-- so it is with the writes that were made, or none of them sets the flag
pub record ShutsBySync (old new : DiskState) : Type 0 where
  pub writes : List DiskWrite
  pub appended : Appended writes old new
  pub shut : AreOpen writes ⊎ ShutAfterSync writes old new

-- over any contents: the writes of an end, whose last may set the clean flag, were permitted, each where it is made, and no page but
-- those of the volume's own became dirty. Labels were freed, and a root has the numbers of this one.
pub record WroteAny (root : Root) (old : DiskState) (before : Slots) (new : DiskState) (after : Slots) : Type 0 where
  pub labels : List DiskWrite
  pub makes : Makes volume_page labels old before new after
  pub shut : ShutLast makes.wrote.writes
  pub ends : Written (EndMay root) old new

-- over any contents: the same disk later, the writes were permitted, each where it is made, and none but the last sets the clean flag. Labels were
-- freed, and a root has the numbers of this one.
pub record WroteOn (root : Root) (before : Slots) (old new : DiskState) : Type 0 where
  pub labels : List DiskWrite
  pub went : Went old new
  pub wrote : Wrote volume_page labels old before new
  pub shut : ShutLast wrote.writes
  pub ends : Written (EndMay root) old new
