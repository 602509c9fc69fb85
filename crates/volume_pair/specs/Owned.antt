-- Whose sectors are written on the second disk, over any contents.
use Rattle.std.specs.Prelude.{◌≡◌, ◌≢◌, ◌⊎◌, ℕ, ◌<◌, List, Some, slice_get}
use Rattle.labelled_disk.specs.declared.disk.DiskWrite.{DiskWrite}
use Rattle.labelled_disk.specs.declared.disk.DiskWrite.TheVariants.{Whole, LabelOnly, Page}
use Rattle.labelled_disk.specs.CrashState.{crash_state}
use Rattle.labelled_disk.specs.Root.{counter_of, root_page, serial_of, short_at}
use Rattle.labelled_disk.specs.Runs.{sector_of}
use Rattle.labelled_disk.specs.Sectors.{Sector}
use Rattle.labelled_disk.specs.State.{DiskState}
use Rattle.labelled_disk.specs.WriteRuns.{Appended}
use Rattle.swapper_kernel.specs.Goes.{IsDirty, Pages}
use Rattle.filer_kernel.specs.View.{View}
use Rattle.pair_machine.specs.declared.call.PairCall.{PairCall}
use Rattle.pair_machine.specs.declared.call.PairCall.TheVariants as call

-- some files, by their identifiers
abbrev pub Files : Type 1
Files = ℕ → Type 0

abbrev pub no_file : Files
no_file id = ⊥

-- this file alone
abbrev pub this_file : ℕ → Files
this_file file id = id ≡ file

-- the file that a call copies
abbrev pub file_of : PairCall → Files
file_of (call.Copy id) = this_file id
file_of (call.Compare id) = no_file

-- The write is of the root, or gives a sector to one of these files, or writes another label over one of theirs. Bytes are written to
-- pages of these files and of the volume's own alone, but for pages that were dirty.
abbrev pub IsWriteFor : Pages → Files → List Sector → DiskWrite → Type 0
IsWriteFor dirty files d (Whole sector label bytes) = (sector ≡ 0) ⊎ files label.id
IsWriteFor dirty files d (LabelOnly sector label) = (s : Sector) → slice_get d sector ≡ Some s → files s.0.id
IsWriteFor dirty files d (Page sector wanted bytes) = dirty wanted.id wanted.page ⊎ ((wanted.id < 4) ⊎ files wanted.id)

-- the write is not of the root
abbrev pub IsBesideRoot : List Sector → DiskWrite → Type 0
IsBesideRoot d write = sector_of write ≢ 0

-- Writes were made, and each is such where it is made.
pub record EachWrite (P : List Sector → DiskWrite → Type 0) (old new : DiskState) : Type 0 where
  pub writes : List DiskWrite
  pub appended : Appended writes old new
  pub each : (d : List Sector) (k : ℕ) (w : DiskWrite) → old.contents ≡ Some d → slice_get writes k ≡ Some w → P (crash_state d writes k) w

-- the disk reveals its writes
abbrev pub RevealsWrites : DiskState → Type 0
RevealsWrites disk = (writes : List DiskWrite) × (disk.writes ≡ Some writes)

-- Over any contents: nothing was written but for these files and in pages of the volume's own, and the root was not; nor is any other
-- page dirty that was not.
pub record WritesFor (files : Files) (v w : View) : Type 0 where
  pub beside : EachWrite IsBesideRoot v.disk w.disk
  pub own : RevealsWrites v.disk → EachWrite (IsWriteFor (IsDirty v.slots) files) v.disk w.disk
  pub dirty : (id page : ℕ) → IsDirty w.slots id page → IsDirty v.slots id page ⊎ ((id < 4) ⊎ files id)

-- the volume of these sectors is in use, with the numbers of those
pub record IsInUseAs (d e : List Sector) : Type 0 where
  pub open_flag : short_at (root_page e) 10 ≡ 0
  pub same_serial : serial_of e ≡ serial_of d
  pub same_counter : counter_of e ≡ counter_of d
