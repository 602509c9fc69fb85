-- Both sides of a pair, and the two lists of files that they stand for.
use Rattle.std.specs.Prelude.{◌≡◌, List, length, slice_get}
use Rattle.labelled_disk.specs.declared.evidence.Halt.TheVariants as halt
use Rattle.labelled_disk.specs.Calls.{Rose}
use Rattle.labelled_disk.specs.File.{total_room}
use Rattle.labelled_disk.specs.Sectors.{Sector}
use Rattle.labelled_disk.specs.State.{DiskState}
use Rattle.filer_kernel.specs.Evidence.{ShowsEvidence}
use Rattle.filer_kernel.specs.View.{FitsLayout, View}
use Rattle.session_words.specs.Parts.{HasRoot}
use Rattle.volume_root.specs.RootPage.{IsValidRoot}
use Rattle.file_manager.specs.declared.volume.Volume.{Volume}
use Rattle.pair_machine.specs.Pair.{Pair}
use Rattle.volume_pair.specs.declared.fault.PairHalt.{PairHalt}
use Rattle.volume_pair.specs.declared.fault.PairHalt.TheVariants as on
use Rattle.volume_pair.specs.Sides.{AreClean, IsSide, ShowsWhy}

-- Over any contents, what each call of a pair asks and leaves: both disks have their layouts' sectors, no frame of the first is
-- dirty, and the volume in use is the second, with a root that may be written.
pub record IsInUse (from to : View) (volume : Volume) : Type 0 where
  pub from_fits : FitsLayout from
  pub to_fits : FitsLayout to
  pub clean : AreClean from.slots
  pub layout : volume.layout ≡ to.layout
  pub valid : IsValidRoot to.layout.sectors volume.root

-- Both sides stand for the two lists, and the volume in use has the second's numbers.
pub record IsPaired (from to : View) (volume : Volume) (p : Pair) : Type 0 where
  pub first : List Sector
  pub second : List Sector
  pub from_is : IsSide from p.from first
  pub to_is : IsSide to p.to second
  pub root : HasRoot (length second) (slice_get second 0) volume.root.serial volume.root.counter p.capacity
  pub serial : p.serial ≡ volume.root.serial
  pub used : volume.used ≡ total_room p.to
  pub capacity : volume.layout.capacity ≡ p.capacity

-- the halt names the side on which it came, and shows why
abbrev pub ShowsSide : View → View → View → View → PairHalt → Type 0
ShowsSide from to new_from new_to (on.From e) = ShowsWhy from new_from e
ShowsSide from to new_from new_to (on.To e) = ShowsWhy to new_to e

-- one of the disks failed
abbrev pub IsFaultOfDisk : PairHalt → Type 0
IsFaultOfDisk (on.From e) = e ≡ halt.Disk
IsFaultOfDisk (on.To e) = e ≡ halt.Disk

-- the halt came on the second side: it is a fault of the disk only where that disk counted one, and its evidence is so of it
abbrev pub IsOfSecond : DiskState → DiskState → PairHalt → Type 0
IsOfSecond old new (on.From e) = ⊥
IsOfSecond old new (on.To e) = (e ≡ halt.Disk → Rose old.faults new.faults) × ShowsEvidence new e
