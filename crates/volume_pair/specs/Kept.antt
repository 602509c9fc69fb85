-- What a start and a call of a pair leave as it was.
use Rattle.std.specs.Prelude.{◌≡◌, List, [], Some}
use Rattle.labelled_disk.specs.Calls.{OnlyReads, RevealsSame}
use Rattle.labelled_disk.specs.FilesOn.{files_on}
use Rattle.labelled_disk.specs.Root.{counter_of, root_page, serial_of}
use Rattle.labelled_disk.specs.Sectors.{Sector}
use Rattle.labelled_disk.specs.State.{DiskState}
use Rattle.swapper_kernel.specs.Goes.{Went}
use Rattle.filer_kernel.specs.View.{View}
use Rattle.volume_root.specs.declared.root.Root.{Root}
use Rattle.volume_root.specs.RootPage.{root_in}
use Rattle.volume_root.specs.Sound.{Sound}
use Rattle.file_manager.specs.declared.volume.Volume.{Volume}
use Rattle.volume_pair.specs.CrashStates.{KeepsFiles}
use Rattle.volume_pair.specs.Ends.{IsEarly, IsWritten, in_use}
use Rattle.volume_pair.specs.Owned.{IsInUseAs}
use Rattle.volume_pair.specs.Pairs.{IsInUse}
use Rattle.volume_pair.specs.Sides.{AreClean}
use Rattle.volume_pair.specs.declared.fault.PairStart.{PairStart}

-- the same disk later, on which nothing was written
pub record IsOnlyRead (old new : DiskState) : Type 0 where
  pub went : Went old new
  pub same : RevealsSame old new

-- both volumes may be asked again, and the second has the root of before
pub record IsStillInUse (from to : View) (old new : Volume) : Type 0 where
  pub in_use : IsInUse from to new
  pub same_root : new.root ≡ old.root

-- the root is the one that the volume had, but that it is in use
abbrev pub IsRootOf : List Sector → Root → Type 0
IsRootOf d root = root ≡ in_use (root_in (root_page d))

-- In each crash state of a start on a sound volume the files are those of before, with its numbers.
abbrev pub StartKeeps : DiskState → DiskState → Type 0
StartKeeps old new = (e : List Sector) → old.contents ≡ Some e → Sound e → KeepsFiles (files_on e) (serial_of e) (counter_of e) old new

-- What a start wrote that put the volume in use: over any contents its root says so, with the numbers of before, and no frame is dirty.
pub record StartMade (old : DiskState) (v : View) : Type 0 where
  pub written : IsWritten [] old v.disk
  pub in_use : (d e : List Sector) → old.contents ≡ Some d → v.disk.contents ≡ Some e → IsInUseAs d e
  pub clean : AreClean v.slots
  pub crash_states : StartKeeps old v.disk

-- What a start wrote that ended so: nothing, if it ended before its first write.
pub record StartWrote (why : PairStart) (old new : DiskState) : Type 0 where
  pub written : IsWritten [] old new
  pub early : IsEarly why → OnlyReads old new
  pub crash_states : StartKeeps old new
