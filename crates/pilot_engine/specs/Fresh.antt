-- How a session starts on a volume that is made for it.
use Rattle.std.specs.Prelude.{◌≡◌, ◌⊎◌, ℕ, true, List, [], length, Some}
use Rattle.labelled_disk.specs.declared.evidence.Halt.{Halt}
use Rattle.labelled_disk.specs.declared.evidence.Halt.TheVariants as halt
use Rattle.labelled_disk.specs.declared.layout.RootFault.TheVariants as fault
use Rattle.labelled_disk.specs.Calls.{Rose}
use Rattle.labelled_disk.specs.Layout.{IsCount}
use Rattle.labelled_disk.specs.Sectors.{Sector}
use Rattle.labelled_disk.specs.State.{DiskState}
use Rattle.labelled_disk.specs.WriteRuns.{Appended}
use Rattle.volume_root.specs.Format.{format_writes, formatted, new_root, PartMade}
use Rattle.volume_root.specs.Later.{IsLater}
use Rattle.swapper_kernel.specs.Homes.{IsLayout}
use Rattle.filer_kernel.specs.View.{View, kept_by}
use Rattle.pilot_engine.specs.Beginning.{StartHalts}
use Rattle.pilot_engine.specs.Opening.{IsBare, WroteFirst}
use Rattle.pilot_engine.specs.declared.fault.StartFault.{StartFault}
use Rattle.pilot_engine.specs.declared.fault.StartFault.TheVariants.{Root as NoRoot, NoMemory, Halt as Halted}

-- why none starts on a disk of n sectors: no volume has so many, or, where one has, there is no memory, or something stopped it
abbrev pub IsFreshFault : ℕ → StartFault → Type 0
IsFreshFault n (NoRoot why) = (¬ IsCount n) × (why ≡ fault.BadCount n)
IsFreshFault n NoMemory = IsCount n
IsFreshFault n (Halted why) = IsCount n

-- A new volume was made of the whole disk: all its writes were made, in order, and no others, and they are on the medium.
pub record MadeVolume (old new : DiskState) : Type 0 where
  pub later : IsLater old new
  pub wrote : Appended (format_writes old.sectors 1 1) old new
  pub contents : (d : List Sector) → old.contents ≡ Some d → new.contents ≡ Some (formatted (length d) 1 1)
  pub synced : new.synced ≡ true

-- the first of the writes of a new volume were made, so many, and no others
abbrev pub BeganVolume : DiskState → DiskState → Type 0
BeganVolume old new = PartMade (format_writes old.sectors 1 1) old new

-- Over any contents: a new volume was made, and on it the first of the writes of a start, with its root. Each of these is
-- permitted where it is made, from the new volume on.
pub record WroteOnNew (old new : DiskState) : Type 0 where
  pub made : DiskState
  pub volume : MadeVolume old made
  pub wrote : WroteFirst made new
  pub root : wrote.root ≡ new_root old.sectors 1 1

-- A start on a new volume, with its root and its layout, no frame over it and no run kept, halted so.
pub record IsNewStartHalt (old new : DiskState) (e : Halt) : Type 0 where
  pub before : View
  pub volume : MadeVolume old before.disk
  pub laid : IsLayout before.layout × (before.layout.sectors ≡ old.sectors)
  pub bare : IsBare before.slots
  pub no_runs : kept_by before ≡ []
  pub after : View
  pub left : after.disk ≡ new
  pub halts : StartHalts (new_root old.sectors 1 1) before after e

-- where it halted, the disk failed while the volume was made, or the start on it halted so
abbrev pub HasFreshCause : DiskState → DiskState → StartFault → Type 0
HasFreshCause old new (NoRoot why) = Unit {0}
HasFreshCause old new NoMemory = Unit {0}
HasFreshCause old new (Halted why) = ((why ≡ halt.Disk) × Rose old.faults new.faults × BeganVolume old new) ⊎ IsNewStartHalt old new why
