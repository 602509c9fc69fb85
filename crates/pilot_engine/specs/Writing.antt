-- What a call may write, whatever a volume holds.
use Rattle.std.specs.Prelude.{◌≡◌, ◌⊎◌, ℕ, ◌≤◌, List, Some, Result, OnOk, slice_get}
use Rattle.labelled_disk.specs.declared.disk.Disk.{Ghosts}
use Rattle.labelled_disk.specs.declared.disk.DiskWrite.{DiskWrite}
use Rattle.labelled_disk.specs.declared.disk.DiskWrite.TheVariants.{Whole, LabelOnly, Page}
use Rattle.labelled_disk.specs.declared.evidence.Halt.{Halt}
use Rattle.labelled_disk.specs.declared.label.Label.{Label}
use Rattle.labelled_disk.specs.CrashState.{crash_state}
use Rattle.labelled_disk.specs.Sectors.{Sector, free_label}
use Rattle.labelled_disk.specs.State.{DiskState}
use Rattle.labelled_disk.specs.WriteRuns.{Appended}
use Rattle.flat_machine.specs.declared.call.Call.{Call}
use Rattle.flat_machine.specs.declared.call.Call.TheVariants as call
use Rattle.volume_root.specs.declared.root.Root.{Root}
use Rattle.volume_root.specs.RootPage.{root_in}
use Rattle.file_manager.specs.Creating.{counted, next_id}
use Rattle.fault_core.specs.Core.{state}
use Rattle.pilot_engine.specs.declared.session.Session.{Session}
use Rattle.pilot_engine.specs.Sparing.{SparesAll}

-- the page of a root with serial and counter of this one
abbrev pub HasNumbers : Root → List ℕ → Type 0
HasNumbers root page = ((root_in page).serial ≡ root.serial) × ((root_in page).counter ≡ root.counter)

-- the label is one of this client's file
abbrev pub IsLabelOf : ℕ → Label → Type 0
IsLabelOf id label = (label.id ≡ id) × (16 ≤ id)

-- the label of the sector names this file
abbrev pub IsOfFile : ℕ → List Sector → ℕ → Type 0
IsOfFile id d sector = (s : Sector) → slice_get d sector ≡ Some s → s.0.id ≡ id

-- one page more of a file that gets another size
abbrev pub GrowMay : Call → Label → Type 0
GrowMay (call.SetSize id pages) label = IsLabelOf id label
GrowMay other label = ⊥

-- a label without its page, over one of the file that is deleted, cut or marked: a free one, or one of the file itself
abbrev pub LabelMay : Call → List Sector → ℕ → Label → Type 0
LabelMay (call.Delete id) d sector label = IsOfFile id d sector × (label ≡ free_label)
LabelMay (call.SetSize id pages) d sector label = IsOfFile id d sector × (label ≡ free_label)
LabelMay (call.MakePermanent id) d sector label = IsOfFile id d sector × (label.id ≡ id)
LabelMay (call.MakeImmutable id) d sector label = IsOfFile id d sector × (label.id ≡ id)
LabelMay (call.Unmap space) d sector label = label ≡ free_label
LabelMay other d sector label = ⊥

-- what a call that makes no file may write on these sectors
abbrev pub FileMay : Call → List Sector → DiskWrite → Type 0
FileMay c d (Whole sector label page) = GrowMay c label
FileMay c d (LabelOnly sector label) = LabelMay c d sector label
FileMay c d (Page sector wanted page) = Unit {0}

-- labels of a new file, which gets the identifier `new`, and the root, with the numbers of `next`; else one page more
abbrev pub WholeMay : ℕ → Root → Call → ℕ → Label → List ℕ → Type 0
WholeMay new next (call.Create pages kind) sector label page = ((sector ≡ 0) × HasNumbers next page) ⊎ IsLabelOf new label
WholeMay new next (call.MapAnonymous space) sector label page = ((sector ≡ 0) × HasNumbers next page) ⊎ IsLabelOf new label
WholeMay new next other sector label page = GrowMay other label

-- what a call may write on these sectors
abbrev pub CallMay : ℕ → Root → Call → List Sector → DiskWrite → Type 0
CallMay new next c d (Whole sector label page) = WholeMay new next c sector label page
CallMay new next c d (LabelOnly sector label) = LabelMay c d sector label
CallMay new next c d (Page sector wanted page) = Unit {0}

-- Writes were made, and where the disk reveals them, each is one that may be made on the sectors that it is made on.
pub record Written (may : List Sector → DiskWrite → Type 0) (old new : DiskState) : Type 0 where
  pub writes : List DiskWrite
  pub appended : Appended writes old new
  pub each : (d : List Sector) (earlier : List DiskWrite) (k : ℕ) (w : DiskWrite) → old.contents ≡ Some d → old.writes ≡ Some earlier
      → slice_get writes k ≡ Some w → may (crash_state d writes k) w

-- what a start may write: the root with the numbers of this one, labels of the space tables, and bytes of pages
abbrev pub BeginMay : Root → List Sector → DiskWrite → Type 0
BeginMay root d (Whole sector label page) = ((sector ≡ 0) × HasNumbers root page) ⊎ (label.id ≡ 3)
BeginMay root d (LabelOnly sector label) = ⊥
BeginMay root d (Page sector wanted page) = Unit {0}

-- free labels alone, and bytes of pages
abbrev pub FreeMay : List Sector → DiskWrite → Type 0
FreeMay d (Whole sector label page) = ⊥
FreeMay d (LabelOnly sector label) = label ≡ free_label
FreeMay d (Page sector wanted page) = Unit {0}

-- what an end may write: free labels, bytes of pages, and the root with the numbers of this one
abbrev pub EndMay : Root → List Sector → DiskWrite → Type 0
EndMay root d (Whole sector label page) = (sector ≡ 0) × HasNumbers root page
EndMay root d (LabelOnly sector label) = label ≡ free_label
EndMay root d (Page sector wanted page) = Unit {0}

module _ {D A : Type 0} {G : Ghosts D} where
  -- Labels were freed, and none of a permanent file's; the root of the volume stays.
  pub record Clears (old new : Session D A G) : Type 0 where
    pub spares : SparesAll (state old.core).disk (state new.core).disk
    pub frees : Written FreeMay (state old.core).disk (state new.core).disk
    pub root : new.volume.root ≡ old.volume.root

  -- A call wrote what it may: a new file gets the next identifier of the volume, and the root its counter, raised once. Where the call went
  -- well a root that it wrote has the numbers of the volume afterwards.
  abbrev pub WritesAllowed : {T : Type 0} → Call → Session D A G → Session D A G → Result T Halt → Type 0
  WritesAllowed call old new result = Written (CallMay (next_id old.volume.root) (counted old.volume.root) call) (state old.core).disk (state new.core).disk
      × OnOk result (Written (CallMay (next_id old.volume.root) new.volume.root call) (state old.core).disk (state new.core).disk)
