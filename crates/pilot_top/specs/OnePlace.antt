-- Where the power goes: the settled files of a cut are those of the machine at one place of the trace.
use Rattle.std.specs.Prelude.{◌≡◌, ◌⊎◌, ℕ, suc, ◌+◌, ◌/◌, ◌%◌, ◌^◌, ◌<◌, ◌≤◌, Bool, false, List, ◌++◌, length, map, option_map, Option, Some, slice_get}
use Rattle.labelled_disk.specs.declared.disk.DiskWrite.{DiskWrite}
use Rattle.labelled_disk.specs.CrashState.{crash_state}
use Rattle.labelled_disk.specs.File.{File, byte, file_at}
use Rattle.labelled_disk.specs.FilesOn.{disk_file}
use Rattle.labelled_disk.specs.Root.{counter_of, serial_of}
use Rattle.labelled_disk.specs.Sectors.{Sector}
use Rattle.labelled_disk.specs.State.{DiskState}
use Rattle.label_laws.specs.Shape.{BareFile, bare_file}
use Rattle.flat_machine.specs.After.{TraceLine, after}
use Rattle.flat_machine.specs.Machine.{Machine}
use Rattle.flat_machine.specs.Settled.{settled}
use Rattle.cut_laws.specs.ChangeRows.{AreApart}
use Rattle.cut_laws.specs.Cut.{AtSome, IsCut}
use Rattle.cut_laws.specs.Honest.{IsBetweenSyncs}
use Rattle.cut_laws.specs.NewPages.{AddsZeros, HasOwnNewPages, HasPlainFree}
use Rattle.cut_laws.specs.OneCrashState.{HasUnitsOfCrashStates}
use Rattle.pilot_top.specs.CrashStates.{CrashStates, staged}
use Rattle.pilot_top.specs.Forcing.{AtEach}

-- Over contents, writes and syncs that are revealed: what was written between the two states changes files apart from each other. A call that
-- failed may end with a label by which a file goes.
pub record ChangesApart (failed : Bool) (old new : DiskState) : Type 0 where
  pub apart : (d : List Sector) (earlier writes : List DiskWrite) (before syncs : List ℕ) → old.contents ≡ Some d → old.writes ≡ Some earlier
      → new.writes ≡ Some (earlier ++ writes) → old.syncs ≡ Some before → new.syncs ≡ Some syncs → AreApart false syncs (length earlier) d writes failed

-- the settled file of this identifier without its bytes, if there is one
abbrev pub settled_shape : Machine → ℕ → Option BareFile
settled_shape m id = option_map bare_file (file_at (settled m) id)

-- the disk has the settled files of the machine, with their types, marks and sizes, and no other permanent ones
abbrev pub HasShapesOf : List Sector → Machine → Type 0
HasShapesOf e m = (id : ℕ) → option_map bare_file (disk_file false e id) ≡ settled_shape m id

-- if it is settled, a page of it has these bytes: what was stored there was forced
abbrev pub ForcesIfThere : ℕ → ℕ → List ℕ → Machine → Type 0
ForcesIfThere id page bytes m = (f : File) → file_at (settled m) id ≡ Some f → slice_get f.pages page ≡ Some (map byte bytes)

-- each permanent file that has the root's serial in the high half of its identifier has a low half below the root's counter: so the root
-- gives out no identifier that such a file has
abbrev pub IsAboveFiles : List Sector → Type 0
IsAboveFiles e = (id : ℕ) (f : File) → disk_file false e id ≡ Some f → id / 2 ^ 32 ≡ serial_of e → id % 2 ^ 32 < counter_of e

-- the machine has this counter before the line or after it
abbrev pub HasCounterAt : Machine → List TraceLine → ℕ → ℕ → Type 0
HasCounterAt m lines j counter = (counter ≡ (after m lines j).counter) ⊎ (counter ≡ (after m lines (suc j)).counter)

-- Of a cut e of the writes from s to k: the machine is at one of their places where its settled files are those of e. Each page of a file
-- of e that has the same bytes at each of these places where the file is settled has these bytes. A page that the file has in each crash
-- state in which it is there is made of units that stood in it, whatever was stored. The root of e has the counter that the machine has
-- before or after the line of one of these places, and gives out no identifier of a file of e.
-- Where free labels were plain at the start, each page of a file of e that the file did not have at the sync is made of units that stood in
-- it since. A page that a write adds to a file that is there is zeros first. So it has no byte of another file.
pub record IsOfOnePlace (m : Machine) (lines : List TraceLine) (d : List Sector) (writes : List DiskWrite) (line step : ℕ → ℕ) (s k : ℕ) (e : List Sector) : Type 0 where
  pub place : AtSome s k (λ i. HasShapesOf e (staged m lines (line i) (step i)))
  pub bytes : (id page : ℕ) (f : File) (bytes : List ℕ) → disk_file false e id ≡ Some f
      → AtEach m lines line step s k (ForcesIfThere id page bytes) → slice_get f.pages page ≡ Some (map byte bytes)
  pub units : (id : ℕ) → HasUnitsOfCrashStates false id d writes s k e
  pub counter : AtSome s k (λ i. HasCounterAt m lines (line i) (counter_of e))
  pub above : IsAboveFiles e
  pub own : HasPlainFree d → (id : ℕ) → HasOwnNewPages false id d writes s k e
  pub zeros : (id : ℕ) → AddsZeros false id d writes

-- Writes and syncs are revealed: where the disk was synced after s of the writes of a run and not since, when k were made, each cut has the
-- settled files of the machine, but for bytes, at one place of the trace, no earlier than that sync and no later than the cut. So it is
-- whatever the places. The counter of its root is no lower than at that sync.
pub record CutsHaveFiles (m : Machine) (lines : List TraceLine) (d : List Sector) (old new : DiskState) : Type 0 where
  pub places : CrashStates m lines old new
  pub files : (at : CrashStates m lines old new) (made : List DiskWrite) (syncs : List ℕ) → old.writes ≡ Some made → new.syncs ≡ Some syncs
      → (k s : ℕ) (e : List Sector) → k ≤ length at.writes → IsBetweenSyncs syncs (length made + s) (length made + k)
      → IsCut d at.writes s k e → IsOfOnePlace m lines d at.writes at.line at.step s k e
  pub counter : (made : List DiskWrite) → old.writes ≡ Some made → (k s : ℕ) (e : List Sector) → s ≤ k → k ≤ length places.writes
      → IsCut d places.writes s k e → counter_of (crash_state d places.writes s) ≤ counter_of e
