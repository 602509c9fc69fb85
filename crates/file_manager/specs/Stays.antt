-- What a call on files leaves as it was.
use Rattle.std.specs.Prelude.{◌≡◌, ℕ, ◌≤◌, ◌==◌, not, List, [], filter, Result, OnOk, OnErr}
use Rattle.labelled_disk.specs.Calls.{RevealsSame}
use Rattle.labelled_disk.specs.declared.evidence.Halt.{Halt}
use Rattle.labelled_disk.specs.Sectors.{Sector}
use Rattle.file_map.specs.declared.run.Run.{Run}
use Rattle.file_map.specs.FileMap.{Triples}
use Rattle.swapper_kernel.specs.declared.manager.Manager.TheVariants.{AllocationMap, FileMap}
use Rattle.swapper_kernel.specs.Goes.{no_page}
use Rattle.swapper_kernel.specs.Homes.{Brings}
use Rattle.swapper_kernel.specs.Window.{Reveals, Beside, Looked}
use Rattle.filer_kernel.specs.Cached.{runs_of}
use Rattle.filer_kernel.specs.Causes.{IsGiven}
use Rattle.filer_kernel.specs.Triples.{MapIs, AreOf, IsOneOf}
use Rattle.filer_kernel.specs.View.{View, HasMemory, MakesOnly, kept_by}
use Rattle.session_words.specs.Volume.{volume_page}
use Rattle.volume_root.specs.declared.root.Root.{Root}
use Rattle.file_manager.specs.declared.volume.Volume.{Volume}
use Rattle.file_manager.specs.Book.{BringsOwn}
use Rattle.file_manager.specs.Grounds.{IsMapsHome, IsUnframed, KeepsMap}
use Rattle.file_manager.specs.Looking.{Looks}
use Rattle.file_manager.specs.Roots.{RootStays, RootCounts}

-- Frames, layout and the runs that are kept are those of before.
pub record FramesStay (v w : View) : Type 0 where
  pub frames : w.slots ≡ v.slots
  pub layout : w.layout ≡ v.layout
  pub runs : w.runs ≡ v.runs

-- Layout and the runs that are kept are those of before.
pub record RunsStay (v w : View) : Type 0 where
  pub layout : w.layout ≡ v.layout
  pub runs : w.runs ≡ v.runs

-- The layout is that of before, and so is the sector of the root in each crash state.
pub record KeepsRoot (v w : View) : Type 0 where
  pub root : RootStays v.disk w.disk
  pub layout : w.layout ≡ v.layout

-- Layout, the runs that are kept, and the sector of the root in each crash state are those of before.
pub record KeepsRootAndRuns (v w : View) : Type 0 where
  pub root : RootStays v.disk w.disk
  pub layout : w.layout ≡ v.layout
  pub runs : w.runs ≡ v.runs

-- The layout is that of before, and the root's counter is raised once.
pub record CountsInRoot (was : Root) (v w : View) : Type 0 where
  pub root : RootCounts was v.disk w.disk
  pub layout : w.layout ≡ v.layout

-- The disk reveals what it did, nothing but pages of frames was written, and all else is as it was.
pub record ReadsAlone (v w : View) : Type 0 where
  pub same : RevealsSame v.disk w.disk
  pub makes : MakesOnly no_page [] v w
  pub frames : w.slots ≡ v.slots
  pub layout : w.layout ≡ v.layout
  pub runs : w.runs ≡ v.runs

-- No label was written, and pages of the maps alone came into frames.
pub record LooksAlone (v w : View) : Type 0 where
  pub makes : MakesOnly volume_page [] v w
  pub looks : Looks v.layout v.disk v.slots (kept_by v) w.disk w.slots (runs_of v.layout.sectors w.runs)
  pub brings : BringsOwn v.slots w.slots
  pub layout : w.layout ≡ v.layout

-- So it is where a file is searched for: the file map is as it was, and the runs that are kept were kept, or are its records.
pub record Searches (id : ℕ) (v w : View) : Type 0 where
  pub same_bytes : (b : List ℕ) → Reveals FileMap v.disk v.slots v.layout b → Reveals FileMap w.disk w.slots v.layout b
  pub beside : Beside FileMap v.disk v.slots v.layout w.disk w.slots w.layout
  pub looked : Looked FileMap v.disk v.slots v.layout w.disk w.slots w.layout
  pub runs_given : (r : Run) → IsOneOf r (runs_of v.layout.sectors w.runs) → IsGiven v.layout v.disk v.slots (kept_by v) r
  pub runs_are : (m : List Sector) (named : Triples) → HasMemory v m → MapIs v.layout named m → AreOf named (kept_by v) → AreOf named (runs_of v.layout.sectors w.runs)
  pub makes : MakesOnly volume_page [] v w
  pub brings : BringsOwn v.slots w.slots
  pub keeps : KeepsMap (IsUnframed v.slots id) v.layout id v.disk v.slots (kept_by v) w.disk w.slots (runs_of v.layout.sectors w.runs)
  pub layout : w.layout ≡ v.layout

-- the memory stays where its file map is in form, and all beside the file map
pub record FindsRuns (v w : View) : Type 0 where
  pub same : (m : List Sector) (named : Triples) → HasMemory v m → MapIs v.layout named m → HasMemory w m
  pub beside : Beside FileMap v.disk v.slots v.layout w.disk w.slots w.layout

-- all beside the file map stays, and the runs that are kept, but those of this file
pub record CutsRuns (id : ℕ) (v w : View) : Type 0 where
  pub beside : Beside FileMap v.disk v.slots v.layout w.disk w.slots w.layout
  pub runs : (n : ℕ) → runs_of n w.runs ≡ filter (λ r. not (r.id == id)) (runs_of n v.runs)

-- all beside the allocation map stays, and the runs that are kept
pub record MarksBeside (v w : View) : Type 0 where
  pub kept : Beside AllocationMap v.disk v.slots v.layout w.disk w.slots w.layout
  pub runs : w.runs ≡ v.runs

-- layout and the runs that are kept stay, and pages of the maps alone came into frames
pub record BringsMaps (v w : View) : Type 0 where
  pub come : Brings (IsMapsHome v.layout) v.slots w.slots
  pub layout : w.layout ≡ v.layout
  pub runs : w.runs ≡ v.runs

-- the layout stays, and after an Ok the file map where no frame has a page of the file
pub record MapStays {T : Type 0} (id : ℕ) (result : Result T Halt) (v w : View) : Type 0 where
  pub layout : w.layout ≡ v.layout
  pub keeps : OnOk result (KeepsMap (IsUnframed v.slots id) v.layout id v.disk v.slots (kept_by v) w.disk w.slots (runs_of v.layout.sectors w.runs))

-- of the volume, the count of used sectors alone falls; after an error it stays too
pub record UsesLess {T : Type 0} (result : Result T Halt) (old new : Volume) : Type 0 where
  pub same_volume : OnErr result (new ≡ old)
  pub rest_of_volume : new ≡ record old { used = new.used }
  pub less : new.used ≤ old.used

-- of the volume, the count of used sectors alone changes, and within the capacity; after an error it stays too
pub record UsesWithin {T : Type 0} (result : Result T Halt) (old new : Volume) : Type 0 where
  pub same_numbers : (new.root ≡ old.root) × (new.layout ≡ old.layout)
  pub same_volume : OnErr result (new ≡ old)
  pub room : old.used ≤ old.layout.capacity → new.used ≤ old.layout.capacity
