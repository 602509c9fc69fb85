-- What a look in the file map leaves as it is, how it fails, and what is kept of the runs that it finds.
use Rattle.std.specs.Prelude.{◌≡◌, ℕ, List, IfOk, IfErr, IfSome, Option, Result}
use Rattle.labelled_disk.specs.declared.evidence.Halt.{Halt}
use Rattle.labelled_disk.specs.declared.evidence.Halt.TheVariants as halt
use Rattle.labelled_disk.specs.Sectors.{Sector}
use Rattle.alloc_map.specs.declared.error.AllocError.{AllocError}
use Rattle.alloc_map.specs.Runs.{IfMem}
use Rattle.file_map.specs.declared.run.Run.{Run}
use Rattle.file_map.specs.FileMap.{Triples}
use Rattle.swapper_kernel.specs.declared.manager.Manager.TheVariants.{AllocationMap, FileMap}
use Rattle.swapper_kernel.specs.Maps.{IsMapHome}
use Rattle.swapper_kernel.specs.Halts.{Halts}
use Rattle.swapper_kernel.specs.Homes.{AreNamed}
use Rattle.swapper_kernel.specs.Window.{Reveals, Beside, Looked}
use Rattle.filer_kernel.specs.Cached.{runs_of}
use Rattle.filer_kernel.specs.Causes.{MapHalts, IsFaultOrMismatch, IsGiven}
use Rattle.filer_kernel.specs.Tables.{BesideTables, IfMissing, IsTableAccounted, LookedTables, TablesReveal}
use Rattle.filer_kernel.specs.Triples.{MapIs, AreOf, IsOneOf}
use Rattle.filer_kernel.specs.View.{View, HasMemory}

-- The map is as it was, and so is the memory of which it is the map; pages of the map alone came into frames.
pub record LeavesMap (v w : View) : Type 0 where
  pub same : (m : List Sector) (named : Triples) → HasMemory v m → MapIs v.layout named m → HasMemory w m
  pub same_bytes : (b : List ℕ) → Reveals FileMap v.disk v.slots v.layout b → Reveals FileMap w.disk w.slots v.layout b
  pub beside : Beside FileMap v.disk v.slots v.layout w.disk w.slots w.layout
  pub looked : Looked FileMap v.disk v.slots v.layout w.disk w.slots w.layout

-- A look fails for a cause; where the map is in form no page of it breaks its form, and where labels name its pages too the disk
-- is at fault.
pub record FailsToLook {A : Type 0} (v w : View) (result : Result A Halt) : Type 0 where
  pub sound : (m : List Sector) (named : Triples) → HasMemory v m → MapIs v.layout named m → AreNamed m (IsMapHome FileMap v.layout) → IfErr result (λ e. e ≡ halt.Disk)
  pub right : (m : List Sector) (named : Triples) → HasMemory v m → MapIs v.layout named m → IfErr result IsFaultOrMismatch
  pub cause : IfErr result (MapHalts v.layout v.disk v.slots w.disk)

-- The run that is found is kept; each that is kept was kept or was read from the map, and is the map's where those kept before were.
pub record KeepsRuns (v w : View) (result : Result (Option Run) Halt) : Type 0 where
  pub is_kept : IfOk result (λ found. IfSome found (λ run. IsOneOf run (runs_of v.layout.sectors w.runs)))
  pub runs_given : (r : Run) → IsOneOf r (runs_of v.layout.sectors w.runs) → IsGiven v.layout v.disk v.slots (runs_of v.layout.sectors v.runs) r
  pub runs_are : (m : List Sector) (named : Triples) → HasMemory v m → MapIs v.layout named m → AreOf named (runs_of v.layout.sectors v.runs) → AreOf named (runs_of v.layout.sectors w.runs)

-- A page of the space tables is looked for. The tables and the map show what they showed, and it fails for a cause; where the map has no
-- sector for a page, it is this one.
pub record LooksForPage {A : Type 0} (page : ℕ) (v w : View) (result : Result A Halt) : Type 0 where
  pub same : (b : List ℕ) → TablesReveal v.disk v.slots v.layout v.runs b → TablesReveal w.disk w.slots w.layout w.runs b
  pub error : IfErr result (IsTableAccounted v.disk v.slots v.layout v.runs w.disk)
  pub missing : IfErr result (IfMissing page)
  pub kept : BesideTables v.disk v.slots v.layout v.runs w.disk w.slots w.layout w.runs
  pub looked : LookedTables v.disk v.slots v.layout v.runs w.disk w.slots w.layout w.runs
  pub same_bytes : (b : List ℕ) → Reveals FileMap v.disk v.slots v.layout b → Reveals FileMap w.disk w.slots v.layout b

-- Sectors are not taken for a cause, or for want of room; and where labels name the pages of the allocation map the disk is at fault.
pub record FailsToTake {A : Type 0} (v w : View) (result : Result A (AllocError Halt)) : Type 0 where
  pub sound : (m : List Sector) → HasMemory v m → AreNamed m (IsMapHome AllocationMap v.layout) → IfErr result (IfMem (λ e. e ≡ halt.Disk))
  pub cause : IfErr result (IfMem (Halts (IsMapHome AllocationMap v.layout) v.disk v.slots w.disk))
