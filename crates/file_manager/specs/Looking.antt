-- What a look at files does to disk and frames.
use Rattle.std.specs.Prelude.{List}
use Rattle.labelled_disk.specs.declared.layout.Layout.{Layout}
use Rattle.labelled_disk.specs.Sectors.{Sector}
use Rattle.labelled_disk.specs.State.{DiskState}
use Rattle.frame_pool.specs.Frames.{Slots}
use Rattle.file_map.specs.declared.run.Run.{Run}
use Rattle.file_map.specs.FileMap.{Triples}
use Rattle.swapper_kernel.specs.declared.manager.Manager.TheVariants.{FileMap}
use Rattle.swapper_kernel.specs.Maps.{IsMapHome}
use Rattle.swapper_kernel.specs.Homes.{Brings}
use Rattle.swapper_kernel.specs.Stands.{Stands}
use Rattle.swapper_kernel.specs.Goes.{Swaps}
use Rattle.filer_kernel.specs.Triples.{MapIs, AreOf, IsOneOf}
use Rattle.filer_kernel.specs.Causes.{IsGiven}

-- The memory is the same, no frame is dirty that was clean, and nothing was written but pages of frames that were dirty. Pages
-- of the file map alone came into frames. Runs that are kept were kept before or are records of the map, and are the map's
-- afterwards where they were before.
pub record Looks (layout : Layout) (old : DiskState) (before : Slots) (kept : List Run) (new : DiskState) (after : Slots) (runs : List Run) : Type 0 where
  pub goes : Swaps old before new after
  pub brings : Brings (IsMapHome FileMap layout) before after
  pub given : (r : Run) → IsOneOf r runs → IsGiven layout old before kept r
  pub runs_are : (m : List Sector) (named : Triples) → Stands old before m → MapIs layout named m → AreOf named kept → AreOf named runs
