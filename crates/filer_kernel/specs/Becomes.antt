-- Memories in which one map was changed.
use Rattle.std.specs.Prelude.{List}
use Rattle.labelled_disk.specs.declared.layout.Layout.{Layout}
use Rattle.labelled_disk.specs.Sectors.{Sector}
use Rattle.labelled_disk.specs.State.{DiskState}
use Rattle.frame_pool.specs.Frames.{Slots}
use Rattle.swapper_kernel.specs.declared.manager.Manager.{Manager}
use Rattle.swapper_kernel.specs.Stands.{Stands}
use Rattle.swapper_kernel.specs.Differs.{Differs}
use Rattle.swapper_kernel.specs.Window.{in_map}

-- Disk and frames make a memory that is this one but for the pages of a map, and of it this holds.
pub record Becomes (which : Manager) (layout : Layout) (m : List Sector) (P : List Sector → Type 0) (disk : DiskState) (slots : Slots) : Type 0 where
  pub memory : List Sector
  pub stands : Stands disk slots memory
  pub differs : Differs (in_map which layout) m memory
  pub is : P memory
