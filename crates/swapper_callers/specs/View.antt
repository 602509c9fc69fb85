-- What a book shows: contracts name this alone.
use Rattle.std.specs.Prelude.{◌≡◌, ℕ, List}
use Rattle.labelled_disk.specs.declared.disk.Disk.{Ghosts}
use Rattle.labelled_disk.specs.declared.evidence.Halt.{Halt}
use Rattle.labelled_disk.specs.declared.layout.Layout.{Layout}
use Rattle.labelled_disk.specs.State.{DiskState}
use Rattle.frame_pool.specs.Frames.{Slots}
use Rattle.swapper_kernel.specs.declared.manager.Manager.{Manager}
use Rattle.swapper_kernel.specs.Window.{Reveals, Beside, IsAccounted, size_in}
use Rattle.swapper_callers.specs.declared.book.BookOver.{BookOver}

-- the disk, the frames over it, the layout, and how many entries the table has
pub record View : Type 0 where
  pub disk : DiskState
  pub slots : Slots
  pub layout : Layout
  pub count : ℕ

module _ {D A : Type 0} {G : Ghosts D} where
  abbrev pub view_of : BookOver D A G → View
  view_of b = record { disk = G.state b.memory.disk; slots = b.memory.pool; layout = b.memory.layout; count = b.count }

-- how many bytes a map has
abbrev pub map_size : Manager → View → ℕ
map_size which v = size_in which v.disk.sectors v.layout

-- the pages of a map are these bytes
abbrev pub MapShows : Manager → View → List ℕ → Type 0
MapShows which v b = Reveals which v.disk v.slots v.layout b

-- the halt has its cause, in an access to a map
abbrev pub MapHalts : Manager → View → View → Halt → Type 0
MapHalts which v w e = IsAccounted which v.disk v.slots v.layout w.disk e

-- what an access to a map's pages does to all else
abbrev pub MapBeside : Manager → View → View → Type 0
MapBeside which v w = Beside which v.disk v.slots v.layout w.disk w.slots w.layout

-- A map alone is touched: there are as many entries, and all else is as it was.
pub record TouchesMap (which : Manager) (v w : View) : Type 0 where
  pub count : w.count ≡ v.count
  pub layout : w.layout ≡ v.layout
  pub kept : MapBeside which v w
