-- What a filer shows: contracts of the layers above name this alone.
use Rattle.std.specs.Prelude.{◌≡◌, ℕ, List}
use Rattle.labelled_disk.specs.declared.disk.Disk.{Ghosts}
use Rattle.labelled_disk.specs.declared.layout.Layout.{Layout}
use Rattle.labelled_disk.specs.State.{DiskState}
use Rattle.labelled_disk.specs.Sectors.{Sector}
use Rattle.labelled_disk.specs.declared.disk.DiskWrite.{DiskWrite}
use Rattle.frame_pool.specs.Frames.{Slots}
use Rattle.swapper_kernel.specs.declared.swapper.Swapper.{Swapper}
use Rattle.swapper_kernel.specs.Homes.{IsLayout, ArePlaced}
use Rattle.swapper_kernel.specs.Stands.{Stands}
use Rattle.swapper_kernel.specs.Goes.{Change, Goes, Makes, Pages, Swaps}
use Rattle.file_map.specs.declared.run.Run.{Run}
use Rattle.filer_kernel.specs.declared.cached.CachedRuns.{CachedRuns}
use Rattle.filer_kernel.specs.declared.filer.Filer.{Filer}
use Rattle.filer_kernel.specs.Cached.{runs_of}
use Rattle.filer_kernel.specs.Tables.{BesideTables, TablesReveal}

-- the disk, the frames over it, the layout, and the runs that are kept
pub record View : Type 0 where
  pub disk : DiskState
  pub slots : Slots
  pub layout : Layout
  pub runs : CachedRuns

module _ {D A : Type 0} {G : Ghosts D} where
  abbrev pub view_of : Filer D A G → View
  view_of f = record { disk = G.state f.swapper.disk; slots = f.swapper.pool; layout = f.swapper.layout; runs = f.runs }

  -- its layout is one
  abbrev pub accepted : (f : Filer D A G) → IsLayout (view_of f).layout
  accepted f = f.swapper.accepted

  -- its frames have pages where the layout has a place for them
  abbrev pub placed : (f : Filer D A G) → ArePlaced (view_of f).slots (view_of f).layout
  placed f = f.swapper.placed

  -- the disk itself, and the frames over it: what the laws of disks and of frames speak of
  abbrev pub disk_of : Filer D A G → D
  disk_of f = f.swapper.disk

  abbrev pub swapper_of : Filer D A G → Swapper D A G
  swapper_of f = f.swapper

-- the runs that are kept of a volume of the layout's size
abbrev pub kept_by : View → List Run
kept_by v = runs_of v.layout.sectors v.runs

-- the disk reveals its contents, and the pages of the space tables are these bytes
abbrev pub TablesAre : View → List ℕ → Type 0
TablesAre v b = TablesReveal v.disk v.slots v.layout v.runs b

-- the disk has as many sectors as the layout says, which each call that moves sectors asks for
abbrev pub FitsLayout : View → Type 0
FitsLayout v = v.disk.sectors ≡ v.layout.sectors

-- disk and frames together are this memory
abbrev pub HasMemory : View → List Sector → Type 0
HasMemory v m = Stands v.disk v.slots m

-- over any contents: these pages alone may be dirty that were not, and these writes were made
abbrev pub MakesOnly : Pages → List DiskWrite → View → View → Type 0
MakesOnly pages run v w = Makes pages run v.disk v.slots w.disk w.slots

-- the same, and a relation of the memories before and after
abbrev pub GoesTo : Change → Pages → List DiskWrite → View → View → Type 0
GoesTo P pages run v w = Goes P pages run v.disk v.slots w.disk w.slots

-- pages came and went, and nothing else
abbrev pub SwapsOnly : View → View → Type 0
SwapsOnly v w = Swaps v.disk v.slots w.disk w.slots

-- the space tables alone were changed
abbrev pub TablesBeside : View → View → Type 0
TablesBeside v w = BesideTables v.disk v.slots v.layout v.runs w.disk w.slots w.layout w.runs
