-- What the words of this crate see of a core.
use Rattle.std.specs.Prelude.{List}
use Rattle.labelled_disk.specs.declared.disk.Disk.{Ghosts}
use Rattle.labelled_disk.specs.Sectors.{Sector}
use Rattle.file_map.specs.FileMap.{Triples}
use Rattle.flat_machine.specs.declared.space.Space.{Space}
use Rattle.swap_units.specs.declared.interval.Interval.{Interval}
use Rattle.descriptor_cache.specs.Cache.{kept_in}
use Rattle.fault_core.specs.declared.core_over.Core.{Core}
use Rattle.filer_kernel.specs.View.{View, view_of}
use Rattle.fault_core.specs.CoreView.{CoreView}
use Rattle.fault_core.specs.Revealed.{Revealed}

module _ {D A : Type 0} {G : Ghosts D} where
  -- its filer's disk, frames, layout and runs
  abbrev pub state : Core D A G → View
  state c = view_of c.filer

  -- the intervals that it keeps
  abbrev pub kept : Core D A G → List Interval
  kept c = kept_in c.descriptors

  -- what a session knows of it
  abbrev pub Knows : Core D A G → List Sector → Triples → List Space → Type 0
  Knows c memory named spaces = Revealed (state c) (kept c) c.intervals memory named spaces

  -- what it shows
  abbrev pub core_view : Core D A G → CoreView
  core_view c = record { frames = state c; kept = kept c; intervals = c.intervals }
