-- What a core shows: what its calls do is said of this.
use Rattle.std.specs.Prelude.{ℕ, List}
use Rattle.labelled_disk.specs.Sectors.{Sector}
use Rattle.file_map.specs.FileMap.{Triples}
use Rattle.flat_machine.specs.declared.space.Space.{Space}
use Rattle.swap_units.specs.declared.interval.Interval.{Interval}
use Rattle.filer_kernel.specs.View.{View}
use Rattle.fault_core.specs.Lack.{Sees}
use Rattle.fault_core.specs.Revealed.{Revealed}

-- what its filer shows, the intervals that it keeps, and how many the projection has
pub record CoreView : Type 0 where
  pub frames : View
  pub kept : List Interval
  pub intervals : ℕ

-- what a session knows of it
abbrev pub IsKnownAs : CoreView → List Sector → Triples → List Space → Type 0
IsKnownAs v memory named spaces = Revealed v.frames v.kept v.intervals memory named spaces

-- the space tables are revealed, and those of these spaces
abbrev pub IsSeenAs : CoreView → List Space → Type 0
IsSeenAs v spaces = Sees v.frames v.kept v.intervals spaces
