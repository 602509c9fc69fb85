-- The tables of the spaces: their memory, how many intervals there are, and whose they are.
use Rattle.std.specs.Prelude.{◌≡◌, ℕ, List, Option, Some, slice_get, ◌≤◌}
use Rattle.flat_mem.specs.declared.memory.FlatMem.{Ghosts}
use Rattle.flat_machine.specs.declared.space.Space.{Space}
use Rattle.swap_units.specs.Unit.{Holds}
use Rattle.projection_laws.specs.Sight.{Interval, AreIntervals}
use Rattle.space_tables.specs.declared.tables.SpaceTables.{SpaceTables}
use Rattle.space_tables.specs.Stored.{RevealSpaces}

module _ {M X : Type 0} {G : Ghosts M X} where
  -- the memory that they stand in
  abbrev pub tables_memory : SpaceTables M X G → M
  tables_memory t = t.mem

  -- how many intervals the projection has
  abbrev pub interval_count : SpaceTables M X G → ℕ
  interval_count t = t.intervals

  -- their memory reveals that they are those of these spaces
  abbrev pub Reveals : SpaceTables M X G → List Space → Type 0
  Reveals t ss = RevealSpaces (G.reveals t.mem) t.intervals ss

-- the interval of the projection of these spaces that holds the page
pub record IsIntervalAt (ss : List Space) (page : ℕ) (x : Interval) : Type 0 where
  pub xs : List Interval
  pub projection : AreIntervals ss xs
  pub index : ℕ
  pub there : slice_get xs index ≡ Some x
  pub holds : Holds x page
