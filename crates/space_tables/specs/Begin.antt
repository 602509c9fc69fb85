-- Tables where no space stands but the root.
use Rattle.std.specs.Prelude.{ℕ, List, [], ◌∷◌, Option, None, replicate}
use Rattle.flat_machine.specs.declared.space.Space.{Space}
use Rattle.flat_machine.specs.Space.{root_pages}
use Rattle.swap_units.specs.declared.mode.Mode.TheVariants.{Unmapped}
use Rattle.projection_laws.specs.Sight.{Interval}

-- the interval of the root alone
abbrev pub root_interval : Interval
root_interval = record { first = 0; pages = root_pages; space = 0; unit = 16; mode = Unmapped; start = 0; id = 0; page = 0; mapped = 0 }

-- slots where nothing stands
unfoldable pub bare_slots : ℕ → List (Option Space)
bare_slots n = replicate n None
