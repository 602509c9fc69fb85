-- The homes of the pages of a swap unit.
use Rattle.std.specs.Prelude.{◌≡◌, ℕ, true, List, length}
use Rattle.file_map.specs.FileMap.{Triples}
use Rattle.flat_machine.specs.declared.space.Space.{Space}
use Rattle.frame_pool.specs.declared.home.Home.{Home}
use Rattle.swap_units.specs.declared.interval.Interval.{Interval}
use Rattle.swap_units.specs.Unit.{IsUnit}
use Rattle.swapper_kernel.specs.Homes.{IsAmong}
use Rattle.space_tables.specs.SpaceTables.{IsIntervalAt}
use Rattle.fault_core.specs.Access.{Shows}
use Rattle.fault_core.specs.Homes.{AreHomesOf}
use Rattle.fault_core.specs.Kept.{IsKept}
use Rattle.fault_core.specs.Unit.{file_page}

-- the pages from the first one on are the swap unit of the page, and these are the homes of the pages that are shown there
pub record IsPlan (x : Interval) (page first : ℕ) (homes : List Home) : Type 0 where
  pub unit : IsUnit x page (first, length homes)
  pub are : AreHomesOf x.id (file_page x first) (length homes) homes

-- by an interval that is kept, and shows the page
pub record IsKeptPlan (kept : List Interval) (page first : ℕ) (homes : List Home) : Type 0 where
  pub interval : Interval
  pub is_kept : IsKept kept interval
  pub shows : Shows interval page
  pub plan : IsPlan interval page first homes

-- by the interval of the projection, and each home is where the map has it
pub record IsPlanAt (spaces : List Space) (named : Triples) (page first : ℕ) (homes : List Home) : Type 0 where
  pub interval : Interval
  pub projected : IsIntervalAt spaces page interval
  pub plan : IsPlan interval page first homes
  pub found : (home : Home) → IsAmong homes home → named home.id home.page home.sector ≡ true
