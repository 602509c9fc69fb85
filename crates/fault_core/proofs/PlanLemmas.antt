-- The swap unit of a page and the homes of its pages.
use Rattle.std.proofs.Common.{ℕ, ◌≤◌, List, sym, subst}
use Rattle.labelled_disk.specs.Sectors.{Sector}
use Rattle.file_map.specs.FileMap.{Triples}
use Rattle.frame_pool.specs.declared.home.Home.{Home}
use Rattle.swap_units.specs.declared.interval.Interval.{Interval}
use Rattle.swap_units.specs.Unit.{IsUnit, IsAmong, LiesIn}
use Rattle.fault_core.specs.Access.{Shows}
use Rattle.fault_core.specs.Homes.{AreHomesOf, HaveSectors}
use Rattle.fault_core.specs.Plan.{IsPlan}
use Rattle.fault_core.specs.Unit.{AreShownStored, file_page}
use Rattle.fault_core.proofs.RunLemmas.{have_sectors}
use Rattle.fault_core.proofs.UnitLemmas.{unit_run_is, run_stored}

pub plan_is : (x : Interval) (page : ℕ) (run : ℕ × ℕ) (homes : List Home) → IsUnit x page run → AreHomesOf x.id (file_page x run.0) run.1 homes → IsPlan x page run.0 homes
plan_is x page run homes unit are = record {
  unit = subst (λ (n : ℕ). IsUnit x page (run.0, n)) (sym are.count) unit;
  are = subst (λ (n : ℕ). AreHomesOf x.id (file_page x run.0) n homes) (sym are.count) are;
}

pub unit_has_sectors : (x : Interval) (page : ℕ) (run : ℕ × ℕ) → Shows x page → IsUnit x page run → IsAmong run page → LiesIn x run → run.1 ≤ x.unit
    → (named : Triples) (m : List Sector) → AreShownStored named m x → HaveSectors named x.id (file_page x run.0) run.1
unit_has_sectors x page run shows unit among lies size named m stored =
    have_sectors named m x.id (file_page x run.0) run.1 (run_stored (unit_run_is x page run shows.formed shows.holds shows.mapped unit among lies size) named m stored)
