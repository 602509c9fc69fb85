use Rattle.std.proofs.Common.{◌≡◌, ℕ, ◌-◌, ◌≤◌, List, Option}
use Rattle.flat_machine.specs.declared.space.Space.{Space}
use Rattle.projection_laws.specs.Sight.{Interval}
use Rattle.space_tables.specs.Form.{slot_page}
use Rattle.space_tables.specs.Stored.{AreTables}
use Rattle.space_tables.specs.Scan.{AreTakenFrom}
use Rattle.space_tables.proofs.scan.free_on.Given as goal

abbrev pub invariant-scan : goal.invariant-scan
invariant-scan l = record {
  from : l.from ≤ l.handle;
  within : l.handle ≤ l.end;
  taken : (b : List ℕ) (slots : List (Option Space)) (xs : List Interval) → l.page ≡ slot_page b l.from → AreTables b slots xs → AreTakenFrom slots l.from l.handle;
}

abbrev pub decreases-scan : goal.decreases-scan
decreases-scan l = l.end - l.handle
