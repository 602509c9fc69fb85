use Rattle.std.proofs.Common.{◌≡◌, ℕ, ◌-◌, ◌≤◌, List, Option}
use Rattle.flat_machine.specs.declared.space.Space.{Space}
use Rattle.projection_laws.specs.Sight.{Interval}
use Rattle.space_tables.specs.Form.{slot_page}
use Rattle.space_tables.specs.Stored.{AreTables, AreReadable}
use Rattle.space_tables.specs.Scan.{passes, NonePasses}
use Rattle.space_tables.proofs.scan.first_on.Given as goal

abbrev pub invariant-scan : goal.invariant-scan
invariant-scan l = record {
  from : l.from ≤ l.handle;
  none : (b : List ℕ) (slots : List (Option Space)) (xs : List Interval) → l.page ≡ slot_page b l.from → AreTables b slots xs → AreReadable slots xs
      → NonePasses (passes l.test) slots l.from l.handle;
}

abbrev pub decreases-scan : goal.decreases-scan
decreases-scan l = l.end - l.handle
