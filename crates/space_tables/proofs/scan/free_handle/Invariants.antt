use Rattle.std.proofs.Common.{ℕ, ◌+◌, ◌-◌, ◌*◌, ◌≤◌, List, Option}
use Rattle.flat_machine.specs.declared.space.Space.{Space}
use Rattle.projection_laws.specs.Sight.{Interval}
use Rattle.space_tables.specs.Stored.{HoldTables, AreReadable}
use Rattle.space_tables.specs.Scan.{AreTaken}
use Rattle.space_tables.proofs.scan.free_handle.Given as goal

abbrev pub invariant-scan : goal.invariant-scan
invariant-scan g l = record {
  above : 1 ≤ l.from;
  within : l.from ≤ 512;
  taken : (slots : List (Option Space)) (xs : List Interval) → HoldTables (g.M.FlatMem.reveals l.fn.mem) slots xs → AreReadable slots xs → AreTaken slots l.from;
  unchanged : (b : List ℕ) → g.M.FlatMem.reveals l.fn.mem b → g.M.FlatMem.reveals l.mem b;
  kept : g.M.FlatMem.beside l.fn.mem l.mem;
  looked : g.M.FlatMem.only_reads l.fn.mem l.mem;
  cost : g.M.FlatMem.spent l.mem ≤ g.M.FlatMem.spent l.fn.mem + (l.from - 1) * g.M.FlatMem.cost;
}

abbrev pub decreases-scan : goal.decreases-scan
decreases-scan g l = 512 - l.from
