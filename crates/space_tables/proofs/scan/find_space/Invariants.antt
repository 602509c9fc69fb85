use Rattle.std.proofs.Common.{◌≡◌, ℕ, ◌+◌, ◌-◌, ◌*◌, ◌/◌, ◌<◌, ◌≤◌, List, Option}
use Rattle.flat_machine.specs.declared.space.Space.{Space}
use Rattle.projection_laws.specs.Sight.{Interval}
use Rattle.space_tables.specs.Stored.{HoldTables, AreReadable}
use Rattle.space_tables.specs.Scan.{passes, NonePasses, HaveAll}
use Rattle.space_tables.proofs.scan.find_space.Given as goal

abbrev pub invariant-scan : goal.invariant-scan
invariant-scan g l = record {
  of_page : l.from < l.handles.end → l.from / 16 ≡ l.number;
  first : l.handles.low / 16 ≤ l.number;
  few : l.number - l.handles.low / 16 ≤ 32;
  none : (slots : List (Option Space)) (xs : List Interval) → HoldTables (g.M.FlatMem.reveals l.initial.mem) slots xs → AreReadable slots xs
      → HaveAll (passes l.test) slots l.handles → NonePasses (passes l.test) slots 0 l.from;
  unchanged : (b : List ℕ) → g.M.FlatMem.reveals l.initial.mem b → g.M.FlatMem.reveals l.mem b;
  kept : g.M.FlatMem.beside l.initial.mem l.mem;
  looked : g.M.FlatMem.only_reads l.initial.mem l.mem;
  cost : g.M.FlatMem.spent l.mem ≤ g.M.FlatMem.spent l.initial.mem + (l.number - l.handles.low / 16) * g.M.FlatMem.cost;
}

abbrev pub decreases-scan : goal.decreases-scan
decreases-scan g l = l.handles.end - l.from
