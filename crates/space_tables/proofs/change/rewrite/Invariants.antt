use Rattle.std.proofs.Common.{◌≡◌, ℕ, ◌+◌, ◌-◌, ◌*◌, ◌/◌, ◌<◌, ◌≤◌, List, length, Option}
use Rattle.flat_machine.specs.declared.space.Space.{Space}
use Rattle.projection_laws.specs.Sight.{Interval, AreIntervals}
use Rattle.space_tables.specs.Stored.{HoldTables, RevealsRest}
use Rattle.space_tables.specs.Change.{changed_before, Counts, HasSmallHandle, AreAllReadable, LiesInside}
use Rattle.space_tables.proofs.change.rewrite.Given as goal

abbrev pub invariant-rewriting : goal.invariant-rewriting
invariant-rewriting g l = record {
  of_page : l.index < l.end → l.index / 16 ≡ l.number;
  above : l.from ≤ l.index;
  within : l.index ≤ l.end;
  first : l.from / 16 ≤ l.number;
  few : l.number ≤ 64;
  changed_so_far : (slots : List (Option Space)) (xs : List Interval) (ss : List Space) → HoldTables (g.M.FlatMem.reveals l.fn.mem) slots xs → AreIntervals ss xs → length xs ≡ l.count
      → AreAllReadable xs → Counts l.change → HasSmallHandle l.change → LiesInside l.change l.space xs
      → HoldTables (g.M.FlatMem.reveals l.mem) slots (changed_before l.change l.index xs);
  rest : (b : List ℕ) → g.M.FlatMem.reveals l.fn.mem b → RevealsRest (g.M.FlatMem.reveals l.mem) b l.index;
  kept : g.M.FlatMem.beside l.fn.mem l.mem;
  cost : g.M.FlatMem.spent l.mem ≤ g.M.FlatMem.spent l.fn.mem + 14 * g.M.FlatMem.cost + (l.number - l.from / 16) * (17 * g.M.FlatMem.cost);
}

abbrev pub decreases-rewriting : goal.decreases-rewriting
decreases-rewriting g l = l.end - l.index
