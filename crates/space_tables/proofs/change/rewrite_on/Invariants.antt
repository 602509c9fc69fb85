use Rattle.std.proofs.Common.{◌≡◌, ℕ, ◌+◌, ◌-◌, ◌*◌, ◌≤◌, List, length, Option}
use Rattle.flat_machine.specs.declared.space.Space.{Space}
use Rattle.projection_laws.specs.Sight.{Interval}
use Rattle.space_tables.specs.Form.{interval_page}
use Rattle.space_tables.specs.Stored.{AreTables, HoldTables, RevealsRest}
use Rattle.space_tables.specs.Change.{changed_before, Counts, HasSmallHandle, AreAllReadable}
use Rattle.space_tables.proofs.change.rewrite_on.Given as goal

abbrev pub invariant-rewriting : goal.invariant-rewriting
invariant-rewriting g l = record {
  from : l.from ≤ l.index;
  within : l.index ≤ l.end;
  changed_so_far : (b : List ℕ) (slots : List (Option Space)) (xs : List Interval) → l.page ≡ interval_page b l.from → g.M.FlatMem.reveals l.fn.mem b
      → AreTables b slots (changed_before l.change l.from xs) → l.end ≤ length xs → AreAllReadable xs → Counts l.change → HasSmallHandle l.change
      → HoldTables (g.M.FlatMem.reveals l.mem) slots (changed_before l.change l.index xs);
  rest : (b : List ℕ) → g.M.FlatMem.reveals l.fn.mem b → RevealsRest (g.M.FlatMem.reveals l.mem) b l.index;
  kept : g.M.FlatMem.beside l.fn.mem l.mem;
  cost : g.M.FlatMem.spent l.mem ≤ g.M.FlatMem.spent l.fn.mem + (l.index - l.from) * g.M.FlatMem.cost;
}

abbrev pub decreases-rewriting : goal.decreases-rewriting
decreases-rewriting g l = l.end - l.index
