use Rattle.std.proofs.Common.{ℕ, not, ◌≤◌, ◌-◌, List}
use Rattle.alloc_map.specs.Bits.{AreAll}
use Rattle.alloc_map.proofs.Spending.{HasSpent}
use Rattle.alloc_map.proofs.pages.find.Given as goal

abbrev pub invariant-search : goal.invariant-search
invariant-search g l = record {
  order : l.from ≤ l.at;
  inside : l.at ≤ l.end;
  before : (b : List ℕ) → g.M.FlatMem.reveals l.initial.mem b → AreAll (not l.used) b l.from l.at;
  unchanged : (b : List ℕ) → g.M.FlatMem.reveals l.initial.mem b → g.M.FlatMem.reveals l.mem b;
  kept : g.M.FlatMem.beside l.initial.mem l.mem;
  looked : g.M.FlatMem.only_reads l.initial.mem l.mem;
  cost : HasSpent g.M.FlatMem.cost l.from l.end l.at (g.M.FlatMem.spent l.initial.mem) (g.M.FlatMem.spent l.mem);
}

abbrev pub decreases-search : goal.decreases-search
decreases-search g l = l.end - l.at
