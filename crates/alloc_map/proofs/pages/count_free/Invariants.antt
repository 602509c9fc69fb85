use Rattle.std.proofs.Common.{◌≡◌, ℕ, ◌≤◌, ◌-◌, List}
use Rattle.alloc_map.specs.Bits.{free_in}
use Rattle.alloc_map.proofs.Spending.{HasSpent}
use Rattle.alloc_map.proofs.pages.count_free.Given as goal

abbrev pub invariant-counting : goal.invariant-counting
invariant-counting g l = record {
  order : l.from ≤ l.at;
  inside : l.at ≤ l.end;
  few : l.count ≤ l.at - l.from;
  count : (b : List ℕ) → g.M.FlatMem.reveals l.initial.mem b → l.count ≡ free_in b l.from (l.at - l.from);
  unchanged : (b : List ℕ) → g.M.FlatMem.reveals l.initial.mem b → g.M.FlatMem.reveals l.mem b;
  kept : g.M.FlatMem.beside l.initial.mem l.mem;
  looked : g.M.FlatMem.only_reads l.initial.mem l.mem;
  cost : HasSpent g.M.FlatMem.cost l.from l.end l.at (g.M.FlatMem.spent l.initial.mem) (g.M.FlatMem.spent l.mem);
}

abbrev pub decreases-counting : goal.decreases-counting
decreases-counting g l = l.end - l.at
