use Rattle.std.proofs.Common.{ℕ, ◌*◌, ◌≤◌, ◌-◌, List}
use Rattle.alloc_map.specs.Bits.{RevealsMarked}
use Rattle.alloc_map.proofs.Spending.{HasSpent}
use Rattle.alloc_map.proofs.pages.set_range.Given as goal

abbrev pub invariant-marking : goal.invariant-marking
invariant-marking g l = record {
  order : l.from ≤ l.at;
  inside : l.at ≤ l.end;
  marked : (b : List ℕ) → g.M.FlatMem.reveals l.initial.mem b → RevealsMarked l.used (g.M.FlatMem.reveals l.mem) b l.from l.at;
  kept : g.M.FlatMem.beside l.initial.mem l.mem;
  cost : HasSpent (2 * g.M.FlatMem.cost) l.from l.end l.at (g.M.FlatMem.spent l.initial.mem) (g.M.FlatMem.spent l.mem);
}

abbrev pub decreases-marking : goal.decreases-marking
decreases-marking g l = l.end - l.at
