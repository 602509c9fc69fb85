use Rattle.std.proofs.Common.{ℕ, ◌+◌, ◌-◌, ◌*◌, ◌≤◌}
use Rattle.space_tables.proofs.Begins.{IsBare}
use Rattle.space_tables.proofs.begin.clear.Given as goal

abbrev pub invariant-clearing : goal.invariant-clearing
invariant-clearing g l = record {
  within : l.handle ≤ 512;
  bare : IsBare (g.M.FlatMem.reveals l.initial.mem) 0 → IsBare (g.M.FlatMem.reveals l.mem) l.handle;
  kept : g.M.FlatMem.beside l.initial.mem l.mem;
  cost : g.M.FlatMem.spent l.mem ≤ g.M.FlatMem.spent l.initial.mem + l.handle * g.M.FlatMem.cost;
}

abbrev pub decreases-clearing : goal.decreases-clearing
decreases-clearing g l = 512 - l.handle
