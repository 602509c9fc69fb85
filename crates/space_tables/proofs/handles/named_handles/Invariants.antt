use Rattle.std.proofs.Common.{◌≡◌, ℕ, ◌+◌, ◌-◌, ◌*◌, ◌/◌, ◌<◌, ◌≤◌, List}
use Rattle.space_tables.specs.Handles.{NameOnly}
use Rattle.space_tables.proofs.handles.named_handles.Given as goal

abbrev pub invariant-naming : goal.invariant-naming
invariant-naming g l = record {
  of_page : l.index < l.end → l.index / 16 ≡ l.number;
  from : l.from ≤ l.index;
  first : l.from / 16 ≤ l.number;
  few : l.number ≤ 64;
  named : (b : List ℕ) → g.M.FlatMem.reveals l.fn.mem b → NameOnly l.sought b l.from l.index l.handles;
  form : l.handles.end ≤ 512;
  unchanged : (b : List ℕ) → g.M.FlatMem.reveals l.fn.mem b → g.M.FlatMem.reveals l.mem b;
  kept : g.M.FlatMem.beside l.fn.mem l.mem;
  looked : g.M.FlatMem.only_reads l.fn.mem l.mem;
  cost : g.M.FlatMem.spent l.mem ≤ g.M.FlatMem.spent l.fn.mem + (l.number - l.from / 16) * g.M.FlatMem.cost;
}

abbrev pub decreases-naming : goal.decreases-naming
decreases-naming g l = l.end - l.index
