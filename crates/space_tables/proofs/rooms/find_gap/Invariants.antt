use Rattle.std.proofs.Common.{◌≡◌, ℕ, ◌+◌, ◌-◌, ◌*◌, ◌/◌, ◌<◌, ◌≤◌, false, List}
use Rattle.projection_laws.specs.Laws.{is_gap}
use Rattle.projection_laws.specs.Stored.{interval_in}
use Rattle.space_tables.specs.Form.{interval_record}
use Rattle.space_tables.proofs.rooms.find_gap.Given as goal

abbrev pub invariant-scan : goal.invariant-scan
invariant-scan g l = record {
  of_page : l.index < l.count → l.index / 16 ≡ l.number;
  few : l.number ≤ 64;
  none : (b : List ℕ) → g.M.FlatMem.reveals l.initial.mem b → (k : ℕ) → 0 ≤ k → k < l.index → is_gap l.parent l.pages (interval_in (interval_record b k)) ≡ false;
  unchanged : (b : List ℕ) → g.M.FlatMem.reveals l.initial.mem b → g.M.FlatMem.reveals l.mem b;
  kept : g.M.FlatMem.beside l.initial.mem l.mem;
  looked : g.M.FlatMem.only_reads l.initial.mem l.mem;
  cost : g.M.FlatMem.spent l.mem ≤ g.M.FlatMem.spent l.initial.mem + l.number * g.M.FlatMem.cost;
}

abbrev pub decreases-scan : goal.decreases-scan
decreases-scan g l = l.count - l.index
