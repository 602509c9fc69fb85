use Rattle.std.proofs.Common.{ℕ, ◌+◌, ◌-◌, ◌*◌, ◌/◌, ◌≤◌, List, insert}
use Rattle.record_table.specs.Table.{per_page, pages_of, entries}
use Rattle.record_table.proofs.Filling.{IsFilling}
use Rattle.record_table.proofs.moves.put_at.Given as goal

abbrev pub invariant-moving : goal.invariant-moving
invariant-moving g l = record {
  order : l.at ≤ l.place;
  kept : g.M.FlatMem.beside l.initial.mem l.mem;
  revealed : (b : List ℕ) → g.M.FlatMem.reveals l.initial.mem b → IsFilling g.row.E (g.M.FlatMem.reveals l.mem) b (insert (entries g.row.E b l.count) l.at l.new) l.count l.place l.carried;
  rows : l.place / per_page g.row.E ≤ pages_of g.row.E (l.count + 1);
  cost : g.M.FlatMem.spent l.mem ≤ g.M.FlatMem.spent l.initial.mem + 2 * (l.place / per_page g.row.E) * g.M.FlatMem.cost;
}

abbrev pub decreases-moving : goal.decreases-moving
decreases-moving g l = (l.count + 1) - l.place
