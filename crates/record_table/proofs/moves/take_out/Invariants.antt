use Rattle.std.proofs.Common.{ℕ, ◌+◌, ◌*◌, ◌<◌, ◌≤◌, List, remove}
use Rattle.record_table.specs.Table.{pages_of, entries}
use Rattle.record_table.proofs.Emptying.{IsEmptying, IsEnd}
use Rattle.record_table.proofs.moves.take_out.Given as goal

abbrev pub invariant-moving : goal.invariant-moving
invariant-moving g l = record {
  order : (l.at ≤ l.end) × (l.end ≤ l.count);
  ends : IsEnd g.row.E l.at l.count l.end;
  kept : g.M.FlatMem.beside l.initial.mem l.mem;
  revealed : (b : List ℕ) → g.M.FlatMem.reveals l.initial.mem b → IsEmptying g.row.E (g.M.FlatMem.reveals l.mem) b (remove (entries g.row.E b l.count) l.at) l.count l.end l.carried;
  left : l.at < l.end → g.M.FlatMem.spent l.mem + 2 * pages_of g.row.E l.end * g.M.FlatMem.cost ≤ g.M.FlatMem.spent l.initial.mem + 2 * pages_of g.row.E l.count * g.M.FlatMem.cost;
  cost : g.M.FlatMem.spent l.mem ≤ g.M.FlatMem.spent l.initial.mem + 2 * pages_of g.row.E l.count * g.M.FlatMem.cost;
}

abbrev pub decreases-moving : goal.decreases-moving
decreases-moving g l = l.end
