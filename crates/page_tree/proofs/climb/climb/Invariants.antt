use Rattle.std.proofs.Common.{◌≡◌, ℕ, ◌+◌, ◌-◌, ◌*◌, ◌/◌, ◌<◌, ◌≤◌, List, get_or}
use Rattle.page_tree.specs.Met.{IsMetPath}
use Rattle.page_tree.specs.Way.{IsUnderWay, WasFull}
use Rattle.page_tree.specs.Climb.{IsClimb}
use Rattle.page_tree.proofs.climb.climb.Given as goal

abbrev pub invariant-up : goal.invariant-up
invariant-up g l = record {
  order : (1 ≤ l.level) × (l.level ≤ l.header.levels);
  levels : l.header.levels ≡ l.initial.header.levels;
  root : l.header.root ≡ l.initial.header.root;
  count : l.header.count ≡ l.initial.header.count;
  climb : (e : ℕ) (b : List ℕ) → g.M.FlatMem.reveals l.initial.mem b → (records : List (List ℕ)) → IsClimb e g.row.K (g.M.FlatMem.size l.initial.mem / 512) b records l.initial.header.levels 1 l.path.pages l.path.index l.initial.half.key l.initial.half.page l.initial.header.root l.initial.header.free l.initial.header.top
      → (c : List ℕ) × g.M.FlatMem.reveals l.mem c × IsClimb e g.row.K (g.M.FlatMem.size l.initial.mem / 512) c records l.initial.header.levels l.level l.path.pages l.path.index l.half.key l.half.page l.initial.header.root l.header.free l.header.top;
  way : (e : ℕ) (b c : List ℕ) → g.M.FlatMem.reveals l.initial.mem c → IsUnderWay g.row.K b c 1 1 l.initial.header.free l.initial.header.top → IsMetPath g.row.K b l.initial.header.levels 1 l.initial.header.root l.path.pages l.path.index
      → (d : List ℕ) × g.M.FlatMem.reveals l.mem d × IsUnderWay g.row.K b d l.level l.level l.header.free l.header.top × (1 < l.level → WasFull e g.row.K (g.M.FlatMem.size l.initial.mem / 512) b (get_or l.path.pages l.level 0));
  free : l.header.free < g.M.FlatMem.size l.initial.mem / 512;
  cost : g.M.FlatMem.spent l.mem ≤ g.M.FlatMem.spent l.initial.mem + (l.level - 1) * (4 * g.M.FlatMem.cost);
  kept : g.M.FlatMem.beside l.initial.mem l.mem;
}

abbrev pub decreases-up : goal.decreases-up
decreases-up g l = l.header.levels - l.level
