use Rattle.std.proofs.Common.{length, ◌≡◌, ℕ, ◌+◌, ◌-◌, ◌*◌, ◌/◌, ◌<◌, ◌≤◌, List}
use Rattle.page_tree.specs.Underfull.{IsPending}
use Rattle.page_tree.specs.Broken.{Meets}
use Rattle.page_tree.specs.Rebalancing.{IsRebalancing}
use Rattle.page_tree.proofs.underfull.rebalance.Given as goal

abbrev pub invariant-up : goal.invariant-up
invariant-up g l = record {
  order : (1 ≤ l.level) × (l.level ≤ l.header.levels);
  levels : l.header.levels ≡ l.initial.header.levels;
  root : l.header.root ≡ l.initial.header.root;
  count : l.header.count ≡ l.initial.header.count;
  inside : l.at < g.M.FlatMem.size l.initial.mem / 512;
  pending : (b : List ℕ) → g.M.FlatMem.reveals l.initial.mem b → (records : List (List ℕ)) → IsPending g.row.E g.row.K (g.M.FlatMem.size l.initial.mem / 512) b records l.initial.header.levels 1 l.path.pages l.path.index l.initial.at l.initial.page l.initial.header.root l.initial.header.free l.initial.header.top
      → (c : List ℕ) × g.M.FlatMem.reveals l.mem c × IsPending g.row.E g.row.K (g.M.FlatMem.size l.initial.mem / 512) c records l.initial.header.levels l.level l.path.pages l.path.index l.at l.page l.initial.header.root l.header.free l.header.top;
  way : (root : ℕ) (b c : List ℕ) → g.M.FlatMem.reveals l.initial.mem c → IsRebalancing g.row.K b c l.initial.header.levels 1 root l.path.pages l.path.index → Meets g.row.K b 1 l.initial.at
      → (d : List ℕ) × g.M.FlatMem.reveals l.mem d × IsRebalancing g.row.K b d l.initial.header.levels l.level root l.path.pages l.path.index × Meets g.row.K b l.level l.at;
  long : length l.page ≡ 512;
  kept : g.M.FlatMem.beside l.initial.mem l.mem;
  cost : g.M.FlatMem.spent l.mem + 5 * ((6 - l.level) * g.M.FlatMem.cost) ≤ g.M.FlatMem.spent l.initial.mem + 25 * g.M.FlatMem.cost;
}

abbrev pub decreases-up : goal.decreases-up
decreases-up g l = l.header.levels - l.level
