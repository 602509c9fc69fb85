use Rattle.std.proofs.Common.{◌≡◌, ℕ, ◌+◌, ◌*◌, ◌/◌, ◌<◌, ◌≤◌, List, length, get_or}
use Rattle.page_tree.specs.Page.{page_at, filled}
use Rattle.page_tree.specs.Tree.{Node, node_at, IsRooted}
use Rattle.page_tree.specs.Path.{IsPath, leaf_under}
use Rattle.page_tree.specs.Broken.{Meets}
use Rattle.page_tree.specs.Met.{IsMetPath}
use Rattle.page_tree.specs.Walked.{IsThread}
use Rattle.page_tree.proofs.Threads.{IsComing}
use Rattle.page_tree.proofs.walk.go_down.Given as goal

abbrev pub invariant-down : goal.invariant-down
invariant-down g l = record {
  order : (1 ≤ l.level) × (l.level ≤ l.initial.level);
  inside : l.at < g.M.FlatMem.size l.initial.mem / 512;
  some : 1 ≤ l.initial.at → 1 ≤ l.at;
  unchanged : (b : List ℕ) → g.M.FlatMem.reveals l.initial.mem b → g.M.FlatMem.reveals l.mem b;
  led : (b : List ℕ) → g.M.FlatMem.reveals l.initial.mem b → (records : List (List ℕ)) (levels root : ℕ) (nodes : ℕ → List Node) (home : ℕ → ℕ) → IsRooted g.row.E g.row.K (g.M.FlatMem.size l.initial.mem / 512) b records levels root nodes → l.initial.level ≤ levels
      → IsPath nodes levels l.initial.level l.initial.path.pages l.initial.path.index l.initial.at home → (1 < l.initial.level → l.initial.place < length (node_at (nodes l.initial.level) (home l.initial.level)).items)
      → (now : ℕ → ℕ) × IsPath nodes levels l.level l.path.pages l.path.index l.at now × (1 < l.level → l.place < length (node_at (nodes l.level) (now l.level)).items)
      × (leaf_under nodes l.level (now l.level) l.place ≡ leaf_under nodes l.initial.level (home l.initial.level) l.initial.place);
  met : (b : List ℕ) → g.M.FlatMem.reveals l.initial.mem b → (levels root : ℕ) → l.initial.level ≤ levels → Meets g.row.K b l.initial.level l.initial.at → IsMetPath g.row.K b levels l.initial.level root l.initial.path.pages l.initial.path.index
      → (1 < l.initial.level → l.initial.place ≤ filled (page_at b l.initial.at)) → (l.initial.level ≡ levels → l.initial.at ≡ root)
      → Meets g.row.K b l.level l.at × IsMetPath g.row.K b levels l.level root l.path.pages l.path.index × (1 < l.level → l.place ≤ filled (page_at b l.at)) × (l.level ≡ levels → l.at ≡ root);
  thread : (b : List ℕ) → g.M.FlatMem.reveals l.initial.mem b → (levels root : ℕ) → l.initial.level ≤ levels → IsThread g.row.K b levels l.initial.level root l.initial.path.pages l.initial.path.index l.initial.at
      → IsThread g.row.K b levels l.level root l.path.pages l.path.index l.at;
  coming : IsComing l.initial.level l.initial.at l.initial.place l.initial.path.pages l.initial.path.index l.level l.at l.place l.path.pages l.path.index;
  path : (levels : ℕ) → ((n : ℕ) → l.initial.level < n → n ≤ levels → get_or l.initial.path.pages n 0 < g.M.FlatMem.size l.initial.mem / 512)
      → (n : ℕ) → l.level < n → n ≤ levels → get_or l.path.pages n 0 < g.M.FlatMem.size l.initial.mem / 512;
  kept : g.M.FlatMem.beside l.initial.mem l.mem;
  looked : g.M.FlatMem.only_reads l.initial.mem l.mem;
  cost : g.M.FlatMem.spent l.mem + l.level * g.M.FlatMem.cost ≤ g.M.FlatMem.spent l.initial.mem + l.initial.level * g.M.FlatMem.cost;
}

abbrev pub decreases-down : goal.decreases-down
decreases-down g l = l.level
