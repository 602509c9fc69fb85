use Rattle.std.proofs.Common.{◌≡◌, ℕ, ◌+◌, ◌-◌, ◌*◌, ◌/◌, ◌<◌, ◌≤◌, List, length, get_or}
use Rattle.page_tree.specs.Tree.{Node, node_at, IsRooted}
use Rattle.page_tree.specs.Path.{IsPath}
use Rattle.page_tree.specs.Met.{IsMetPath}
use Rattle.page_tree.specs.Walked.{IsLastBelow}
use Rattle.page_tree.proofs.walk.turning_level.Given as goal

abbrev pub invariant-up : goal.invariant-up
invariant-up g l = record {
  order : (2 ≤ l.level) × (l.level ≤ l.levels + 1);
  unchanged : (b : List ℕ) → g.M.FlatMem.reveals l.initial.mem b → g.M.FlatMem.reveals l.mem b;
  last : (b : List ℕ) → g.M.FlatMem.reveals l.initial.mem b → (e : ℕ) (records : List (List ℕ)) (root at : ℕ) (nodes : ℕ → List Node) (home : ℕ → ℕ) → IsRooted e g.row.K (g.M.FlatMem.size l.initial.mem / 512) b records l.levels root nodes
      → IsPath nodes l.levels 1 l.path.pages l.path.index at home → (n : ℕ) → 1 < n → n < l.level → get_or l.path.index n 0 + 1 ≡ length (node_at (nodes n) (home n)).items;
  full : (b : List ℕ) → g.M.FlatMem.reveals l.initial.mem b → (root : ℕ) → IsMetPath g.row.K b l.levels 1 root l.path.pages l.path.index → IsLastBelow b l.path.pages l.path.index l.level;
  kept : g.M.FlatMem.beside l.initial.mem l.mem;
  looked : g.M.FlatMem.only_reads l.initial.mem l.mem;
  cost : g.M.FlatMem.spent l.mem ≤ g.M.FlatMem.spent l.initial.mem + (l.level - 2) * g.M.FlatMem.cost;
}

abbrev pub decreases-up : goal.decreases-up
decreases-up g l = l.levels + 1 - l.level
