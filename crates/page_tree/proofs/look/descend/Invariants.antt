use Rattle.std.proofs.Common.{◌≡◌, ℕ, ◌+◌, ◌*◌, ◌/◌, ◌<◌, ◌≤◌, List, get_or}
use Rattle.page_tree.specs.Broken.{Meets}
use Rattle.page_tree.specs.Met.{IsMetPath}
use Rattle.page_tree.specs.Keys.{IsPlace}
use Rattle.page_tree.specs.Tree.{Node, heads, IsRooted}
use Rattle.page_tree.specs.Path.{IsPath}
use Rattle.page_tree.proofs.look.descend.Given as goal

abbrev pub invariant-descent : goal.invariant-descent
invariant-descent g l = record {
  order : (1 ≤ l.level) × (l.level ≤ l.levels);
  inside : l.at < g.M.FlatMem.size l.initial.mem / 512;
  unchanged : (b : List ℕ) → g.M.FlatMem.reveals l.initial.mem b → g.M.FlatMem.reveals l.mem b;
  place : (b : List ℕ) → g.M.FlatMem.reveals l.initial.mem b → (records : List (List ℕ)) (nodes : ℕ → List Node) → IsRooted g.row.E g.row.K (g.M.FlatMem.size l.initial.mem / 512) b records l.levels l.root nodes
      → (place : ℕ → ℕ) × IsPlace (heads (nodes l.level)) l.key (place l.level) × IsPath nodes l.levels l.level l.path.pages l.path.index l.at place;
  met : (b : List ℕ) → g.M.FlatMem.reveals l.initial.mem b → Meets g.row.K b l.levels l.root → Meets g.row.K b l.level l.at × IsMetPath g.row.K b l.levels l.level l.root l.path.pages l.path.index × (l.level ≡ l.levels → l.at ≡ l.root);
  path : (n : ℕ) → l.level < n → n ≤ l.levels → get_or l.path.pages n 0 < g.M.FlatMem.size l.initial.mem / 512;
  kept : g.M.FlatMem.beside l.initial.mem l.mem;
  looked : g.M.FlatMem.only_reads l.initial.mem l.mem;
  cost : g.M.FlatMem.spent l.mem + l.level * g.M.FlatMem.cost ≤ g.M.FlatMem.spent l.initial.mem + l.levels * g.M.FlatMem.cost;
}

abbrev pub decreases-descent : goal.decreases-descent
decreases-descent g l = l.level
