use Rattle.std.proofs.Common.{◌≡◌, ℕ, ◌+◌, ◌-◌, ◌*◌, ◌/◌, ◌<◌, ◌≤◌, List, [], length, get_or}
use Rattle.page_tree.specs.Page.{page_at}
use Rattle.page_tree.specs.Tree.{Node, before, IsRooted}
use Rattle.page_tree.specs.Path.{IsLed}
use Rattle.page_tree.specs.Broken.{IsLeafForm}
use Rattle.page_tree.specs.Leaves.{records_in}
use Rattle.page_tree.specs.Walked.{IsWalked}
use Rattle.page_tree.proofs.by_index.find_place.Given as goal

abbrev pub invariant-leaves : goal.invariant-leaves
invariant-leaves g l = record {
  led : (b : List ℕ) → g.M.FlatMem.reveals l.initial.mem b → (records : List (List ℕ)) (nodes : ℕ → List Node) → IsRooted g.row.E g.row.K (g.M.FlatMem.size l.initial.mem / 512) b records l.header.levels l.header.root nodes
      → IsLed b l.header.levels nodes l.initial.page l.initial.path.pages l.initial.path.index l.initial.at 0 → IsLed b l.header.levels nodes l.page l.path.pages l.path.index l.at l.passed × (l.initial.rest ≡ before (nodes 1) l.passed + l.rest);
  walked : (b : List ℕ) → g.M.FlatMem.reveals l.initial.mem b → (root : ℕ) → IsWalked g.row.K b l.header.levels root l.initial.path.pages l.initial.path.index l.initial.at [] → l.initial.page ≡ page_at b l.initial.at
      → (passed : List ℕ) × IsWalked g.row.K b l.header.levels root l.path.pages l.path.index l.at passed × (length passed ≡ l.passed) × (records_in b passed + l.rest ≡ l.initial.rest);
  path : (n : ℕ) → 1 < n → n ≤ l.header.levels → get_or l.path.pages n 0 < g.M.FlatMem.size l.initial.mem / 512;
  inside : l.at < g.M.FlatMem.size l.initial.mem / 512;
  few : l.passed ≤ l.pages;
  form : IsLeafForm g.row.E l.page;
  read : (b : List ℕ) → g.M.FlatMem.reveals l.initial.mem b → l.initial.page ≡ page_at b l.initial.at → l.page ≡ page_at b l.at;
  unchanged : (b : List ℕ) → g.M.FlatMem.reveals l.initial.mem b → g.M.FlatMem.reveals l.mem b;
  kept : g.M.FlatMem.beside l.initial.mem l.mem;
  looked : g.M.FlatMem.only_reads l.initial.mem l.mem;
  cost : g.M.FlatMem.spent l.mem ≤ g.M.FlatMem.spent l.initial.mem + l.passed * (11 * g.M.FlatMem.cost);
}

abbrev pub decreases-leaves : goal.decreases-leaves
decreases-leaves g l = l.pages - l.passed
