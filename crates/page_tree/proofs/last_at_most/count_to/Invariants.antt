use Rattle.std.proofs.Common.{◌≡◌, true, ℕ, ◌+◌, ◌-◌, ◌*◌, ◌/◌, ◌<◌, ◌≤◌, List, [], length, get_or}
use Rattle.flat_mem.specs.Order.{key_at}
use Rattle.page_tree.specs.Keys.{at_most}
use Rattle.page_tree.specs.Tree.{Node, before, IsRooted}
use Rattle.page_tree.specs.Path.{IsLed}
use Rattle.page_tree.specs.Broken.{IsLeafForm}
use Rattle.page_tree.specs.Walked.{IsWalked}
use Rattle.page_tree.proofs.last_at_most.count_to.Given as goal

abbrev pub invariant-leaves : goal.invariant-leaves
invariant-leaves g l = record {
  led : (b : List ℕ) → g.M.FlatMem.reveals l.initial.mem b → (records : List (List ℕ)) (nodes : ℕ → List Node) → IsRooted g.row.E g.row.K (g.M.FlatMem.size l.initial.mem / 512) b records l.header.levels l.header.root nodes
      → (first : ℕ) → IsLed b l.header.levels nodes l.initial.page l.initial.path.pages l.initial.path.index first 0
      → (at : ℕ) × IsLed b l.header.levels nodes l.page l.path.pages l.path.index at l.passed × (l.total ≡ before (nodes 1) l.passed) × ((j : ℕ) → j < before (nodes 1) l.passed → at_most (key_at g.row.K records j) l.key ≡ true);
  walked : (b : List ℕ) → g.M.FlatMem.reveals l.initial.mem b → (root first : ℕ) → IsWalked g.row.K b l.header.levels root l.initial.path.pages l.initial.path.index first []
      → (at : ℕ) × (passed : List ℕ) × IsWalked g.row.K b l.header.levels root l.path.pages l.path.index at passed × (length passed ≡ l.passed);
  path : (n : ℕ) → 1 < n → n ≤ l.header.levels → get_or l.path.pages n 0 < g.M.FlatMem.size l.initial.mem / 512;
  few : l.passed ≤ l.pages;
  small : l.total ≤ 21 * l.passed;
  form : IsLeafForm g.row.E l.page;
  unchanged : (b : List ℕ) → g.M.FlatMem.reveals l.initial.mem b → g.M.FlatMem.reveals l.mem b;
  kept : g.M.FlatMem.beside l.initial.mem l.mem;
  looked : g.M.FlatMem.only_reads l.initial.mem l.mem;
  cost : g.M.FlatMem.spent l.mem ≤ g.M.FlatMem.spent l.initial.mem + l.passed * (11 * g.M.FlatMem.cost);
}

abbrev pub decreases-leaves : goal.decreases-leaves
decreases-leaves g l = l.pages - l.passed
