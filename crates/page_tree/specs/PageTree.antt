-- A tree, its memory and its list.
use Rattle.std.specs.Prelude.{ℕ, ◌/◌, List}
use Rattle.flat_mem.specs.declared.memory.FlatMem.{Ghosts}
use Rattle.page_tree.specs.declared.tree.PageTree.{PageTree}
use Rattle.page_tree.specs.Reveals.{RevealsTree}

module _ {M X : Type 0} {G : Ghosts M X} {e k : ℕ} where
  -- the memory that it stands in
  abbrev pub tree_memory : PageTree M e k X G → M
  tree_memory t = t.mem

  -- its memory reveals that its entries are these, in ascending order
  abbrev pub Lists : PageTree M e k X G → List (List ℕ) → Type 0
  Lists t xs = RevealsTree e k (G.size t.mem / 512) (G.reveals t.mem) xs
