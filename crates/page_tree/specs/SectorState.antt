-- A tree with a root, by the numbers of its header.
use Rattle.std.specs.Prelude.{ℕ, ◌<◌, List}
use Rattle.page_tree.specs.Tree.{Node, IsChain, IsShared, IsRooted}

pub record IsSectorState (e k pages : ℕ) (b : List ℕ) (records : List (List ℕ)) (levels root first top : ℕ) : Type 0 where
  pub nodes : ℕ → List Node
  pub free : List ℕ
  pub rooted : IsRooted e k pages b records levels root nodes
  pub chain : IsChain b first free
  pub shared : IsShared levels nodes free top
  pub top_below : top < pages
