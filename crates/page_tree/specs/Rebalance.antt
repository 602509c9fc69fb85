-- A removal on its way up.
use Rattle.std.specs.Prelude.{◌≡◌, ℕ, ◌+◌, ◌<◌, List, length, map}
use Rattle.page_tree.specs.Keys.{Item, AreInKeyOrder}
use Rattle.page_tree.specs.Page.{record_item}
use Rattle.page_tree.specs.Tree.{Node, node_at, before}
use Rattle.page_tree.specs.Path.{IsPath}
use Rattle.page_tree.specs.Open.{IsOpen}
use Rattle.page_tree.specs.Due.{IsDue}

-- the levels below `level` are done; in the page of the path at this level the `less` items from `slot` on have still to be replaced by these
pub record IsRebalance (e k pages : ℕ) (c : List ℕ) (records : List (List ℕ)) (levels level : ℕ) (paths index : List ℕ) (home slot less : ℕ) (its : List Item) (root first top : ℕ) : Type 0 where
  pub nodes : ℕ → List Node
  pub free : List ℕ
  pub place : ℕ → ℕ
  pub pos : ℕ
  pub opened : IsOpen e k c levels nodes free first top
  pub due : IsDue k records levels nodes level pos less its
  pub path : IsPath nodes levels level paths index home place
  pub pos_is : pos ≡ before (nodes level) (place level) + slot
  pub order : AreInKeyOrder (map (record_item k) records)
  pub one : length (nodes levels) ≡ 1
  pub root_is : root ≡ (node_at (nodes levels) 0).page
  pub top_below : top < pages
