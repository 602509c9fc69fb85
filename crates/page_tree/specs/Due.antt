-- The levels while an edit goes up: items to be put, taken out or replaced.
use Rattle.std.specs.Prelude.{◌≡◌, ◌≢◌, ℕ, ◌+◌, ◌<◌, List, [], ◌++◌, take, drop}
use Rattle.page_tree.specs.Keys.{Item}
use Rattle.page_tree.specs.Tree.{Node, items_of, rows}

-- the list with other items in the place of the n from p on
abbrev pub swapped : {X : Type 0} → List X → ℕ → ℕ → List X → List X
swapped xs p n mid = take p xs ++ (mid ++ drop n (drop p xs))

-- each level lists the one below, but that in level `at` the `less` items from this place on have still to be replaced by these
pub record IsDue (k : ℕ) (records : List (List ℕ)) (levels : ℕ) (nodes : ℕ → List Node) (at pos less : ℕ) (its : List Item) : Type 0 where
  pub listed : (l : ℕ) → l < levels → l + 1 ≢ at → items_of (nodes (l + 1)) ≡ rows k records nodes l
  pub due : (l : ℕ) → l < levels → l + 1 ≡ at → swapped (items_of (nodes (l + 1))) pos less its ≡ rows k records nodes l

-- an item has still to be taken out
abbrev pub IsLack : ℕ → List (List ℕ) → ℕ → (ℕ → List Node) → ℕ → ℕ → Type 0
IsLack k records levels nodes at pos = IsDue k records levels nodes at pos 1 []
