-- What an insertion leaves.
use Rattle.std.specs.Prelude.{◌≡◌, ℕ, ◌-◌, ◌*◌, ◌/◌, List, length, take, insert}
use Rattle.page_tree.specs.Page.{leaf_room}
use Rattle.page_tree.specs.Tree.{IsTree}
use Rattle.page_tree.specs.Answer.{GoesTo}
use Rattle.page_tree.specs.declared.error.TreeError.{TreeError}
use Rattle.page_tree.specs.declared.error.TreeError.TheVariants.{Full, Malformed, Mem}

abbrev pub capacity_of : ℕ → ℕ → ℕ
capacity_of e pages = (leaf_room e / 2 - 1) * (pages - 8)

-- the memory reveals a well-formed tree of the records with this one after those whose key is at most its own
pub record IsPut (e k pages : ℕ) (reveals : List ℕ → Type 0) (records : List (List ℕ)) (entry : List ℕ) : Type 0 where
  pub now : List ℕ
  pub revealed : reveals now
  pub at : ℕ
  pub after : GoesTo k records (take k entry) at
  pub tree : IsTree e k pages now (insert records at entry)

-- the tree is full exactly at its capacity, and the bytes are as before
abbrev pub FullOr : {X : Type 0} → ℕ → ℕ → (List ℕ → Type 0) → List ℕ → List (List ℕ) → TreeError X → Type 0
FullOr e pages reveals b records Full = (length records ≡ capacity_of e pages) × reveals b
FullOr e pages reveals b records (Malformed page) = ⊥
FullOr e pages reveals b records (Mem error) = Unit {0}
