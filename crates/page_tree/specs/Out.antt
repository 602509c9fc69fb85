-- What a removal leaves before the header is written.
use Rattle.std.specs.Prelude.{◌≡◌, ℕ, ◌<◌, ◌≤◌, ◌⊎◌, Bool, true, false, List, [], remove}
use Rattle.page_tree.specs.Tree.{Node}
use Rattle.page_tree.specs.Open.{IsOpen}
use Rattle.page_tree.specs.Climb.{IsClosed}
use Rattle.page_tree.specs.Removed.{IsLastOf, NoneOf}

-- no record is left, and no level
pub record IsBare (e k pages : ℕ) (c : List ℕ) (records : List (List ℕ)) (levels root first top : ℕ) : Type 0 where
  pub none : levels ≡ 0
  pub no_root : root ≡ 0
  pub empty : records ≡ []
  pub nodes : ℕ → List Node
  pub free : List ℕ
  pub opened : IsOpen e k c 0 nodes free first top
  pub top_below : top < pages

-- the last record of the key is out, and only the header is left to be written; or there is none, and the bytes are the same
abbrev pub IsOut : ℕ → ℕ → ℕ → (List ℕ → Type 0) → List ℕ → List (List ℕ) → List ℕ → ℕ → ℕ → ℕ → ℕ → Bool → Type 0
IsOut e k pages reveals b xs key levels root first top true =
    (i : ℕ) × IsLastOf k xs key i × (c : List ℕ) × reveals c × (((1 ≤ levels) × IsClosed e k pages c (remove xs i) levels root first top) ⊎ IsBare e k pages c (remove xs i) levels root first top)
IsOut e k pages reveals b xs key levels root first top false = NoneOf k xs key × reveals b
