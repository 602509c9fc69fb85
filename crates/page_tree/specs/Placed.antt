-- A record by its index in the list.
use Rattle.std.specs.Prelude.{◌≡◌, ℕ, ◌+◌, ◌<◌, ◌≤◌, ◌⊎◌, List, length, remove, slice_set}
use Rattle.flat_mem.specs.Order.{IsAfter}
use Rattle.page_tree.specs.Page.{page_at, filled}
use Rattle.page_tree.specs.Tree.{Node, node_at, before, IsTree}
use Rattle.page_tree.specs.Path.{IsPath}
use Rattle.page_tree.specs.Climb.{IsClosed}
use Rattle.page_tree.specs.Out.{IsBare}

-- the path ends in the leaf `at`, which has these bytes, and record `place` of it is record i of the list
pub record IsPlaced (b : List ℕ) (levels : ℕ) (nodes : ℕ → List Node) (page pages index : List ℕ) (i at place : ℕ) : Type 0 where
  pub home : ℕ → ℕ
  pub path : IsPath nodes levels 1 pages index at home
  pub bytes : page ≡ page_at b (node_at (nodes 1) (home 1)).page
  pub below : place < filled page
  pub is : i ≡ before (nodes 1) (home 1) + place

-- n is the index after the last record whose key is at most this one
pub record IsCounted (k : ℕ) (xs : List (List ℕ)) (key : List ℕ) (n : ℕ) : Type 0 where
  pub within : n ≤ length xs
  pub after : IsAfter k xs key n

-- only the header is left to be written; or no record is left, and no level
abbrev pub IsLeft : ℕ → ℕ → ℕ → (List ℕ → Type 0) → List (List ℕ) → ℕ → ℕ → ℕ → ℕ → Type 0
IsLeft e k pages reveals xs levels root first top = (c : List ℕ) × reveals c × (((1 ≤ levels) × IsClosed e k pages c xs levels root first top) ⊎ IsBare e k pages c xs levels root first top)

-- the memory reveals a well-formed tree without record i
abbrev pub IsOutAt : ℕ → ℕ → ℕ → (List ℕ → Type 0) → List (List ℕ) → ℕ → Type 0
IsOutAt e k pages reveals xs i = (now : List ℕ) × reveals now × IsTree e k pages now (remove xs i)

-- the memory reveals a well-formed tree with this entry in the place of record i
abbrev pub IsSetAt : ℕ → ℕ → ℕ → (List ℕ → Type 0) → List (List ℕ) → ℕ → List ℕ → Type 0
IsSetAt e k pages reveals xs i entry = (now : List ℕ) × reveals now × IsTree e k pages now (slice_set xs i entry)
