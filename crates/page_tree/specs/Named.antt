-- The one page above a leaf that has its first key.
use Rattle.std.specs.Prelude.{◌≡◌, ℕ, ◌+◌, ◌-◌, ◌*◌, ◌<◌, ◌≤◌, ◌⊎◌, List, [], ◌∷◌, length, get_or, Option, Some, None}
use Rattle.flat_mem.specs.Memory.{overwritten}
use Rattle.page_tree.specs.Page.{page_at, IsInner}
use Rattle.page_tree.specs.Keys.{Item}
use Rattle.page_tree.specs.Tree.{node_at, before}
use Rattle.page_tree.specs.Path.{IsPath}
use Rattle.page_tree.specs.Climb.{child_item, IsClosed}
use Rattle.page_tree.specs.Rebalance.{IsRebalance}

-- the path turns aside from the first child at this level, and at none below it
pub record IsTurn (index : List ℕ) (levels l : ℕ) : Type 0 where
  pub from : 2 ≤ l
  pub most : l ≤ levels
  pub turns : 0 < get_or index l 0
  pub straight : (m : ℕ) → 2 ≤ m → m < l → get_or index m 0 ≡ 0

-- the lowest such level, or none: then the path leads to the first leaf of all
abbrev pub IsLowestTurn : List ℕ → ℕ → Option ℕ → Type 0
IsLowestTurn index levels (Some l) = IsTurn index levels l
IsLowestTurn index levels None = (m : ℕ) → 2 ≤ m → m ≤ levels → get_or index m 0 ≡ 0

-- the key is carried up: below level l it is written down, and at level l the first key of child `index l` has still to be replaced; the leaf lists these items
pub record IsNaming (e k pages : ℕ) (v : List ℕ) (records : List (List ℕ)) (levels l : ℕ) (paths index : List ℕ) (at : ℕ) (key : List ℕ) (child root first top pos : ℕ) (xs : List Item) : Type 0 where
  pub its : List Item
  pub its_is : its ≡ child_item key child ∷ []
  pub rebalance : IsRebalance e k pages v records levels l paths index (get_or paths l 0) (get_or index l 0) 1 its root first top
  pub whole : IsPath rebalance.nodes levels 1 paths index at rebalance.place
  pub items : (node_at (rebalance.nodes 1) (rebalance.place 1)).items ≡ xs
  pub starts : before (rebalance.nodes 1) (rebalance.place 1) ≡ pos

-- all is done but the header, and the path and its leaf are known
pub record IsKept (e k pages : ℕ) (c : List ℕ) (records : List (List ℕ)) (levels : ℕ) (paths index : List ℕ) (at root first top pos : ℕ) (xs : List Item) : Type 0 where
  pub closed : IsClosed e k pages c records levels root first top
  pub place : ℕ → ℕ
  pub whole : IsPath closed.nodes levels 1 paths index at place
  pub items : (node_at (closed.nodes 1) (place 1)).items ≡ xs
  pub starts : before (closed.nodes 1) (place 1) ≡ pos

-- the page that has the leaf's key, if there is one, is an inner page of the memory
pub record CanName (k : ℕ) (b : List ℕ) (pages levels : ℕ) (paths index : List ℕ) : Type 0 where
  pub inside : (l : ℕ) → IsTurn index levels l → get_or paths l 0 < pages
  pub inner : (l : ℕ) → IsTurn index levels l → (xs : List Item) × IsInner k (page_at b (get_or paths l 0)) xs × (get_or index l 0 < length xs)

-- the key stands in the page that has it; the first leaf of all has none
abbrev pub IsNamed : ℕ → (List ℕ → Type 0) → List ℕ → ℕ → List ℕ → List ℕ → List ℕ → Type 0
IsNamed k reveals b levels paths index key =
    (((m : ℕ) → 2 ≤ m → m ≤ levels → get_or index m 0 ≡ 0) × reveals b)
    ⊎ ((l : ℕ) × IsTurn index levels l × reveals (overwritten b (512 * get_or paths l 0) (overwritten (page_at b (get_or paths l 0)) (8 + k * (get_or index l 0 - 1)) key)))
