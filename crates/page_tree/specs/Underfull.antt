-- A removal on its way up: pages that may be underfull.
use Rattle.std.specs.Prelude.{◌≡◌, ◌≢◌, ℕ, suc, ◌+◌, ◌*◌, ◌/◌, ◌<◌, ◌≤◌, ◌⊎◌, Bool, true, false, List, [], ◌∷◌, ◌++◌, length, get_or}
use Rattle.flat_mem.specs.Memory.{overwritten}
use Rattle.page_tree.specs.Keys.{Item, item_at}
use Rattle.page_tree.specs.Page.{page_at, kind_of, filled, key_room, link_at, next_in, IsPageOf, IsEnough}
use Rattle.page_tree.specs.Tree.{node_at, before}
use Rattle.page_tree.specs.Climb.{child_item, IsClosed}
use Rattle.page_tree.specs.Due.{swapped}
use Rattle.page_tree.specs.Rebalance.{IsRebalance}

-- these bytes have still to be written over the page of level `level` on the path, and it may be underfull then, by one item
pub record IsPending (e k pages : ℕ) (c : List ℕ) (records : List (List ℕ)) (levels level : ℕ) (paths index : List ℕ) (at : ℕ) (page : List ℕ) (root first top : ℕ) : Type 0 where
  pub was : List ℕ
  pub slot : ℕ
  pub less : ℕ
  pub its : List Item
  pub rebalance : IsRebalance e k pages was records levels level paths index at slot less its root first top
  pub inside : slot + less ≤ length (node_at (rebalance.nodes level) (rebalance.place level)).items
  pub bytes : IsPageOf e k level page (swapped (node_at (rebalance.nodes level) (rebalance.place level)).items slot less its)
  pub keeps : (rebalance.place level ≡ 0) ⊎ ((item_at (swapped (node_at (rebalance.nodes level) (rebalance.place level)).items slot less its) 0).key ≡ (item_at (node_at (rebalance.nodes level) (rebalance.place level)).items 0).key)
  pub almost : level < levels → IsEnough e k level (length (swapped (node_at (rebalance.nodes level) (rebalance.place level)).items slot less its) + 1)
  pub others : (q : ℕ) → 1 ≤ q → q ≢ at → page_at c q ≡ page_at was q

-- these bytes are to be those of two neighbours of level `level`, of which the second is child `slot` of the page above
pub record IsPair (e k pages : ℕ) (c : List ℕ) (records : List (List ℕ)) (levels level : ℕ) (paths index : List ℕ) (left_at right_at slot : ℕ) (left right key : List ℕ) (root first top : ℕ) : Type 0 where
  pub was : List ℕ
  pub at : ℕ
  pub from : ℕ
  pub less : ℕ
  pub its : List Item
  pub rebalance : IsRebalance e k pages was records levels level paths index at from less its root first top
  pub p : ℕ
  pub j : ℕ
  pub below : p + 1 < length (rebalance.nodes level)
  pub place : rebalance.pos ≡ before (rebalance.nodes level) p + j
  pub inside : j + less ≤ length ((node_at (rebalance.nodes level) p).items ++ (node_at (rebalance.nodes level) (suc p)).items)
  pub lower : level < levels
  pub listed : suc p ≡ before (rebalance.nodes (level + 1)) (rebalance.place (level + 1)) + slot
  pub left_is : left_at ≡ (node_at (rebalance.nodes level) p).page
  pub right_is : right_at ≡ (node_at (rebalance.nodes level) (suc p)).page
  pub xs : List Item
  pub ys : List Item
  pub both : xs ++ ys ≡ swapped ((node_at (rebalance.nodes level) p).items ++ (node_at (rebalance.nodes level) (suc p)).items) j less its
  pub left_bytes : IsPageOf e k level left xs
  pub right_bytes : IsPageOf e k level right ys
  pub named : 1 < level → (item_at ys 0).key ≡ key
  pub keeps : (p ≡ 0) ⊎ ((item_at xs 0).key ≡ (item_at (node_at (rebalance.nodes level) p).items 0).key)
  pub left_almost : IsEnough e k level (length xs + 1)
  pub right_almost : IsEnough e k level (length ys + 1)
  pub underfull : 1 < level → (filled left < key_room k / 2) ⊎ (filled right < key_room k / 2)
  pub others : (q : ℕ) → 1 ≤ q → q ≢ left_at → q ≢ right_at → page_at c q ≡ page_at was q

-- the two are one page now, so that child `slot` is to be taken out above; or that child has another first key
pub record IsRedistribution (e k pages : ℕ) (reveals : List ℕ → Type 0) (b : List ℕ) (records : List (List ℕ)) (levels level : ℕ) (paths index : List ℕ) (left_at right_at slot less : ℕ) (its : List Item) (root first top : ℕ) : Type 0 where
  pub now : List ℕ
  pub revealed : reveals now
  pub rebalance : IsRebalance e k pages now records levels (level + 1) paths index (get_or paths (level + 1) 0) slot less its root first top
  pub others : (q : ℕ) → 1 ≤ q → q ≢ left_at → q ≢ right_at → page_at now q ≡ page_at b q

abbrev pub IsRedistributed : ℕ → ℕ → ℕ → (List ℕ → Type 0) → List ℕ → List (List ℕ) → ℕ → ℕ → List ℕ → List ℕ → ℕ → ℕ → ℕ → List ℕ → ℕ → ℕ → ℕ → Bool → Type 0
IsRedistributed e k pages reveals b records levels level paths index left_at right_at slot key root first top true = IsRedistribution e k pages reveals b records levels level paths index left_at right_at slot 1 [] root first top
IsRedistributed e k pages reveals b records levels level paths index left_at right_at slot key root first top false = IsRedistribution e k pages reveals b records levels level paths index left_at right_at slot 1 (child_item key right_at ∷ []) root first top

-- the page is free now, and this is the next one
abbrev pub IsGiven : (List ℕ → Type 0) → List ℕ → ℕ → ℕ → Type 0
IsGiven reveals b at next = (bytes : List ℕ) × (length bytes ≡ 512) × (kind_of bytes ≡ 0) × (next_in bytes ≡ next) × reveals (overwritten b (512 * at) bytes)

-- the place of the second of two neighbours, of which one is child `i`
pub record IsSecond (i slot : ℕ) : Type 0 where
  pub at_first : i ≡ 0 → slot ≡ 1
  pub after : 0 < i → slot ≡ i

-- the page is redistributed with a neighbour, and the page above is as it was
pub record IsBeside (e k pages : ℕ) (reveals : List ℕ → Type 0) (b : List ℕ) (records : List (List ℕ)) (levels level : ℕ) (paths index : List ℕ) (slot less : ℕ) (its : List Item) (root first top : ℕ) : Type 0 where
  pub now : List ℕ
  pub revealed : reveals now
  pub rebalance : IsRebalance e k pages now records levels (level + 1) paths index (get_or paths (level + 1) 0) slot less its root first top
  pub above : page_at now (get_or paths (level + 1) 0) ≡ page_at b (get_or paths (level + 1) 0)

-- child `slot` is to be taken out above, or has this first key
abbrev pub NeedsKeyUpdate : ℕ → ℕ → ℕ → (List ℕ → Type 0) → List ℕ → List (List ℕ) → ℕ → ℕ → List ℕ → List ℕ → List ℕ → ℕ → List ℕ → ℕ → ℕ → ℕ → Bool → Type 0
NeedsKeyUpdate e k pages reveals b records levels level paths index above slot key root first top true = IsBeside e k pages reveals b records levels level paths index slot 1 [] root first top
NeedsKeyUpdate e k pages reveals b records levels level paths index above slot key root first top false = IsBeside e k pages reveals b records levels level paths index slot 1 (child_item key (link_at k above slot) ∷ []) root first top

-- all is done but the header; or the page above has still to be written
abbrev pub IsRebalanced : ℕ → ℕ → ℕ → (List ℕ → Type 0) → List (List ℕ) → ℕ → ℕ → List ℕ → List ℕ → ℕ → List ℕ → ℕ → ℕ → ℕ → ℕ → ℕ → Bool → Type 0
IsRebalanced e k pages reveals records levels level paths index at page root first top levels' root' true = (c : List ℕ) × reveals c × IsClosed e k pages c records levels' root' first top
IsRebalanced e k pages reveals records levels level paths index at page root first top levels' root' false = (c : List ℕ) × reveals c × IsPending e k pages c records levels level paths index at page root first top
