-- A record by its leaf and its place there.
use Rattle.std.proofs.Common.{◌≡◌, ℕ, zero, suc, ◌+◌, ◌-◌, ◌*◌, ◌/◌, ◌<◌, ◌≤◌, List, [], length, arith, refl, sym, ◌∙◌, ap, subst}
use Rattle.std.proofs.lemmas.List.{length-map, get_or-map}
use Rattle.std.proofs.lemmas.Nat.{mul-le}
use Rattle.flat_mem.specs.Order.{entry_at}
use Rattle.page_tree.specs.Keys.{Item, no_item, item_at}
use Rattle.page_tree.specs.Page.{page_at, filled, record_at, record_item, IsLeaf}
use Rattle.page_tree.specs.Tree.{Node, node_at, before, pages_to, IsTower, IsShared, IsRooted}
use Rattle.page_tree.specs.SectorState.{IsSectorState}
use Rattle.page_tree.specs.Path.{IsPath, leaf_under}
use Rattle.page_tree.proofs.Levels.{item_of_page, page_fits, before_more, before_all}

-- by first children from the first page of a level one comes to the first leaf
pub first_from : (nodes : ℕ → List Node) (l : ℕ) → leaf_under nodes l 0 0 ≡ 0
first_from nodes zero = refl
first_from nodes (suc zero) = refl
first_from nodes (suc (suc d)) = first_from nodes (suc d)

module _ (e k : ℕ) (b : List ℕ) (records : List (List ℕ)) (levels : ℕ) (nodes : ℕ → List Node) (tower : IsTower e k b records levels nodes) (some : 0 < levels)
    (page pages index : List ℕ) (at : ℕ) (home : ℕ → ℕ) (path : IsPath nodes levels 1 pages index at home) (read : page ≡ page_at b (node_at (nodes 1) (home 1)).page) where
  home_below : home 1 < length (nodes 1)
  home_below = path.inside 1 (omega arith) (omega (arith, some))

  pub placed_leaf : IsLeaf e k page (node_at (nodes 1) (home 1)).items
  placed_leaf = subst (λ (x : List ℕ). IsLeaf e k x (node_at (nodes 1) (home 1)).items) (sym read) ((tower.stored 1 (home 1) (omega arith) some home_below).leaf refl)

  -- record j of the leaf, in the list
  pub placed_below : (j : ℕ) → j < filled page → before (nodes 1) (home 1) + j < length records
  placed_below j inside = omega (arith, inside, placed_leaf.count, page_fits (nodes 1) (home 1) home_below, ap length (tower.listed 0 some), length-map records (record_item k))

  pub placed_record : (j : ℕ) → j < filled page → record_item k (record_at e page j) ≡ record_item k (entry_at records (before (nodes 1) (home 1) + j))
  placed_record j inside =
      sym (placed_leaf.lists j (omega (arith, inside, placed_leaf.count))) ∙ sym (item_of_page (nodes 1) (home 1) j home_below (omega (arith, inside, placed_leaf.count)))
      ∙ ap (λ (xs : List Item). item_at xs (before (nodes 1) (home 1) + j)) (tower.listed 0 some)
      ∙ get_or-map (record_item k) records (before (nodes 1) (home 1) + j) [] no_item (placed_below j inside)

  pub placed_entry : (j : ℕ) → j < filled page → record_at e page j ≡ entry_at records (before (nodes 1) (home 1) + j)
  placed_entry j inside = ap (λ (x : Item). x.bytes) (placed_record j inside)

-- there are fewer leaves than pages
pub few_leaves : (levels : ℕ) (nodes : ℕ → List Node) (free : List ℕ) (top pages : ℕ) → IsShared levels nodes free top → 0 < levels → top < pages → length (nodes 1) < pages
few_leaves levels nodes free top pages shared some below = omega (arith, shared.counted, below, first_level levels some)
  where
    first_level : (l : ℕ) → 0 < l → length (nodes 1) ≤ pages_to nodes l
    first_level zero one = absurd (omega (arith, one))
    first_level (suc zero) one = omega arith
    first_level (suc (suc l)) one = omega (arith, first_level (suc l) (omega arith))

-- what is left of an index after the last leaf is no index of the list
pub past_last : (e k : ℕ) (b : List ℕ) (records : List (List ℕ)) (levels : ℕ) (nodes : ℕ → List Node) → IsTower e k b records levels nodes → 0 < levels → (p rest i : ℕ) → p ≡ length (nodes 1) → i ≡ before (nodes 1) p + rest → length records ≤ i
past_last e k b records levels nodes tower some p rest i all is = omega (arith, is, before_all (nodes 1) p (omega (arith, all)), ap length (tower.listed 0 some), length-map records (record_item k))

-- what is left of an index after a leaf
pub rest_after : (ns : List Node) (p n rest i : ℕ) → p < length ns → n ≡ length (node_at ns p).items → n ≤ rest → i ≡ before ns p + rest → i ≡ before ns (p + 1) + (rest - n)
rest_after ns p n rest i below count not is = omega (arith, is, before_more ns p below, count, not)

-- the cost of a walk, and of one more step
pub walks : (now next first cost steps : ℕ) → now ≤ first + steps * (11 * cost) → next ≤ now + 11 * cost → next ≤ first + (steps + 1) * (11 * cost)
walks now next first cost steps so_far more = omega (arith, so_far, more)

pub walks_most : (now first start cost steps pages : ℕ) → now ≤ first + steps * (11 * cost) → first ≤ start + 6 * cost → steps ≤ pages → now ≤ start + (6 + 11 * pages) * cost
walks_most now first start cost steps pages so_far begun few = omega (arith, so_far, begun, mul-le steps (11 * cost) pages (11 * cost) few (omega arith))

-- the same tree in a memory of the same size
abbrev pub sector_state_at : (e k s s' : ℕ) (b : List ℕ) (records : List (List ℕ)) (levels root first top : ℕ) → s ≡ s' → IsSectorState e k (s / 512) b records levels root first top → IsSectorState e k (s' / 512) b records levels root first top
sector_state_at e k s s' b records levels root first top same here = record {
  nodes = here.nodes;
  free = here.free;
  rooted = subst (λ (n : ℕ). IsRooted e k (n / 512) b records levels root here.nodes) same here.rooted;
  chain = here.chain;
  shared = here.shared;
  top_below = subst (λ (n : ℕ). top < n / 512) same here.top_below;
}
