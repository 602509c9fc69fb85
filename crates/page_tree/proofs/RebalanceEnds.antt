-- A removal begins; and it ends where the root goes.
use Rattle.std.proofs.Common.{◌≡◌, ◌≢◌, inl, inr, ℕ, zero, suc, ◌+◌, ◌<◌, ◌≤◌, List, [], ◌∷◌, length, map, arith, refl, sym, ◌∙◌, ap, subst}
use Rattle.std.proofs.lemmas.Bool.{cases_lt}
use Rattle.std.proofs.lemmas.List.{append-nil, length-map}
use Rattle.page_tree.specs.Keys.{Item, AreInKeyOrder}
use Rattle.page_tree.specs.Page.{page_at, kind_of, next_in, record_item}
use Rattle.page_tree.specs.Tree.{Node, node_at, items_of, before}
use Rattle.page_tree.specs.Change.{without}
use Rattle.page_tree.specs.Path.{IsPath}
use Rattle.page_tree.specs.Climb.{IsClosed, IsReady}
use Rattle.page_tree.specs.Open.{IsOpen}
use Rattle.page_tree.specs.Rebalance.{IsRebalance}
use Rattle.page_tree.proofs.Less.{length-without, without_below, without_above}
use Rattle.page_tree.proofs.Due.{begin_lack, shrink_root, shrink_one}
use Rattle.page_tree.proofs.PairOpen.{open_shrink}

pub map_without : {X Y : Type 0} (f : X → Y) (xs : List X) (p : ℕ) → p < length xs → map f (without xs p) ≡ without (map f xs) p
map_without f [] p below = absurd (omega arith)
map_without f (x ∷ xs) zero below = refl
map_without f (x ∷ xs) (suc p) below = ap (λ (ys : List _). f x ∷ ys) (map_without f xs p (omega arith))

pub ascending_without : (xs : List Item) (p : ℕ) → AreInKeyOrder xs → p < length xs → AreInKeyOrder (without xs p)
ascending_without xs p ascending below i j order inside = elim (cases_lt j p) [
  | inl j_low ↦
      let left = without_below xs p i below (omega (arith, j_low, order)) in
      let right = without_below xs p j below j_low in
      rw (left, right) (ascending i j order (omega (arith, j_low, below)))
  | inr j_high ↦
      let right = without_above xs p j below (omega (arith, j_high)) in
      elim (cases_lt i p) [
        | inl i_low ↦ let left = without_below xs p i below i_low in rw (left, right) (ascending i (suc j) (omega (arith, order)) (omega (arith, inside, length-without xs p below)))
        | inr i_high ↦ let left = without_above xs p i below (omega (arith, i_high)) in rw (left, right) (ascending (suc i) (suc j) (omega (arith, order)) (omega (arith, inside, length-without xs p below)))
      ]
]

pub begin_rebalance : (e k pages : ℕ) (b : List ℕ) (records : List (List ℕ)) (levels root first top : ℕ) (ready : IsReady e k pages b records levels root first top)
    (paths index : List ℕ) (home : ℕ) (place : ℕ → ℕ) → IsPath ready.nodes levels 1 paths index home place → (pos slot : ℕ) → pos < length records → pos ≡ before (ready.nodes 1) (place 1) + slot
    → IsRebalance e k pages b (without records pos) levels 1 paths index home slot 1 [] root first top
begin_rebalance e k pages b records levels root first top ready paths index home place path pos slot below is = record {
  nodes = ready.nodes;
  free = ready.free;
  place = place;
  pos = pos;
  opened = record { stored = ready.rooted.tower.stored; filled = ready.rooted.tower.filled; chain = ready.chain; shared = ready.shared };
  due = begin_lack k records levels ready.nodes pos below ready.rooted.tower.listed;
  path = path;
  pos_is = is;
  order = subst AreInKeyOrder (sym (map_without (record_item k) records pos below)) (ascending_without (map (record_item k) records) pos ready.rooted.tower.ascending (omega (arith, below, length-map records (record_item k))));
  one = ready.rooted.one;
  root_is = ready.rooted.root_is;
  top_below = ready.top_below;
}

pub items_one : (ns : List Node) → length ns ≡ 1 → items_of ns ≡ (node_at ns 0).items
items_one [] one = absurd (omega (arith, one))
items_one (n ∷ []) one = append-nil n.items
items_one (n ∷ m ∷ ns) one = absurd (omega (arith, one))

-- a root of two children loses one: the other is the root, and the page is free
pub rebalance_shrink : (e k pages : ℕ) (b : List ℕ) (records : List (List ℕ)) (lower : ℕ) (paths index : List ℕ) (home slot root first top : ℕ)
    (rebalance : IsRebalance e k pages b records (lower + 1) (lower + 1) paths index home slot 1 [] root first top) → 1 ≤ lower → slot < 2 → length (node_at (rebalance.nodes (lower + 1)) 0).items ≡ 2
    → (c : List ℕ) → ((q : ℕ) → 1 ≤ q → q ≢ root → page_at c q ≡ page_at b q) → kind_of (page_at c root) ≡ 0 → next_in (page_at c root) ≡ first
    → IsClosed e k pages c records lower (node_at (rebalance.nodes lower) 0).page root top
rebalance_shrink e k pages b records lower paths index home slot root first top rebalance some less two c others kind next = record {
  nodes = rebalance.nodes;
  free = root ∷ rebalance.free;
  opened = subst (λ (q : ℕ). IsOpen e k c lower rebalance.nodes (q ∷ rebalance.free) q top) (sym rebalance.root_is)
      (open_shrink e k b (lower + 1) rebalance.nodes rebalance.free first top rebalance.opened lower refl rebalance.one c
      (λ (q : ℕ) (some_q : 1 ≤ q) (other : q ≢ (node_at (rebalance.nodes (lower + 1)) 0).page). others q some_q (λ (h : q ≡ root). other (h ∙ rebalance.root_is)))
      (subst (λ (q : ℕ). kind_of (page_at c q) ≡ 0) rebalance.root_is kind)
      (subst (λ (q : ℕ). next_in (page_at c q) ≡ first) rebalance.root_is next));
  listed = shrink_root k records lower rebalance.nodes rebalance.pos rebalance.due;
  order = rebalance.order;
  one = shrink_one k records lower rebalance.nodes rebalance.pos rebalance.due some
      (omega (arith, rebalance.pos_is, less, ap (before (rebalance.nodes (lower + 1))) rebalance.path.top))
      (ap length (items_one (rebalance.nodes (lower + 1)) rebalance.one) ∙ two);
  root_is = refl;
  top_below = rebalance.top_below;
}
