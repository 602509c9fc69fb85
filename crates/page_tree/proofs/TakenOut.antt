-- A record taken out of its leaf: what is to be written.
use Rattle.std.proofs.Common.{◌≡◌, ◌≢◌, inl, inr, ℕ, zero, suc, ◌+◌, ◌<◌, ◌≤◌, ◌⊎◌, List, [], ◌∷◌, length, map, remove, slice_set, arith, refl, sym, ◌∙◌, ap, subst}
use Rattle.std.proofs.lemmas.List.{length-map}
use Rattle.flat_mem.specs.Order.{entry_at}
use Rattle.page_tree.specs.Keys.{Item, item_at, AreInKeyOrder}
use Rattle.page_tree.specs.Page.{IsWidths, page_at, filled, record_item, IsLeaf, IsEnough}
use Rattle.page_tree.specs.Tree.{node_at, before}
use Rattle.page_tree.specs.Change.{without}
use Rattle.page_tree.specs.Copied.{leaf_without}
use Rattle.page_tree.specs.Due.{swapped, IsDue}
use Rattle.page_tree.specs.Path.{IsPath}
use Rattle.page_tree.specs.Named.{IsKept}
use Rattle.page_tree.specs.SectorState.{IsSectorState}
use Rattle.page_tree.specs.Underfull.{IsPending}
use Rattle.page_tree.proofs.PlacedLaws.{placed_leaf, placed_below}
use Rattle.page_tree.proofs.Less.{leaf_less, length-without, without_below}
use Rattle.page_tree.proofs.Swapped.{swapped_one}
use Rattle.page_tree.proofs.Due.{begin_lack}
use Rattle.page_tree.proofs.RebalanceEnds.{map_without, ascending_without}
use Rattle.page_tree.proofs.Neighbours.{page_of_leaf}
use Rattle.page_tree.proofs.Replaced.{removed_is, begin_out}

-- the first doubled, and its second copy taken out
pub dup_out : (xs : List Item) (x : Item) → 2 ≤ length xs → x ≡ item_at xs 1 → without (swapped xs 0 1 (x ∷ [])) 1 ≡ without xs 0
dup_out [] x two is = absurd (omega (arith, two))
dup_out (a ∷ []) x two is = absurd (omega (arith, two))
dup_out (a ∷ b ∷ xs) x two is = ap (λ (y : Item). y ∷ xs) is

pub dup_removed : (xs : List (List ℕ)) (p : ℕ) → p + 1 < length xs → remove (slice_set xs p (entry_at xs (p + 1))) (p + 1) ≡ remove xs p
dup_removed [] p below = absurd (omega (arith, below))
dup_removed (a ∷ []) p below = absurd (omega (arith, below))
dup_removed (a ∷ b ∷ xs) zero below = refl
dup_removed (a ∷ b ∷ xs) (suc p) below =
    let next : suc p + 1 ≡ suc (p + 1) = omega arith in
    ap (λ (i : ℕ). remove (slice_set (a ∷ b ∷ xs) (suc p) (entry_at (a ∷ b ∷ xs) i)) i) next ∙ ap (λ (ys : List (List ℕ)). a ∷ ys) (dup_removed (b ∷ xs) p (omega (arith, below)))

-- a record after the first of its leaf, or one of the first leaf
module _ (e k pages : ℕ) (b : List ℕ) (records : List (List ℕ)) (levels root first top : ℕ) (here : IsSectorState e k pages b records levels root first top) (widths : IsWidths e k) (some : 0 < levels)
    (page paths index : List ℕ) (at : ℕ) (home : ℕ → ℕ) (path : IsPath here.nodes levels 1 paths index at home) (read : page ≡ page_at b (node_at (here.nodes 1) (home 1)).page) (place : ℕ) (inside : place < filled page) (long : length page ≡ 512) (two : 2 ≤ filled page) where
  abbrev xs : List Item
  xs = (node_at (here.nodes 1) (home 1)).items

  leaf_here : IsLeaf e k page xs
  leaf_here = placed_leaf e k b records levels here.nodes here.rooted.tower some page paths index at home path read

  place_in : place < length xs
  place_in = omega (arith, inside, leaf_here.count)

  swapped_is : swapped xs place 1 [] ≡ without xs place
  swapped_is = swapped_one xs place [] place_in

  pub out_pending : (0 < place) ⊎ (home 1 ≡ 0)
      → IsPending e k pages b (remove records (before (here.nodes 1) (home 1) + place)) levels 1 paths index at (leaf_without e page (filled page) place) root first top
  out_pending head = record {
    was = b;
    slot = place;
    less = 1;
    its = [];
    rebalance = begin_out e k pages b records levels root first top here paths index at home path (before (here.nodes 1) (home 1) + place) place
        (placed_below e k b records levels here.nodes here.rooted.tower some page paths index at home path read place inside) refl;
    inside = omega (arith, place_in);
    bytes = page_of_leaf e k 1 (leaf_without e page (filled page) place) (swapped xs place 1 []) refl
        (subst (IsLeaf e k (leaf_without e page (filled page) place)) (sym swapped_is) (leaf_less e k page xs (filled page) place (omega (arith, widths.entry_least)) leaf_here long refl inside two));
    keeps = elim head [
      | inl after ↦ inr (ap (λ (ys : List Item). (item_at ys 0).key) swapped_is ∙ ap (λ (x : Item). x.key) (without_below xs place 0 place_in after))
      | inr first_leaf ↦ inl first_leaf
    ];
    almost = λ under. almost_one under;
    others = λ q some_q other. refl;
  }
    where
      almost_one : 1 < levels → IsEnough e k 1 (length (swapped xs place 1 []) + 1)
      almost_one under =
          let was = here.rooted.tower.filled 1 (home 1) (omega arith) under (path.inside 1 (omega arith) (omega (arith, some))) in
          record {
            leaf = λ one. omega (arith, was.leaf refl, ap length swapped_is, length-without xs place place_in);
            inner = λ above. absurd (omega (arith, above));
          }

-- the key is named above: the second of the two is taken out
pub kept_pending : (e k pages : ℕ) (w c : List ℕ) (records : List (List ℕ)) (levels : ℕ) (paths index : List ℕ) (at root first top pos : ℕ) (xs : List Item) → IsKept e k pages w records levels paths index at root first top pos xs → 1 ≤ levels
    → pos + 1 < length records → 1 < length xs → ((q : ℕ) → 1 ≤ q → q ≢ at → page_at c q ≡ page_at w q) → (bytes : List ℕ) → IsLeaf e k bytes (without xs 1)
    → IsPending e k pages c (remove records (pos + 1)) levels 1 paths index at bytes root first top
kept_pending e k pages w c records levels paths index at root first top pos xs kept some below two others bytes is = record {
  was = w;
  slot = 1;
  less = 1;
  its = [];
  rebalance = record {
    nodes = kept.closed.nodes;
    free = kept.closed.free;
    place = kept.place;
    pos = pos + 1;
    opened = kept.closed.opened;
    due = subst (λ (ys : List (List ℕ)). IsDue k ys levels kept.closed.nodes 1 (pos + 1) 1 []) (sym (removed_is records (pos + 1) below)) (begin_lack k records levels kept.closed.nodes (pos + 1) below kept.closed.listed);
    path = kept.whole;
    pos_is = omega (arith, kept.starts);
    order = subst AreInKeyOrder (sym (ap (map (record_item k)) (removed_is records (pos + 1) below) ∙ map_without (record_item k) records (pos + 1) below))
        (ascending_without (map (record_item k) records) (pos + 1) kept.closed.order (omega (arith, below, length-map records (record_item k))));
    one = kept.closed.one;
    root_is = kept.closed.root_is;
    top_below = kept.closed.top_below;
  };
  inside = omega (arith, two, ap length kept.items);
  bytes = page_of_leaf e k 1 bytes (swapped now 1 1 []) refl (subst (IsLeaf e k bytes) (sym out_is) is);
  keeps = inr (ap (λ (ys : List Item). (item_at ys 0).key) (swapped_one now 1 [] two_now) ∙ ap (λ (x : Item). x.key) (without_below now 1 0 two_now (omega arith)));
  almost = λ under. almost_one under;
  others = others;
}
  where
    now : List Item
    now = (node_at (kept.closed.nodes 1) (kept.place 1)).items

    two_now : 1 < length now
    two_now = omega (arith, two, ap length kept.items)

    out_is : swapped now 1 1 [] ≡ without xs 1
    out_is = swapped_one now 1 [] two_now ∙ ap (λ (ys : List Item). without ys 1) kept.items

    almost_one : 1 < levels → IsEnough e k 1 (length (swapped now 1 1 []) + 1)
    almost_one under =
        let was = kept.closed.opened.filled 1 (kept.place 1) (omega arith) under (kept.whole.inside 1 (omega arith) some) in
        record {
          leaf = λ one. omega (arith, was.leaf refl, ap length (swapped_one now 1 [] two_now), length-without now 1 two_now);
          inner = λ above. absurd (omega (arith, above));
        }
