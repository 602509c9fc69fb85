-- The last record of a key, by its leaf.
use Rattle.std.proofs.Common.{◌≡◌, ◌≢◌, inl, inr, ℕ, ◌+◌, ◌-◌, ◌*◌, ◌<◌, ◌≤◌, true, false, List, [], length, map, take, drop, arith, refl, sym, ◌∙◌, ap}
use Rattle.std.proofs.lemmas.Bool.{cases_lt, cases_eq, false≢true}
use Rattle.std.proofs.lemmas.List.{length-map, get_or-map, take-take}
use Rattle.std.specs.Str.{bytes_eq}
use Rattle.flat_mem.specs.Memory.{part}
use Rattle.std.proofs.lemmas.Slice.Eq.{bytes_eq-Decides}
use Rattle.std.proofs.lemmas.Map.Text.{is_eq-slice_cmp}
use Rattle.std.proofs.lemmas.Cmp.{nat_list_cmp_total}
use Rattle.std.specs.Ordering.{is_le, is_eq, ordering_reverse}
use Rattle.std.specs.declared.cmp.Ordering.{Ordering}
use Rattle.std.specs.declared.cmp.Ordering.TheVariants.{Less, Equal, Greater}
use Rattle.flat_mem.specs.Order.{key_at, entry_at}
use Rattle.page_tree.specs.Keys.{Item, no_item, item_at, at_most}
use Rattle.page_tree.specs.Page.{IsWidths, filled, record_at, record_item, IsLeaf}
use Rattle.page_tree.specs.Tree.{Node, node_at, items_of, before, IsTower}
use Rattle.page_tree.specs.Path.{IsReached}
use Rattle.page_tree.specs.Removed.{IsLastOf, NoneOf, IsLastHere, IsNotHere}
use Rattle.page_tree.proofs.Order.{at_most_itself}
use Rattle.page_tree.proofs.Levels.{item_of_page, page_fits, length-heads}
use Rattle.page_tree.proofs.Descent.{leaf, after_in_leaf, none_in_leaf}

above_other : (x key : List ℕ) → at_most x key ≡ false → x ≢ key
above_other x key above same = false≢true (sym above ∙ ap (λ (y : List ℕ). at_most y key) same ∙ at_most_itself key)

both_le : (o : Ordering) → is_le o ≡ true → is_le (ordering_reverse o) ≡ true → is_eq o ≡ true
both_le Less h back = absurd (false≢true back)
both_le Equal h back = refl
both_le Greater h back = absurd (false≢true h)

-- two keys of which each is at most the other are the same
at_most_same : (x y : List ℕ) → at_most x y ≡ true → at_most y x ≡ true → x ≡ y
unfolding at_most
at_most_same x y h back = (bytes_eq-Decides x y).0 (sym (is_eq-slice_cmp x y) ∙ both_le _ h (sym (ap is_le (nat_list_cmp_total.antisymm y x)) ∙ back))

module _ (e k : ℕ) (b : List ℕ) (records : List (List ℕ)) (levels : ℕ) (nodes : ℕ → List Node) (tower : IsTower e k b records levels nodes) (some_level : 0 < levels)
    (key page pages index : List ℕ) (home : ℕ) (reached : IsReached b levels nodes key page pages index home) where
  -- what the scan of the leaf says of the whole list
  around : (c : ℕ) → c ≤ filled page → (0 < c → at_most (take k (record_at e page (c - 1))) key ≡ true) → (c < filled page → at_most (take k (record_at e page c)) key ≡ false)
      → ((j : ℕ) → j < before (nodes 1) (reached.place 1) + c → at_most (key_at k records j) key ≡ true) × ((j : ℕ) → before (nodes 1) (reached.place 1) + c ≤ j → j < length records → at_most (key_at k records j) key ≡ false)
  around c most low next = let after = after_in_leaf e k b records levels nodes tower some_level key page pages index home reached c most low next in (after.after.below, after.after.above)

  here : IsLeaf e k page (node_at (nodes 1) (reached.place 1)).items
  here = leaf e k b records levels nodes tower some_level key page pages index home reached

  place_below : reached.place 1 < length (nodes 1)
  place_below = omega (arith, reached.found.below, length-heads (nodes 1))

  size : length (items_of (nodes 1)) ≡ length records
  size = ap length (tower.listed 0 some_level) ∙ length-map records (record_item k)

  -- record j of the leaf, in the list
  pub found_below : (j : ℕ) → j < filled page → before (nodes 1) (reached.place 1) + j < length records
  found_below j inside = omega (arith, inside, here.count, page_fits (nodes 1) (reached.place 1) place_below, size)

  pub found_record : (j : ℕ) → j < filled page → record_item k (record_at e page j) ≡ record_item k (entry_at records (before (nodes 1) (reached.place 1) + j))
  found_record j inside =
      sym (here.lists j (omega (arith, inside, here.count))) ∙ sym (item_of_page (nodes 1) (reached.place 1) j place_below (omega (arith, inside, here.count)))
      ∙ ap (λ (xs : List Item). item_at xs (before (nodes 1) (reached.place 1) + j)) (tower.listed 0 some_level)
      ∙ get_or-map (record_item k) records (before (nodes 1) (reached.place 1) + j) [] no_item (found_below j inside)

  pub found_last : (place : ℕ) → IsLastHere e k page key place → IsLastOf k records key (before (nodes 1) (reached.place 1) + place)
  found_last place last = record {
    below = found_below place last.below;
    holds = sym (ap (λ (x : Item). x.key) (found_record place last.below)) ∙ last.holds;
    above = λ j after below. above_other (key_at k records j) key (scanned.1 j (omega (arith, after)) below);
  }
    where
      back : place + 1 - 1 ≡ place
      back = omega arith

      scanned : ((j : ℕ) → j < before (nodes 1) (reached.place 1) + (place + 1) → at_most (key_at k records j) key ≡ true) × ((j : ℕ) → before (nodes 1) (reached.place 1) + (place + 1) ≤ j → j < length records → at_most (key_at k records j) key ≡ false)
      scanned = around (place + 1) (omega (arith, last.below))
          (λ (h : 0 < place + 1). ap (λ (i : ℕ). at_most (take k (record_at e page i)) key) back ∙ ap (λ (x : List ℕ). at_most x key) last.holds ∙ at_most_itself key) last.next

  key_item : (j : ℕ) → j < length records → item_at (map (record_item k) records) j ≡ record_item k (entry_at records j)
  key_item j below = get_or-map (record_item k) records j [] no_item below

  pub found_none : IsNotHere e k page key → NoneOf k records key
  found_none not j below same = elim (cases_eq not.c 0) [
    | inl none ↦
        let first : at_most (take k (record_at e page 0)) key ≡ false = ap (λ (i : ℕ). at_most (take k (record_at e page i)) key) (sym none) ∙ not.next (omega (arith, none, here.count, here.some)) in
        above_other (key_at k records j) key (none_in_leaf e k b records levels nodes tower some_level key page pages index home reached first j below) same
    | inr other ↦ elim (cases_lt j (before (nodes 1) (reached.place 1) + not.c)) [
      | inr high ↦ above_other (key_at k records j) key (scanned.1 j high below) same
      | inl low ↦
          let c_in : not.c - 1 < filled page = omega (arith, not.most, other) in
          let pos_in = found_below (not.c - 1) c_in in
          let key_is : take k (record_at e page (not.c - 1)) ≡ key_at k records (before (nodes 1) (reached.place 1) + (not.c - 1)) = ap (λ (x : Item). x.key) (found_record (not.c - 1) c_in) in
          let order = tower.ascending j (before (nodes 1) (reached.place 1) + (not.c - 1)) (omega (arith, low, other)) (omega (arith, pos_in, length-map records (record_item k))) in
          let order_keys : at_most (key_at k records j) (key_at k records (before (nodes 1) (reached.place 1) + (not.c - 1))) ≡ true =
          sym (ap (λ (x : Item). at_most x.key (item_at (map (record_item k) records) (before (nodes 1) (reached.place 1) + (not.c - 1))).key) (key_item j below)
          ∙ ap (λ (x : Item). at_most (key_at k records j) x.key) (key_item (before (nodes 1) (reached.place 1) + (not.c - 1)) pos_in)) ∙ order in
          let above_key : at_most key (take k (record_at e page (not.c - 1))) ≡ true = ap (at_most key) key_is ∙ ap (λ (x : List ℕ). at_most x (key_at k records (before (nodes 1) (reached.place 1) + (not.c - 1)))) (sym same) ∙ order_keys in
          not.other (omega (arith, other)) (at_most_same (take k (record_at e page (not.c - 1))) key (not.low (omega (arith, other))) above_key)
    ]
  ]
    where
      scanned : ((i : ℕ) → i < before (nodes 1) (reached.place 1) + not.c → at_most (key_at k records i) key ≡ true) × ((i : ℕ) → before (nodes 1) (reached.place 1) + not.c ≤ i → i < length records → at_most (key_at k records i) key ≡ false)
      scanned = around not.c not.most not.low not.next

-- by the scan of the leaf
module _ (e k : ℕ) (page key : List ℕ) (c : ℕ) (widths : IsWidths e k) (some : c ≢ 0) (most : c ≤ filled page) (low_part : 0 < c → at_most (part page (8 + e * (c - 1)) k) key ≡ true) (next_part : c < filled page → at_most (part page (8 + e * c) k) key ≡ false) where
  shorter : (i : ℕ) → take k (record_at e page i) ≡ part page (8 + e * i) k
  shorter i = take-take k e (drop (8 + e * i) page) (omega (arith, widths.key_most, widths.entry_least))

  pub not_here : false ≡ bytes_eq (part page (8 + e * (c - 1)) k) key → IsNotHere e k page key
  not_here is = record {
    c = c;
    most = most;
    low = λ h. ap (λ (x : List ℕ). at_most x key) (shorter (c - 1)) ∙ low_part h;
    other = λ h same. false≢true (is ∙ (bytes_eq-Decides (part page (8 + e * (c - 1)) k) key).1 (sym (shorter (c - 1)) ∙ same));
    next = λ h. ap (λ (x : List ℕ). at_most x key) (shorter c) ∙ next_part h;
  }

  pub last_here : true ≡ bytes_eq (part page (8 + e * (c - 1)) k) key → IsLastHere e k page key (c - 1)
  last_here is = record {
    below = omega (arith, some, most);
    holds = shorter (c - 1) ∙ (bytes_eq-Decides (part page (8 + e * (c - 1)) k) key).0 (sym is);
    next = λ h. ap (λ (i : ℕ). at_most (take k (record_at e page i)) key) again ∙ ap (λ (x : List ℕ). at_most x key) (shorter c) ∙ next_part (omega (arith, h, some));
  }
    where
      again : c - 1 + 1 ≡ c
      again = omega (arith, some)
