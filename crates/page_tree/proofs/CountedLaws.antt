-- A scan of the leaves from the first on, up to the first record whose key is above a given one.
use Rattle.std.proofs.Common.{◌≡◌, inl, inr, ℕ, ◌+◌, ◌-◌, ◌*◌, ◌<◌, ◌≤◌, true, false, List, [], length, map, take, Some, None, arith, sym, ◌∙◌, ap, subst}
use Rattle.std.proofs.lemmas.Bool.{cases_lt}
use Rattle.std.proofs.lemmas.List.{length-map, get_or-map}
use Rattle.std.proofs.lemmas.Nat.{mul-le, div-add-mod'}
use Rattle.flat_mem.specs.Memory.{part}
use Rattle.flat_mem.specs.Order.{key_at, entry_at, IsFound}
use Rattle.page_tree.specs.Keys.{Item, no_item, item_at, at_most}
use Rattle.page_tree.specs.Page.{page_at, filled, leaf_room, record_at, record_item, IsLeaf}
use Rattle.page_tree.specs.Tree.{Node, node_at, before, IsTower}
use Rattle.page_tree.specs.Path.{IsPath, IsLed}
use Rattle.page_tree.specs.Placed.{IsCounted}
use Rattle.page_tree.proofs.Order.{above_from, at_most_through}
use Rattle.page_tree.proofs.Levels.{before_more, before_all}
use Rattle.page_tree.proofs.WalkLaws.{key_part}
use Rattle.page_tree.proofs.PlacedLaws.{placed_leaf, placed_below, placed_record}

pub leaf_room_most : (e : ℕ) → 24 ≤ e → leaf_room e ≤ 21
leaf_room_most e least = omega (arith, div-add-mod' 504 e, mul-le 24 (leaf_room e) e (leaf_room e) least (omega arith))

module _ (e k : ℕ) (b : List ℕ) (records : List (List ℕ)) (levels : ℕ) (nodes : ℕ → List Node) (tower : IsTower e k b records levels nodes) (some : 0 < levels)
    (page pages index : List ℕ) (at : ℕ) (home : ℕ → ℕ) (path : IsPath nodes levels 1 pages index at home) (read : page ≡ page_at b (node_at (nodes 1) (home 1)).page) (key : List ℕ)
    (earlier : (j : ℕ) → j < before (nodes 1) (home 1) → at_most (key_at k records j) key ≡ true) where
  abbrev start : ℕ
  start = before (nodes 1) (home 1)

  leaf_here : IsLeaf e k page (node_at (nodes 1) (home 1)).items
  leaf_here = placed_leaf e k b records levels nodes tower some page pages index at home path read

  long : length (map (record_item k) records) ≡ length records
  long = length-map records (record_item k)

  item : (j : ℕ) → j < length records → item_at (map (record_item k) records) j ≡ record_item k (entry_at records j)
  item j inside = get_or-map (record_item k) records j [] no_item inside

  inside : (j : ℕ) → j < filled page → start + j < length records
  inside j below = placed_below e k b records levels nodes tower some page pages index at home path read j below

  key_is : (j : ℕ) → j < filled page → take k (record_at e page j) ≡ key_at k records (start + j)
  key_is j below = ap (λ (x : Item). x.key) (placed_record e k b records levels nodes tower some page pages index at home path read j below)

  rises : (i j : ℕ) → i ≤ j → j < length records → at_most (key_at k records i) (key_at k records j) ≡ true
  rises i j order below =
      sym (ap (λ (x : Item). at_most x.key (item_at (map (record_item k) records) j).key) (item i (omega (arith, order, below))) ∙ ap (λ (x : Item). at_most (key_at k records i) x.key) (item j below))
      ∙ tower.ascending i j order (omega (arith, below, long))

  -- the first c records of the leaf, and all before them, have a key that is at most this one
  pub all_low : (c : ℕ) → c ≤ filled page → (0 < c → at_most (take k (record_at e page (c - 1))) key ≡ true) → (j : ℕ) → j < before (nodes 1) (home 1) + c → at_most (key_at k records j) key ≡ true
  all_low c most low j less = elim (cases_lt j start) [
    | inl first ↦ earlier j first
    | inr not ↦
        let last : c - 1 < filled page = omega (arith, less, not, most) in
        at_most_through (key_at k records j) (key_at k records (start + (c - 1))) key (rises j (start + (c - 1)) (omega (arith, less, not)) (inside (c - 1) last))
        (ap (λ (x : List ℕ). at_most x key) (sym (key_is (c - 1) last)) ∙ low (omega (arith, less, not)))
  ]

  -- the scan ends in this leaf
  pub counted_here : (c : ℕ) → c < filled page → (0 < c → at_most (take k (record_at e page (c - 1))) key ≡ true) → at_most (take k (record_at e page c)) key ≡ false → IsCounted k records key (before (nodes 1) (home 1) + c)
  counted_here c less low next = record {
    within = omega (arith, inside c less);
    after = record {
      below = all_low c (omega (arith, less)) low;
      above = λ j from below.
          ap (λ (x : Item). at_most x.key key) (sym (item j below))
          ∙ above_from (map (record_item k) records) key (start + c) tower.ascending (ap (λ (x : Item). at_most x.key key) (item (start + c) (inside c less)) ∙ ap (λ (x : List ℕ). at_most x key) (sym (key_is c less)) ∙ next) j from (omega (arith, below, long));
    };
  }

  -- all records of the leaf are low
  pub low_after : (c : ℕ) → c ≡ filled page → (0 < c → at_most (take k (record_at e page (c - 1))) key ≡ true) → (j : ℕ) → j < before (nodes 1) (home 1 + 1) → at_most (key_at k records j) key ≡ true
  low_after c all low j less = all_low c (omega (arith, all)) low j (omega (arith, less, before_more (nodes 1) (home 1) (path.inside 1 (omega arith) (omega (arith, some))), leaf_here.count, all))

  pub total_after : (c : ℕ) → c ≡ filled page → before (nodes 1) (home 1) + c ≡ before (nodes 1) (home 1 + 1)
  total_after c all = omega (arith, before_more (nodes 1) (home 1) (path.inside 1 (omega arith) (omega (arith, some))), leaf_here.count, all)

  -- and it is the last leaf
  pub counted_all : (c : ℕ) → c ≡ filled page → (0 < c → at_most (take k (record_at e page (c - 1))) key ≡ true) → home 1 + 1 ≡ length (nodes 1) → IsCounted k records key (before (nodes 1) (home 1) + c)
  counted_all c all low last =
      let whole : before (nodes 1) (home 1) + c ≡ length records = omega (arith, total_after c all, before_all (nodes 1) (home 1 + 1) (omega (arith, last)), ap length (tower.listed 0 some), long) in
      record {
        within = omega (arith, whole);
        after = record { below = all_low c (omega (arith, all)) low; above = λ j from below. absurd (omega (arith, from, below, whole)) };
      }

-- the count names the last of them
pub counted_none : (k : ℕ) (xs : List (List ℕ)) (key : List ℕ) (n : ℕ) → n ≡ 0 → IsCounted k xs key n → IsFound k xs key None
counted_none k xs key n none counted j below = counted.after.above j (omega (arith, none)) below

pub counted_last : (k : ℕ) (xs : List (List ℕ)) (key : List ℕ) (n : ℕ) → 0 < n → IsCounted k xs key n → IsFound k xs key (Some (n - 1))
counted_last k xs key n some counted = record {
  below = omega (arith, some, counted.within);
  holds = counted.after.below (n - 1) (omega (arith, some));
  above = λ j after below. counted.after.above j (omega (arith, after, some)) below;
}

-- the same of the leaf at which a walk has come
module _ (e k : ℕ) (b : List ℕ) (records : List (List ℕ)) (levels : ℕ) (nodes : ℕ → List Node) (tower : IsTower e k b records levels nodes) (some : 0 < levels)
    (page pages index : List ℕ) (at p : ℕ) (led : IsLed b levels nodes page pages index at p) (key : List ℕ) (earlier : (j : ℕ) → j < before (nodes 1) p → at_most (key_at k records j) key ≡ true)
    (total : ℕ) (total_is : total ≡ before (nodes 1) p) (within : k ≤ e) (c : ℕ) (below : c ≤ filled page) (holds : 0 < c → at_most (part page (8 + e * (c - 1)) k) key ≡ true) (above : c < filled page → at_most (part page (8 + e * c) k) key ≡ false) where
  read : page ≡ page_at b (node_at (nodes 1) (led.home 1)).page
  read = led.bytes ∙ ap (page_at b) led.path.here

  earlier_here : (j : ℕ) → j < before (nodes 1) (led.home 1) → at_most (key_at k records j) key ≡ true
  earlier_here j less = earlier j (omega (arith, less, ap (before (nodes 1)) led.home_is))

  low : 0 < c → at_most (take k (record_at e page (c - 1))) key ≡ true
  low h = key_part e k page key (c - 1) true within (holds h)

  total_here : before (nodes 1) (led.home 1) + c ≡ total + c
  total_here = omega (arith, total_is, ap (before (nodes 1)) led.home_is)

  pub led_counted : c < filled page → IsCounted k records key (total + c)
  led_counted less = subst (IsCounted k records key) total_here (counted_here e k b records levels nodes tower some page pages index at led.home led.path read key earlier_here c less low (key_part e k page key c false within (above less)))

  pub led_all : c ≡ filled page → led.home 1 + 1 ≡ length (nodes 1) → IsCounted k records key (total + c)
  led_all all last = subst (IsCounted k records key) total_here (counted_all e k b records levels nodes tower some page pages index at led.home led.path read key earlier_here c all low last)

  pub led_low : c ≡ filled page → (j : ℕ) → j < before (nodes 1) (p + 1) → at_most (key_at k records j) key ≡ true
  led_low all j less = low_after e k b records levels nodes tower some page pages index at led.home led.path read key earlier_here c all low j (omega (arith, less, ap (λ (i : ℕ). before (nodes 1) (i + 1)) led.home_is))

  pub led_total : c ≡ filled page → total + c ≡ before (nodes 1) (p + 1)
  led_total all = sym total_here ∙ total_after e k b records levels nodes tower some page pages index at led.home led.path read key earlier_here c all ∙ ap (λ (i : ℕ). before (nodes 1) (i + 1)) led.home_is
