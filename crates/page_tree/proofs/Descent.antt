-- One step down, and what the search ends with.
use Rattle.std.proofs.Common.{◌≡◌, ◌≢◌, inl, inr, ℕ, zero, suc, ◌+◌, ◌-◌, ◌*◌, ◌<◌, ◌≤◌, if◌then◌else◌, Bool, true, false, List, [], length, take, map, set, get_or, arith, refl, sym, ◌∙◌, ap, subst, add-zero}
use Rattle.std.proofs.lemmas.Bool.{cases_lt, cases_eq, false≢true, eq-eqb, ne_eqb}
use Rattle.std.proofs.lemmas.List.{get_or-set_same, get_or-set_other, length-map, get_or-map}
use Rattle.page_tree.specs.Keys.{Item, no_item, item_at, at_most, AreInKeyOrder, IsPlace}
use Rattle.page_tree.specs.Page.{page_at, kind_of, filled, record_at, key_at, link_at, record_item, IsLeaf, IsInner, root_in, levels_in}
use Rattle.page_tree.specs.Tree.{Node, node_at, items_of, before, heads, rows, IsTower, uses, IsShared, IsRooted, IsTree}
use Rattle.page_tree.specs.Path.{IsPath, IsReached, with_place}
use Rattle.flat_mem.specs.Order.{entry_at, IsLastAtMost, NoneAtMost}
use Rattle.page_tree.specs.Reveals.{StandsIn}
use Rattle.page_tree.specs.Broken.{Meets}
use Rattle.page_tree.specs.Answer.{IsLastEntry, IsNextEntry, IsLastInPage, GoesTo}
use Rattle.page_tree.proofs.Order.{above_from, at_most_through}
use Rattle.page_tree.proofs.Once.{times_some, uses_level}
use Rattle.page_tree.proofs.Levels.{NoneEmpty, before_more, before_all, page_fits, item_of_page, heads_page, length-heads, head_key, heads_ascending, step}

module _ (e k : ℕ) (b : List ℕ) (records : List (List ℕ)) (levels : ℕ) (nodes : ℕ → List Node) (tower : IsTower e k b records levels nodes) where
  pub none_empty : (l : ℕ) → 0 < l → l ≤ levels → NoneEmpty (nodes l)
  none_empty l some most q below = elim (cases_eq l 1) [
    | inl one ↦
        let first : q < length (nodes 1) = omega (arith, ap (λ (m : ℕ). length (nodes m)) one) in
        let leaf = (tower.stored 1 q (omega arith) (omega arith) first).leaf refl in
        omega (arith, leaf.some, ap (λ (m : ℕ). length (node_at (nodes m) q).items) one)
    | inr more ↦ let inner = (tower.stored l q some most below).inner (omega (arith, more)) in omega (arith, inner.some)
  ]

  pub rows_ascending : (l : ℕ) → l ≤ levels → AreInKeyOrder (rows k records nodes l)
  rows_ascending zero most = tower.ascending
  rows_ascending (suc l) most =
      let next : suc l ≡ l + 1 = omega arith in
      let listed : items_of (nodes (suc l)) ≡ rows k records nodes l = ap (λ (m : ℕ). items_of (nodes m)) next ∙ tower.listed l (omega arith) in
      heads_ascending (nodes (suc l)) (none_empty (suc l) (omega arith) most) (subst AreInKeyOrder (sym listed) (rows_ascending l (omega arith)))

  pub level_ascending : (l below : ℕ) → l ≡ below + 1 → l ≤ levels → AreInKeyOrder (items_of (nodes l))
  level_ascending l below is most =
      subst AreInKeyOrder (sym (ap (λ (m : ℕ). items_of (nodes m)) is ∙ tower.listed below (omega arith))) (rows_ascending below (omega arith))

pub rows_above : (k : ℕ) (records : List (List ℕ)) (nodes : ℕ → List Node) (l : ℕ) → 0 < l → rows k records nodes l ≡ heads (nodes l)
rows_above k records nodes zero some = absurd (omega arith)
rows_above k records nodes (suc l) some = refl

-- from an inner page to a child
pub go_down : (e k : ℕ) (b : List ℕ) (records : List (List ℕ)) (levels : ℕ) (nodes : ℕ → List Node) → IsTower e k b records levels nodes
    → (l p : ℕ) (key page : List ℕ) → 1 < l → l ≤ levels → IsPlace (heads (nodes l)) key p → page ≡ page_at b (node_at (nodes l) p).page
    → (c : ℕ) → c ≤ filled page
    → (0 < c → at_most (key_at k page (c - 1)) key ≡ true)
    → (c < filled page → at_most (key_at k page c) key ≡ false)
    → (c < length (node_at (nodes l) p).items) × IsPlace (heads (nodes (l - 1))) key (before (nodes l) p + c) × (link_at k page c ≡ (node_at (nodes (l - 1)) (before (nodes l) p + c)).page)
go_down e k b records levels nodes tower l p key page inner_level most place is c inside low next = (c_below, found, link)
  where
    ns : List Node
    ns = nodes l

    p_below : p < length ns
    p_below = omega (arith, place.below, length-heads ns)

    inner : IsInner k page (node_at ns p).items
    inner = subst (λ (x : List ℕ). IsInner k x (node_at ns p).items) (sym is) ((tower.stored l p (omega arith) most p_below).inner inner_level)

    c_below : c < length (node_at ns p).items
    c_below = omega (arith, inner.count)

    some : NoneEmpty ns
    some = none_empty e k b records levels nodes tower l (omega arith) most

    here : IsPlace (items_of ns) key (before ns p + c)
    here = step ns some (level_ascending e k b records levels nodes tower l (l - 1) (omega arith) most) key p c place c_below
        (λ (pos : 0 < c).
        let same : c - 1 + 1 ≡ c = omega arith in
        let named : (item_at (node_at ns p).items c).key ≡ key_at k page (c - 1) = ap (λ (m : ℕ). (item_at (node_at ns p).items m).key) (sym same) ∙ inner.keys (c - 1) (omega (arith, c_below)) in
        ap (λ (x : List ℕ). at_most x key) named ∙ low pos)
        (λ (more : c + 1 < length (node_at ns p).items). ap (λ (x : List ℕ). at_most x key) (inner.keys c more) ∙ next (omega (arith, inner.count)))

    listed : items_of ns ≡ heads (nodes (l - 1))
    listed = let same : l ≡ (l - 1) + 1 = omega arith in
        ap (λ (m : ℕ). items_of (nodes m)) same ∙ tower.listed (l - 1) (omega arith) ∙ rows_above k records nodes (l - 1) (omega arith)

    found : IsPlace (heads (nodes (l - 1))) key (before ns p + c)
    found = subst (λ (xs : List Item). IsPlace xs key (before ns p + c)) listed here

    link : link_at k page c ≡ (node_at (nodes (l - 1)) (before ns p + c)).page
    link =
        sym (inner.links c c_below)
        ∙ ap (λ (x : Item). x.page) (sym (item_of_page ns p c p_below c_below))
        ∙ ap (λ (xs : List Item). (item_at xs (before ns p + c)).page) listed
        ∙ heads_page (nodes (l - 1)) (before ns p + c) (omega (arith, found.below, length-heads (nodes (l - 1))))

-- the inner page that is read, and the leaf
pub inner_page : (e k : ℕ) (b : List ℕ) (records : List (List ℕ)) (levels : ℕ) (nodes : ℕ → List Node) → IsTower e k b records levels nodes
    → (l p : ℕ) (key page : List ℕ) (at : ℕ) → 1 < l → l ≤ levels → IsPlace (heads (nodes l)) key p → at ≡ (node_at (nodes l) p).page → page ≡ page_at b at → IsInner k page (node_at (nodes l) p).items
inner_page e k b records levels nodes tower l p key page at inner_level most place named is =
    subst (λ (x : List ℕ). IsInner k x (node_at (nodes l) p).items) (sym (is ∙ ap (page_at b) named)) ((tower.stored l p (omega arith) most (omega (arith, place.below, length-heads (nodes l)))).inner inner_level)

pub reached_at : (b : List ℕ) (levels : ℕ) (nodes : ℕ → List Node) (l : ℕ) (place : ℕ → ℕ) (key page pages index : List ℕ) (at : ℕ) → l ≡ 1 → IsPlace (heads (nodes l)) key (place l) → IsPath nodes levels l pages index at place → page ≡ page_at b at
    → IsReached b levels nodes key page pages index at
reached_at b levels nodes l place key page pages index at one found path is = record {
  place = place;
  found = subst (λ (m : ℕ). IsPlace (heads (nodes m)) key (place m)) one found;
  path = subst (λ (m : ℕ). IsPath nodes levels m pages index at place) one path;
  bytes = is ∙ ap (page_at b) (path.here ∙ ap (λ (m : ℕ). (node_at (nodes m) (place m)).page) one);
}

place_same : (place : ℕ → ℕ) (m q n : ℕ) → n ≡ m → with_place place m q n ≡ q
place_same place m q n same = ap (λ (t : Bool). if t then q else place n) (eq-eqb n m same)

place_other : (place : ℕ → ℕ) (m q n : ℕ) → n ≢ m → with_place place m q n ≡ place n
place_other place m q n other = ap (λ (t : Bool). if t then q else place n) (ne_eqb n m other)

-- the path at the root
pub path_root : (nodes : ℕ → List Node) (levels : ℕ) (pages index : List ℕ) (root : ℕ) → length (nodes levels) ≡ 1 → root ≡ (node_at (nodes levels) 0).page → IsPath nodes levels levels pages index root (λ m. 0)
path_root nodes levels pages index root one is = record {
  top = refl;
  inside = λ l from most. let same : l ≡ levels = omega arith in omega (arith, one, ap (λ (m : ℕ). length (nodes m)) same);
  page = λ l from most. absurd (omega (arith, from, most));
  chosen = λ l from most. absurd (omega (arith, from, most));
  below = λ l m next from most. absurd (omega (arith, from, most));
  here = is;
}

pub place_root : (nodes : ℕ → List Node) (levels : ℕ) (key : List ℕ) → length (nodes levels) ≡ 1 → IsPlace (heads (nodes levels)) key 0
place_root nodes levels key one = record {
  below = omega (arith, one, length-heads (nodes levels));
  holds = inr refl;
  above = λ q after below. absurd (omega (arith, after, below, one, length-heads (nodes levels)));
}

-- the path goes on to a child
module _ (nodes : ℕ → List Node) (levels l m : ℕ) (pages index : List ℕ) (at child c q : ℕ) (place : ℕ → ℕ) (path : IsPath nodes levels l pages index at place) (next : l ≡ m + 1) (most : l ≤ levels)
    (chosen : c < length (node_at (nodes l) (place l)).items) (long : l < length pages) (long_index : l < length index)
    (is : q ≡ before (nodes l) (place l) + c) (there : q < length (nodes m)) (named : child ≡ (node_at (nodes m) q).page) where
  abbrev now : ℕ → ℕ
  now = with_place place m q

  pub path_down : IsPath nodes levels m (set pages l at) (set index l c) child (with_place place m q)
  path_down = record {
    top = place_other place m q levels (omega (arith, next, most)) ∙ path.top;
    inside = λ n from n_most. elim (cases_eq n m) [
      | inl same ↦ omega (arith, there, place_same place m q n same, ap (λ (i : ℕ). length (nodes i)) same)
      | inr other ↦ omega (arith, path.inside n (omega (arith, from, other, next)) n_most, place_other place m q n other)
    ];
    page = λ n from n_most. elim (cases_eq n l) [
      | inl same ↦
          ap (λ (i : ℕ). get_or (set pages l at) i 0) same ∙ get_or-set_same pages l at 0 long ∙ path.here
          ∙ ap (λ (i : ℕ). (node_at (nodes i) (place i)).page) (sym same) ∙ ap (λ (i : ℕ). (node_at (nodes n) i).page) (sym (place_other place m q n (omega (arith, from))))
      | inr other ↦
          get_or-set_other pages l n at 0 other ∙ path.page n (omega (arith, from, other, next)) n_most
          ∙ ap (λ (i : ℕ). (node_at (nodes n) i).page) (sym (place_other place m q n (omega (arith, from))))
    ];
    chosen = λ n from n_most. elim (cases_eq n l) [
      | inl same ↦
          omega (
            arith,
            chosen,
            ap (λ (i : ℕ). get_or (set index l c) i 0) same,
            get_or-set_same index l c 0 long_index,
            ap (λ (i : ℕ). length (node_at (nodes i) (place i)).items) same,
            ap (λ (i : ℕ). length (node_at (nodes n) i).items) (place_other place m q n (omega (arith, from))),
          )
      | inr other ↦
          omega (
            arith,
            get_or-set_other index l n c 0 other,
            path.chosen n (omega (arith, from, other, next)) n_most,
            ap (λ (i : ℕ). length (node_at (nodes n) i).items) (place_other place m q n (omega (arith, from))),
          )
    ];
    below = λ n i is_next from n_most. elim (cases_eq n l) [
      | inl same ↦
          let i_is : i ≡ m = omega (arith, is_next, same, next) in
          omega (
            arith,
            place_same place m q i i_is,
            is,
            ap (λ (j : ℕ). before (nodes j) (place j)) same,
            ap (λ (j : ℕ). before (nodes n) j) (place_other place m q n (omega (arith, from))),
            ap (λ (j : ℕ). get_or (set index l c) j 0) same,
            get_or-set_same index l c 0 long_index,
          )
      | inr other ↦
          omega (
            arith,
            place_other place m q i (omega (arith, from, other, next, is_next)),
            path.below n i is_next (omega (arith, from, other, next)) n_most,
            ap (λ (j : ℕ). before (nodes n) j) (place_other place m q n (omega (arith, from))),
            get_or-set_other index l n c 0 other,
          )
    ];
    here = named ∙ ap (λ (i : ℕ). (node_at (nodes m) i).page) (sym (place_same place m q m refl));
  }

  pub place_down : (key : List ℕ) → IsPlace (heads (nodes m)) key q → IsPlace (heads (nodes m)) key (with_place place m q m)
  place_down key found = subst (λ (i : ℕ). IsPlace (heads (nodes m)) key i) (sym (place_same place m q m refl)) found

pub affords : (spent after cost total level less : ℕ) → level ≡ less + 1 → after ≤ spent + cost → spent + level * cost ≤ total → after + less * cost ≤ total
affords spent after cost total level less is paid had = let had_more : spent + (less + 1) * cost ≤ total = rw is at had in omega arith

-- the child's page number is that of a page of the tree
pub child_inside : (pages : ℕ) (nodes : ℕ → List Node) (levels : ℕ) → ((l p : ℕ) → 0 < l → l ≤ levels → p < length (nodes l) → (1 ≤ (node_at (nodes l) p).page) × ((node_at (nodes l) p).page < pages))
    → (l q child : ℕ) (key : List ℕ) → 0 < l → l ≤ levels → IsPlace (heads (nodes l)) key q → child ≡ (node_at (nodes l) q).page → (1 ≤ child) × (child < pages)
child_inside pages nodes levels within l q child key some most place is =
    rw is (within l q some most (omega (arith, place.below, length-heads (nodes l))))

-- what stands at a place of the records
record_key : (k : ℕ) (records : List (List ℕ)) (i : ℕ) → i < length records → item_at (map (record_item k) records) i ≡ record_item k (entry_at records i)
record_key k records i below = get_or-map (record_item k) records i [] no_item below

module _ (e k : ℕ) (b : List ℕ) (records : List (List ℕ)) (levels : ℕ) (nodes : ℕ → List Node) (tower : IsTower e k b records levels nodes) (some_level : 0 < levels)
    (key page pages index : List ℕ) (home : ℕ) (reached : IsReached b levels nodes key page pages index home) where
  abbrev p_of : ℕ
  p_of = reached.place 1

  p_below : p_of < length (nodes 1)
  p_below = omega (arith, reached.found.below, length-heads (nodes 1))

  pub leaf : IsLeaf e k page (node_at (nodes 1) p_of).items
  leaf = subst (λ (x : List ℕ). IsLeaf e k x (node_at (nodes 1) p_of).items) (sym reached.bytes) ((tower.stored 1 p_of (omega arith) some_level p_below).leaf refl)

  listed : items_of (nodes 1) ≡ map (record_item k) records
  listed = tower.listed 0 some_level

  some : NoneEmpty (nodes 1)
  some = none_empty e k b records levels nodes tower 1 (omega arith) (omega arith)

  ascending : AreInKeyOrder (items_of (nodes 1))
  ascending = subst AreInKeyOrder (sym listed) tower.ascending

  -- the key of record j of the leaf
  leaf_key : (j : ℕ) → j < length (node_at (nodes 1) p_of).items → (item_at (node_at (nodes 1) p_of).items j).key ≡ take k (record_at e page j)
  leaf_key j below = ap (λ (x : Item). x.key) (leaf.lists j below)

  pub last_in_leaf : (c : ℕ) → 0 < c → c ≤ filled page → at_most (take k (record_at e page (c - 1))) key ≡ true → (c < filled page → at_most (take k (record_at e page c)) key ≡ false)
      → (i : ℕ) × IsLastAtMost k records key i × (record_at e page (c - 1) ≡ entry_at records i)
  last_in_leaf c pos most low next =
      let j_below : c - 1 < length (node_at (nodes 1) p_of).items = omega (arith, leaf.count) in
      let at_low : at_most (item_at (node_at (nodes 1) p_of).items (c - 1)).key key ≡ true = ap (λ (x : List ℕ). at_most x key) (leaf_key (c - 1) j_below) ∙ low in
      let same : c - 1 + 1 ≡ c = omega arith in
      let at_next = λ (more : c - 1 + 1 < length (node_at (nodes 1) p_of).items).
      ap (λ (m : ℕ). at_most (item_at (node_at (nodes 1) p_of).items m).key key) same
      ∙ ap (λ (x : List ℕ). at_most x key) (leaf_key c (omega (arith, more))) ∙ next (omega (arith, leaf.count, more)) in
      let place = step (nodes 1) some ascending key p_of (c - 1) reached.found j_below (λ (h : 0 < c - 1). at_low) at_next in
      let i = before (nodes 1) p_of + (c - 1) in
      let there : item_at (items_of (nodes 1)) i ≡ item_at (node_at (nodes 1) p_of).items (c - 1) = item_of_page (nodes 1) p_of (c - 1) p_below j_below in
      let size : length (items_of (nodes 1)) ≡ length records = ap length listed ∙ length-map records (record_item k) in
      let i_below : i < length records = omega (arith, place.below, size) in
      let item_is : item_at (items_of (nodes 1)) i ≡ record_item k (entry_at records i) = ap (λ (xs : List Item). item_at xs i) listed ∙ record_key k records i i_below in
      let i_low : at_most (take k (entry_at records i)) key ≡ true = ap (λ (x : Item). at_most x.key key) (sym item_is ∙ there) ∙ at_low in
      let last : IsLastAtMost k records key i = record {
        below = i_below;
        holds = i_low;
        above = λ j after below.
            ap (λ (x : Item). at_most x.key key) (sym (ap (λ (xs : List Item). item_at xs j) listed ∙ record_key k records j below)) ∙ place.above j after (omega (arith, size));
      } in
      let bytes : record_at e page (c - 1) ≡ entry_at records i = ap (λ (x : Item). x.bytes) (sym (leaf.lists (c - 1) j_below) ∙ sym there ∙ item_is) in
      (i, last, bytes)

  -- the first record of the leaf is above only in the first leaf
  pub first_leaf : at_most (take k (record_at e page 0)) key ≡ false → p_of ≡ 0
  first_leaf above = elim (cases_eq p_of 0) [
    | inl zero_p ↦ zero_p
    | inr some_p ↦
        let first : 0 < length (node_at (nodes 1) p_of).items = omega (arith, leaf.some) in
        let start : at_most (item_at (items_of (nodes 1)) (before (nodes 1) p_of)).key key ≡ false =
        ap (λ (m : ℕ). at_most (item_at (items_of (nodes 1)) m).key key) (sym (add-zero (before (nodes 1) p_of)))
        ∙ ap (λ (x : Item). at_most x.key key) (item_of_page (nodes 1) p_of 0 p_below first) ∙ ap (λ (x : List ℕ). at_most x key) (leaf_key 0 first) ∙ above in
        elim reached.found.holds [
          | inl holds ↦ absurd (false≢true (sym start ∙ ap (λ (x : List ℕ). at_most x key) (sym (head_key (nodes 1) p_of some (omega (arith, some_p)) p_below)) ∙ holds))
          | inr zero_p ↦ zero_p
        ]
  ]

  pub none_in_leaf : at_most (take k (record_at e page 0)) key ≡ false → NoneAtMost k records key
  none_in_leaf above j below =
      let first : 0 < length (node_at (nodes 1) p_of).items = omega (arith, leaf.some) in
      let start : at_most (item_at (items_of (nodes 1)) (before (nodes 1) p_of)).key key ≡ false =
      ap (λ (m : ℕ). at_most (item_at (items_of (nodes 1)) m).key key) (sym (add-zero (before (nodes 1) p_of)))
      ∙ ap (λ (x : Item). at_most x.key key) (item_of_page (nodes 1) p_of 0 p_below first) ∙ ap (λ (x : List ℕ). at_most x key) (leaf_key 0 first) ∙ above in
      let size : length (items_of (nodes 1)) ≡ length records = ap length listed ∙ length-map records (record_item k) in
      let all = λ (none : before (nodes 1) p_of ≡ 0).
      ap (λ (x : Item). at_most x.key key) (sym (ap (λ (xs : List Item). item_at xs j) listed ∙ record_key k records j below))
      ∙ above_from (items_of (nodes 1)) key (before (nodes 1) p_of) ascending start j (omega (arith, none)) (omega (arith, size)) in
      elim (cases_eq p_of 0) [
        | inl zero_p ↦ all (ap (before (nodes 1)) zero_p)
        | inr some_p ↦ elim reached.found.holds [
          | inl holds ↦ absurd (false≢true (sym start ∙ ap (λ (x : List ℕ). at_most x key) (sym (head_key (nodes 1) p_of some (omega (arith, some_p)) p_below)) ∙ holds))
          | inr zero_p ↦ absurd (some_p zero_p)
        ]
      ]

  -- where a record with this key goes
  pub after_in_leaf : (c : ℕ) → c ≤ filled page → (0 < c → at_most (take k (record_at e page (c - 1))) key ≡ true) → (c < filled page → at_most (take k (record_at e page c)) key ≡ false)
      → GoesTo k records key (before (nodes 1) p_of + c)
  after_in_leaf c most low next = elim (cases_eq c 0) [
    | inl none ↦
        let is : at_most (take k (record_at e page 0)) key ≡ false = ap (λ (m : ℕ). at_most (take k (record_at e page m)) key) (sym none) ∙ next (omega (arith, leaf.count, leaf.some, none)) in
        let zero_p = first_leaf is in
        let at : before (nodes 1) p_of + c ≡ 0 = let start : before (nodes 1) p_of ≡ 0 = ap (before (nodes 1)) zero_p in omega (arith, start, none) in
        record {
          within = omega (arith, at);
          after = record { below = λ j less. absurd (omega (arith, at, less)); above = λ j from below. none_in_leaf is j below };
        }
    | inr pos ↦
        let j_below : c - 1 < length (node_at (nodes 1) p_of).items = omega (arith, leaf.count, pos) in
        let at_low : at_most (item_at (node_at (nodes 1) p_of).items (c - 1)).key key ≡ true = ap (λ (x : List ℕ). at_most x key) (leaf_key (c - 1) j_below) ∙ low (omega (arith, pos)) in
        let same : c - 1 + 1 ≡ c = omega (arith, pos) in
        let at_next = λ (more : c - 1 + 1 < length (node_at (nodes 1) p_of).items).
        ap (λ (m : ℕ). at_most (item_at (node_at (nodes 1) p_of).items m).key key) same
        ∙ ap (λ (x : List ℕ). at_most x key) (leaf_key c (omega (arith, more, pos))) ∙ next (omega (arith, leaf.count, more, pos)) in
        let place = step (nodes 1) some ascending key p_of (c - 1) reached.found j_below (λ (h : 0 < c - 1). at_low) at_next in
        let there : item_at (items_of (nodes 1)) (before (nodes 1) p_of + (c - 1)) ≡ item_at (node_at (nodes 1) p_of).items (c - 1) = item_of_page (nodes 1) p_of (c - 1) p_below j_below in
        let size : length (items_of (nodes 1)) ≡ length records = ap length listed ∙ length-map records (record_item k) in
        let last_low : at_most (item_at (items_of (nodes 1)) (before (nodes 1) p_of + (c - 1))).key key ≡ true = ap (λ (x : Item). at_most x.key key) there ∙ at_low in
        record {
          within = omega (arith, place.below, size, pos);
          after = record {
            below = λ j less.
                let j_inside : j < length records = omega (arith, place.below, size, less, pos) in
                ap (λ (x : Item). at_most x.key key) (sym (ap (λ (xs : List Item). item_at xs j) listed ∙ record_key k records j j_inside))
                ∙ at_most_through _ (item_at (items_of (nodes 1)) (before (nodes 1) p_of + (c - 1))).key key (ascending j (before (nodes 1) p_of + (c - 1)) (omega (arith, less, pos)) place.below) last_low;
            above = λ j from below.
                ap (λ (x : Item). at_most x.key key) (sym (ap (λ (xs : List Item). item_at xs j) listed ∙ record_key k records j below)) ∙ place.above j (omega (arith, from, pos)) (omega (arith, below, size));
          };
        }
  ]

-- the pages of the levels lie in the memory
pub within_shared : (levels : ℕ) (nodes : ℕ → List Node) (free : List ℕ) (top : ℕ) → IsShared levels nodes free top → (l p : ℕ) → 0 < l → l ≤ levels → p < length (nodes l)
    → (1 ≤ (node_at (nodes l) p).page) × ((node_at (nodes l) p).page ≤ top)
within_shared levels nodes free top shared l p some most below =
    let home = (node_at (nodes l) p).page in
    let used : 1 ≤ uses (node_at (nodes l) p).page nodes levels = omega (arith, times_some (node_at (nodes l) p).page (nodes l) p below refl, uses_level (node_at (nodes l) p).page nodes levels l some most) in (
      elim (cases_eq (node_at (nodes l) p).page 0) [
        | inl none ↦ absurd (omega (arith, used, shared.header, ap (λ (q : ℕ). uses q nodes levels) none))
        | inr other ↦ omega (arith, other)
      ],
      elim (cases_lt top (node_at (nodes l) p).page) [
        | inl past ↦ absurd (omega (arith, used, shared.past (node_at (nodes l) p).page past))
        | inr not ↦ not
      ],
    )

pub within_tree : (e k pages : ℕ) (b : List ℕ) (records : List (List ℕ)) (tree : IsTree e k pages b records) → (l p : ℕ) → 0 < l → l ≤ tree.levels → p < length (tree.nodes l)
    → (1 ≤ (node_at (tree.nodes l) p).page) × ((node_at (tree.nodes l) p).page ≤ tree.top)
within_tree e k pages b records tree = within_shared tree.levels tree.nodes tree.free tree.top tree.shared

-- a search begins at the root that the header names
pub rooted_at : (e k pages : ℕ) (b : List ℕ) (records : List (List ℕ)) (tree : IsTree e k pages b records) → 0 < tree.levels → IsRooted e k pages b records tree.levels (root_in (page_at b 0)) tree.nodes
rooted_at e k pages b records tree some = record {
  tower = tree.tower;
  one = tree.header.one_root some;
  root_is = tree.header.root_is some;
  within = λ l p some_l most below. let inside = within_tree e k pages b records tree l p some_l most below in (inside.0, omega (arith, inside.1, tree.header.top_below));
}

pub rooted : (e k pages : ℕ) (b : List ℕ) (records : List (List ℕ)) (tree : IsTree e k pages b records) (levels root : ℕ) → levels ≡ levels_in (page_at b 0) → root ≡ root_in (page_at b 0) → 0 < levels
    → IsRooted e k pages b records levels root tree.nodes
rooted e k pages b records tree levels root levels_is root_is some =
    let same : levels ≡ tree.levels = levels_is ∙ tree.header.levels_is in
    let some_here : 0 < tree.levels = omega arith in
    rw (same, root_is) (rooted_at e k pages b records tree some_here)

pub root_below : (e k pages : ℕ) (b : List ℕ) (records : List (List ℕ)) (tree : IsTree e k pages b records) (levels root : ℕ) → levels ≡ levels_in (page_at b 0) → root ≡ root_in (page_at b 0) → 0 < levels → root < pages
root_below e k pages b records tree levels root levels_is root_is some =
    let r = rooted e k pages b records tree levels root levels_is root_is some in
    let inside = r.within levels 0 some (omega arith) (omega (arith, r.one)) in
    omega (arith, inside.1, r.root_is)

pub no_records : (e k pages : ℕ) (b : List ℕ) (records : List (List ℕ)) (key : List ℕ) (tree : IsTree e k pages b records) (levels : ℕ) → levels ≡ levels_in (page_at b 0) → levels ≡ 0 → NoneAtMost k records key
no_records e k pages b records key tree levels is none =
    let empty : records ≡ [] = tree.tower.none (sym tree.header.levels_is ∙ sym is ∙ none) in
    λ j below. absurd (omega (arith, ap length empty))

-- what is found in the leaf is found in the list
pub found_in_leaf : (e k : ℕ) (b : List ℕ) (records : List (List ℕ)) (levels : ℕ) (nodes : ℕ → List Node) → IsTower e k b records levels nodes → 0 < levels → (key page into pages index : List ℕ) (home : ℕ)
    → IsReached b levels nodes key page pages index home → (found : Bool) → IsLastInPage e k page key into found → IsLastEntry k records key into found
found_in_leaf e k b records levels nodes tower some key page into pages index home reached true last =
    let there = last_in_leaf e k b records levels nodes tower some key page pages index home reached last.0 last.1 last.2 last.3 last.4 in
    (there.0, there.1, last.5 ∙ there.2)
found_in_leaf e k b records levels nodes tower some key page into pages index home reached false last = none_in_leaf e k b records levels nodes tower some key page pages index home reached last

-- a record that was found in the page of a leaf stands in it
pub stands_in : (e k : ℕ) (b page key into : List ℕ) (home : ℕ) (found : Bool) → found ≡ true → Meets k b 1 home → page ≡ page_at b home → kind_of page ≡ 1 → IsLastInPage e k page key into found → StandsIn e k b into home
stands_in e k b page key into home false is met read kind last = absurd (false≢true is)
stands_in e k b page key into home true is met read kind last = record {
  met = met;
  at = last.0 - 1;
  leaf = ap kind_of (sym read) ∙ kind;
  below = rw (← read) (omega (arith, last.1, last.2));
  is = last.5 ∙ ap (λ (x : List ℕ). record_at e x (last.0 - 1)) read;
}

pub place_at_down : (place : ℕ → ℕ) (m q : ℕ) → with_place place m q m ≡ q
place_at_down place m q = place_same place m q m refl

-- the first record above a key: in the leaf of the search, or the first of the leaf after it
module _ (e k : ℕ) (b : List ℕ) (records : List (List ℕ)) (levels : ℕ) (nodes : ℕ → List Node) (tower : IsTower e k b records levels nodes) (some_level : 0 < levels)
    (key page pages index : List ℕ) (home : ℕ) (reached : IsReached b levels nodes key page pages index home) where
  abbrev q_of : ℕ
  q_of = reached.place 1

  q_below : q_of < length (nodes 1)
  q_below = omega (arith, reached.found.below, length-heads (nodes 1))

  all_listed : items_of (nodes 1) ≡ map (record_item k) records
  all_listed = tower.listed 0 some_level

  all_length : length (items_of (nodes 1)) ≡ length records
  all_length = ap length all_listed ∙ length-map records (record_item k)

  -- record j of a leaf is one of the list
  record_in : (p j : ℕ) → p < length (nodes 1) → j < length (node_at (nodes 1) p).items → (bytes : List ℕ) → IsLeaf e k bytes (node_at (nodes 1) p).items → (before (nodes 1) p + j < length records) × (record_at e bytes j ≡ entry_at records (before (nodes 1) p + j))
  record_in p j p_below j_below bytes leaf_is =
      let inside : before (nodes 1) p + j < length records = omega (arith, page_fits (nodes 1) p p_below, j_below, all_length) in
      let there = item_of_page (nodes 1) p j p_below j_below in
      let item_is = ap (λ (xs : List Item). item_at xs (before (nodes 1) p + j)) all_listed ∙ record_key k records (before (nodes 1) p + j) inside in
      (inside, ap (λ (x : Item). x.bytes) (sym (leaf_is.lists j j_below) ∙ sym there ∙ item_is))

  pub next_here : (c : ℕ) → c < filled page → (0 < c → at_most (take k (record_at e page (c - 1))) key ≡ true) → at_most (take k (record_at e page c)) key ≡ false → IsNextEntry k records key (record_at e page c) true
  next_here c less low above =
      let there = leaf e k b records levels nodes tower some_level key page pages index home reached in
      let goes = after_in_leaf e k b records levels nodes tower some_level key page pages index home reached c (omega (arith, less)) low (λ more. above) in
      let found = record_in q_of c q_below (omega (arith, less, there.count)) page there in
      (before (nodes 1) q_of + c, found.0, goes.after, found.1)

  -- all records of the leaf are at most the key
  goes_past : (c : ℕ) → c ≡ filled page → at_most (take k (record_at e page (c - 1))) key ≡ true → GoesTo k records key (before (nodes 1) (q_of + 1))
  goes_past c all low =
      let there = leaf e k b records levels nodes tower some_level key page pages index home reached in
      let goes = after_in_leaf e k b records levels nodes tower some_level key page pages index home reached c (omega (arith, all)) (λ some. low) (λ more. absurd (omega (arith, more, all))) in
      let ends : before (nodes 1) q_of + c ≡ before (nodes 1) (q_of + 1) = omega (arith, before_more (nodes 1) q_of q_below, all, there.count) in
      subst (GoesTo k records key) ends goes

  pub next_there : (c : ℕ) → c ≡ filled page → at_most (take k (record_at e page (c - 1))) key ≡ true → (bytes : List ℕ) (at : ℕ) → q_of + 1 < length (nodes 1) → at ≡ (node_at (nodes 1) (q_of + 1)).page → bytes ≡ page_at b at → IsNextEntry k records key (record_at e bytes 0) true
  next_there c all low bytes at p_below at_is read =
      let leaf_is : IsLeaf e k bytes (node_at (nodes 1) (q_of + 1)).items = subst (λ (x : List ℕ). IsLeaf e k x (node_at (nodes 1) (q_of + 1)).items) (sym (read ∙ ap (page_at b) at_is)) ((tower.stored 1 (q_of + 1) (omega arith) some_level p_below).leaf refl) in
      let found = record_in (q_of + 1) 0 p_below (omega (arith, leaf_is.some)) bytes leaf_is in
      let zero_more : before (nodes 1) (q_of + 1) + 0 ≡ before (nodes 1) (q_of + 1) = add-zero (before (nodes 1) (q_of + 1)) in
      let goes = goes_past c all low in
      (before (nodes 1) (q_of + 1), omega (arith, found.0, zero_more), goes.after, found.1 ∙ ap (entry_at records) zero_more)

  pub none_there : (c : ℕ) → c ≡ filled page → at_most (take k (record_at e page (c - 1))) key ≡ true → q_of + 1 ≡ length (nodes 1) → (into : List ℕ) → IsNextEntry k records key into false
  none_there c all low last into j below = (goes_past c all low).after.below j (omega (arith, below, before_all (nodes 1) (q_of + 1) (omega (arith, last)), all_length))
