-- The first record of a leaf is another: its key goes up to the page that has it.
use Rattle.std.proofs.Common.{◌≡◌, ◌≢◌, inl, inr, ℕ, zero, suc, ◌+◌, ◌-◌, ◌*◌, ◌<◌, ◌≤◌, ◌⊎◌, List, [], ◌∷◌, length, take, get_or, arith, refl, sym, ◌∙◌, ap, subst}
use Rattle.std.proofs.lemmas.Bool.{cases_lt, cases_eq}
use Rattle.flat_mem.specs.Memory.{overwritten}
use Rattle.page_tree.specs.Keys.{Item, item_at}
use Rattle.page_tree.specs.Page.{page_at, link_at, IsInner, IsPageOf, IsEnough}
use Rattle.page_tree.specs.Tree.{Node, node_at, items_of, before, head_of}
use Rattle.page_tree.specs.Change.{splice, with_level}
use Rattle.page_tree.specs.Due.{swapped}
use Rattle.page_tree.specs.Path.{IsPath}
use Rattle.page_tree.specs.Climb.{child_item}
use Rattle.page_tree.specs.Named.{IsNaming, IsKept}
use Rattle.page_tree.proofs.Once.{level_same, level_other, page_same, page_other}
use Rattle.page_tree.proofs.Changed.{length-splice}
use Rattle.page_tree.proofs.Descent.{within_shared, rows_above}
use Rattle.page_tree.proofs.Levels.{heads_first}
use Rattle.page_tree.proofs.Swapped.{swapped_one}
use Rattle.page_tree.proofs.InnerNamed.{spliced_other, inner_first, inner_named, length-inner_named}
use Rattle.page_tree.proofs.Neighbours.{page_of_inner}
use Rattle.page_tree.proofs.Rebalance.{rebalance_rename, rebalance_put}

-- one node for another of the same page and as many items
splice_node : (ns : List Node) (p i : ℕ) (n : Node) → p < length ns → (node_at (splice ns p (n ∷ [])) i ≡ node_at ns i) ⊎ ((i ≡ p) × (node_at (splice ns p (n ∷ [])) i ≡ n))
splice_node [] p i n below = absurd (omega (arith, below))
splice_node (m ∷ ns) zero zero n below = inr (refl, refl)
splice_node (m ∷ ns) zero (suc i) n below = inl refl
splice_node (m ∷ ns) (suc p) zero n below = inl refl
splice_node (m ∷ ns) (suc p) (suc i) n below = elim (splice_node ns p i n (omega (arith, below))) [
  | inl same ↦ inl same
  | inr here ↦ inr (ap suc here.0, here.1)
]

before_splice : (ns : List Node) (p : ℕ) (mid : List Node) → p < length ns → before (splice ns p mid) p ≡ before ns p
before_splice ns p mid below = ap (λ (xs : List Node). length (items_of xs)) (take_splice ns p mid below)
  where
    take_splice : (xs : List Node) (i : ℕ) (ys : List Node) → i < length xs → take i (splice xs i ys) ≡ take i xs
    take_splice [] i ys less = absurd (omega (arith, less))
    take_splice (x ∷ xs) zero ys less = refl
    take_splice (x ∷ xs) (suc i) ys less = ap (λ (zs : List Node). x ∷ zs) (take_splice xs i ys (omega (arith, less)))

-- the whole path stays where one of its pages lists as many items as before
module _ (nodes : ℕ → List Node) (levels at : ℕ) (paths index : List ℕ) (home : ℕ) (place : ℕ → ℕ) (path : IsPath nodes levels 1 paths index home place) (some : 1 ≤ at) (most : at ≤ levels) (n : Node)
    (same : n.page ≡ (node_at (nodes at) (place at)).page) (long : length n.items ≡ length (node_at (nodes at) (place at)).items) where
  abbrev now : ℕ → List Node
  now = with_level nodes at (splice (nodes at) (place at) (n ∷ []))

  in_level : place at < length (nodes at)
  in_level = path.inside at some most

  at_level : (m : ℕ) → m ≡ at → now m ≡ splice (nodes at) (place at) (n ∷ [])
  at_level m is = level_same nodes at (splice (nodes at) (place at) (n ∷ [])) m is

  off_level : (m : ℕ) → m ≢ at → now m ≡ nodes m
  off_level m other = level_other nodes at (splice (nodes at) (place at) (n ∷ [])) m other

  node_here : node_at (splice (nodes at) (place at) (n ∷ [])) (place at) ≡ n
  node_here = elim (splice_node (nodes at) (place at) (place at) n in_level) [
    | inl kept ↦ here_is (nodes at) (place at) in_level
    | inr here ↦ here.1
  ]
    where
      here_is : (xs : List Node) (p : ℕ) → p < length xs → node_at (splice xs p (n ∷ [])) p ≡ n
      here_is [] p less = absurd (omega (arith, less))
      here_is (x ∷ xs) zero less = refl
      here_is (x ∷ xs) (suc p) less = here_is xs p (omega (arith, less))

  long_now : (m : ℕ) → length (now m) ≡ length (nodes m)
  long_now m = elim (cases_eq m at) [
    | inl is ↦ omega (arith, ap length (at_level m is), length-splice (nodes at) (place at) (n ∷ []) in_level, ap (λ (i : ℕ). length (nodes i)) is)
    | inr other ↦ ap length (off_level m other)
  ]

  page_now : (m : ℕ) → (node_at (now m) (place m)).page ≡ (node_at (nodes m) (place m)).page
  page_now m = elim (cases_eq m at) [
    | inl is ↦ ap (λ (xs : List Node). (node_at xs (place m)).page) (at_level m is) ∙ ap (λ (i : ℕ). (node_at (splice (nodes at) (place at) (n ∷ [])) (place i)).page) is ∙ ap (λ (x : Node). x.page) node_here ∙ same ∙ sym (ap (λ (i : ℕ). (node_at (nodes i) (place i)).page) is)
    | inr other ↦ ap (λ (xs : List Node). (node_at xs (place m)).page) (off_level m other)
  ]

  items_now : (m : ℕ) → length (node_at (now m) (place m)).items ≡ length (node_at (nodes m) (place m)).items
  items_now m = elim (cases_eq m at) [
    | inl is ↦ ap (λ (xs : List Node). length (node_at xs (place m)).items) (at_level m is) ∙ ap (λ (i : ℕ). length (node_at (splice (nodes at) (place at) (n ∷ [])) (place i)).items) is ∙ ap (λ (x : Node). length x.items) node_here ∙ long ∙ sym (ap (λ (i : ℕ). length (node_at (nodes i) (place i)).items) is)
    | inr other ↦ ap (λ (xs : List Node). length (node_at xs (place m)).items) (off_level m other)
  ]

  pub before_now : (m : ℕ) → before (with_level nodes at (splice (nodes at) (place at) (n ∷ [])) m) (place m) ≡ before (nodes m) (place m)
  before_now m = elim (cases_eq m at) [
    | inl is ↦ ap (λ (xs : List Node). before xs (place m)) (at_level m is) ∙ ap (λ (i : ℕ). before (splice (nodes at) (place at) (n ∷ [])) (place i)) is ∙ before_splice (nodes at) (place at) (n ∷ []) in_level ∙ sym (ap (λ (i : ℕ). before (nodes i) (place i)) is)
    | inr other ↦ ap (λ (xs : List Node). before xs (place m)) (off_level m other)
  ]

  pub path_whole : IsPath (with_level nodes at (splice (nodes at) (place at) (n ∷ []))) levels 1 paths index home place
  path_whole = record {
    top = path.top;
    inside = λ m from m_most. omega (arith, path.inside m from m_most, long_now m);
    page = λ m from m_most. path.page m from m_most ∙ sym (page_now m);
    chosen = λ m from m_most. omega (arith, path.chosen m from m_most, items_now m);
    below = λ m i next_m from m_most. omega (arith, path.below m i next_m from m_most, before_now m);
    here = path.here ∙ sym (page_now 1);
  }

pub first_swapped : (xs : List Item) (p : ℕ) (its : List Item) (x : Item) → p ≡ 0 → its ≡ x ∷ [] → item_at (swapped xs p 1 its) 0 ≡ x
first_swapped xs zero its x none is = ap (λ (ys : List Item). item_at (swapped xs 0 1 ys) 0) is
first_swapped xs (suc p) its x none is = absurd (omega (arith, none))

module _ (e k pages : ℕ) (v : List ℕ) (records : List (List ℕ)) (levels l : ℕ) (paths index : List ℕ) (at : ℕ) (key : List ℕ) (child root first top pos : ℕ) (xs : List Item)
    (naming : IsNaming e k pages v records levels l paths index at key child root first top pos xs) (high : 2 ≤ l) (most : l ≤ levels) (some_key : 1 ≤ k) (key_most : k ≤ 12) (width : length key ≡ k)
    (page : List ℕ) (page_is : page ≡ page_at v (get_or paths l 0)) (chosen : get_or index l 0 < length (node_at (naming.rebalance.nodes l) (naming.rebalance.place l)).items)
    (linked : child ≡ link_at k page (get_or index l 0)) where
  abbrev items : List Item
  items = (node_at (naming.rebalance.nodes l) (naming.rebalance.place l)).items

  abbrev q : ℕ
  q = naming.rebalance.place l

  abbrev slot : ℕ
  slot = get_or index l 0

  q_in : q < length (naming.rebalance.nodes l)
  q_in = naming.rebalance.path.inside l (omega arith) most

  inner : IsInner k page items
  inner = subst (λ (x : List ℕ). IsInner k x items) (sym (page_is ∙ ap (page_at v) naming.rebalance.path.here)) ((naming.rebalance.opened.stored l q (omega (arith, high)) most q_in).inner (omega (arith, high)))

  child_here : child ≡ (item_at items slot).page
  child_here = linked ∙ sym (inner.links slot chosen)

  swapped_is : swapped items slot 1 naming.its ≡ splice items slot (child_item key child ∷ [])
  swapped_is = swapped_one items slot naming.its chosen ∙ ap (splice items slot) naming.its_is

  long_same : length (swapped items slot 1 naming.its) ≡ length items
  long_same = omega (arith, ap length swapped_is, length-splice items slot (child_item key child ∷ []) chosen)

  some_pos : naming.rebalance.pos ≢ 0
  some_pos none =
      let under : l - 1 < levels = omega (arith, high, most) in
      let next : l - 1 + 1 ≡ l = omega (arith, high) in
      let rows_are = naming.rebalance.due.due (l - 1) under next ∙ rows_above k records naming.rebalance.nodes (l - 1) (omega (arith, high)) in
      let key_none : key ≡ [] = sym (ap (λ (x : Item). x.key) (first_swapped (items_of (naming.rebalance.nodes (l - 1 + 1))) naming.rebalance.pos naming.its (child_item key child) none naming.its_is)) ∙ ap (λ (ys : List Item). (item_at ys 0).key) rows_are ∙ heads_first (naming.rebalance.nodes (l - 1)) in
      absurd (omega (arith, ap length key_none, width, some_key))

  enough : l < levels → IsEnough e k l (length items)
  enough under = naming.rebalance.opened.filled l q (omega (arith, high)) under q_in

  enough_same : l < levels → IsEnough e k l (length (swapped items slot 1 naming.its))
  enough_same under = subst (IsEnough e k l) (sym long_same) (enough under)

  -- the child is the first: nothing stands in this page
  module _ (none : get_or index l 0 ≡ 0) where
    some_q : 0 < q
    some_q = elim (cases_eq q 0) [
      | inl zero_q ↦ absurd (some_pos (omega (arith, naming.rebalance.pos_is, none, ap (before (naming.rebalance.nodes l)) zero_q)))
      | inr other ↦ omega (arith, other)
    ]

    pub naming_under : l < levels
    naming_under = elim (cases_lt l levels) [
      | inl less ↦ less
      | inr not ↦ let top_level : levels ≡ l = omega (arith, not, most) in absurd (omega (arith, some_q, sym (ap naming.rebalance.place top_level) ∙ naming.rebalance.path.top))
    ]

    pub naming_next : IsNaming e k pages v records levels (l + 1) paths index at key (get_or paths l 0) root first top pos xs
    naming_next = record {
      its = head_of n ∷ [];
      its_is = ap (λ (x : List ℕ). child_item x (get_or paths l 0) ∷ []) first_key;
      rebalance = rebalance_rename e k pages v records levels l paths index (get_or paths l 0) slot 1 naming.its root first top naming.rebalance (omega (arith, high)) most v (omega (arith, chosen)) (record { page = get_or paths l 0; items = swapped items slot 1 naming.its }) naming.rebalance.path.here refl
          (subst (λ (x : List ℕ). IsPageOf e k l x (swapped items slot 1 naming.its)) page_is (page_of_inner e k l page (swapped items slot 1 naming.its) (omega (arith, high)) (subst (IsInner k page) (sym swapped_is)
          (inner_first k page items (length items - 1) slot (child_item key child) inner (omega (arith, inner.count)) (omega (arith, chosen)) child_here none)))) enough_same (λ (n : ℕ) (some_n : 1 ≤ n) (other : n ≢ (node_at (naming.rebalance.nodes l) q).page). refl)
          (get_or index (l + 1) 0) naming_under some_q (naming.rebalance.path.below (l + 1) l refl (omega arith) (omega (arith, naming_under)));
      whole = path_whole naming.rebalance.nodes levels l paths index at naming.rebalance.place naming.whole (omega (arith, high)) most (record { page = get_or paths l 0; items = swapped items slot 1 naming.its }) naming.rebalance.path.here long_same;
      items = ap (λ (ns : List Node). (node_at ns (naming.rebalance.place 1)).items) (level_other naming.rebalance.nodes l (splice (naming.rebalance.nodes l) q (n ∷ [])) 1 (omega (arith, high))) ∙ naming.items;
      starts = ap (λ (ns : List Node). before ns (naming.rebalance.place 1)) (level_other naming.rebalance.nodes l (splice (naming.rebalance.nodes l) q (n ∷ [])) 1 (omega (arith, high))) ∙ naming.starts;
    }
      where
        n : Node
        n = record { page = get_or paths l 0; items = swapped items slot 1 naming.its }

        first_key : (item_at (swapped items slot 1 naming.its) 0).key ≡ key
        first_key = ap (λ (x : Item). x.key) (first_swapped items slot naming.its (child_item key child) none naming.its_is)

  -- the page has the key, and is written
  pub naming_done : 0 < get_or index l 0 → length page ≡ 512 → 512 * pages ≤ length v
      → IsKept e k pages (overwritten v (512 * get_or paths l 0) (overwritten page (8 + k * (get_or index l 0 - 1)) key)) records levels paths index at root first top pos xs
  naming_done after long size = record {
    closed = rebalance_put e k pages v records levels l paths index (get_or paths l 0) slot 1 naming.its root first top naming.rebalance (omega (arith, high)) most (overwritten v (512 * get_or paths l 0) new) (omega (arith, chosen)) (record { page = get_or paths l 0; items = swapped items slot 1 naming.its }) naming.rebalance.path.here refl
        (subst (λ (x : List ℕ). IsPageOf e k l x (swapped items slot 1 naming.its)) (sym (page_same v new (get_or paths l 0) long_new fits)) (page_of_inner e k l new (swapped items slot 1 naming.its) (omega (arith, high)) (subst (IsInner k new) (sym swapped_is) named_inner)))
        enough_same (λ (n : ℕ) (some_n : 1 ≤ n) (other : n ≢ (node_at (naming.rebalance.nodes l) q).page). page_other v new (get_or paths l 0) n long_new fits (λ (h : n ≡ get_or paths l 0). other (h ∙ naming.rebalance.path.here)))
        (naming.rebalance.path.here, inr (ap (λ (ys : List Item). (item_at ys 0).key) swapped_is ∙ ap (λ (x : Item). x.key) (spliced_other items slot 0 (child_item key child) chosen (omega (arith, after)))));
    place = naming.rebalance.place;
    whole = path_whole naming.rebalance.nodes levels l paths index at naming.rebalance.place naming.whole (omega (arith, high)) most (record { page = get_or paths l 0; items = swapped items slot 1 naming.its }) naming.rebalance.path.here long_same;
    items = ap (λ (ns : List Node). (node_at ns (naming.rebalance.place 1)).items) (level_other naming.rebalance.nodes l (splice (naming.rebalance.nodes l) q (record { page = get_or paths l 0; items = swapped items slot 1 naming.its } ∷ [])) 1 (omega (arith, high))) ∙ naming.items;
    starts = ap (λ (ns : List Node). before ns (naming.rebalance.place 1)) (level_other naming.rebalance.nodes l (splice (naming.rebalance.nodes l) q (record { page = get_or paths l 0; items = swapped items slot 1 naming.its } ∷ [])) 1 (omega (arith, high))) ∙ naming.starts;
  }
    where
      new : List ℕ
      new = overwritten page (8 + k * (slot - 1)) key

      slot_next : slot ≡ slot - 1 + 1
      slot_next = omega (arith, after)

      named_inner : IsInner k new (splice items slot (child_item key child ∷ []))
      named_inner = inner_named k page items (length items - 1) slot (child_item key child) inner (omega (arith, inner.count)) (omega (arith, chosen)) child_here some_key key_most long (slot - 1) slot_next width

      long_new : length new ≡ 512
      long_new = length-inner_named k page items (length items - 1) slot (child_item key child) inner (omega (arith, inner.count)) (omega (arith, chosen)) child_here some_key key_most long (slot - 1) slot_next width

      up_small : get_or paths l 0 < pages
      up_small =
          let within = within_shared levels naming.rebalance.nodes naming.rebalance.free top naming.rebalance.opened.shared l q (omega (arith, high)) most q_in in
          omega (arith, within.1, naming.rebalance.path.here, naming.rebalance.top_below)

      fits : 512 * get_or paths l 0 + 512 ≤ length v
      fits = omega (arith, up_small, size)
