-- One level of the tree against the next.
use Rattle.std.proofs.Common.{◌≡◌, inl, inr, ℕ, zero, suc, ◌+◌, ◌<◌, ◌≤◌, true, false, List, [], ◌∷◌, length, take, drop, arith, refl, sym, ◌∙◌, ap, add-zero, length-append}
use Rattle.std.proofs.lemmas.Bool.{cases_lt, cases_eq}
use Rattle.std.proofs.lemmas.List.{take_more, take_all, take-append-drop, length-map, get_or-map}
use Rattle.std.proofs.lemmas.List.Concat.{flat_map-append, get_or-flat_map}
use Rattle.page_tree.specs.Keys.{Item, no_item, item_at, at_most, AreInKeyOrder, IsPlace}
use Rattle.page_tree.specs.Tree.{Node, no_node, node_at, items_of, before, head_of, heads}
use Rattle.page_tree.proofs.Order.{above_from, nil_at_most}

abbrev pub NoneEmpty : List Node → Type 0
NoneEmpty ns = (q : ℕ) → q < length ns → 0 < length (node_at ns q).items

-- an item of page p in the level's list
pub item_of_page : (ns : List Node) (p j : ℕ) → p < length ns → j < length (node_at ns p).items → item_at (items_of ns) (before ns p + j) ≡ item_at (node_at ns p).items j
item_of_page ns p j below inside = get_or-flat_map (λ (n : Node). n.items) ns p j no_node no_item below inside

length-one : (n : Node) → length (items_of (n ∷ [])) ≡ length n.items
length-one n = length-append n.items [] ∙ add-zero (length n.items)

-- the items of the next page stand after those of this one
pub before_more : (ns : List Node) (p : ℕ) → p < length ns → before ns (p + 1) ≡ before ns p + length (node_at ns p).items
before_more ns p below =
    ap (λ (xs : List Node). length (items_of xs)) (take_more ns p no_node below)
    ∙ ap length (flat_map-append (λ (n : Node). n.items) (take p ns) (node_at ns p ∷ []))
    ∙ length-append (items_of (take p ns)) (items_of (node_at ns p ∷ []))
    ∙ ap (λ (k : ℕ). before ns p + k) (length-one (node_at ns p))

pub before_fits : (ns : List Node) (p : ℕ) → before ns p ≤ length (items_of ns)
before_fits ns p =
    let whole : length (items_of ns) ≡ before ns p + length (items_of (drop p ns)) =
    ap (λ (xs : List Node). length (items_of xs)) (sym (take-append-drop p ns))
    ∙ ap length (flat_map-append (λ (n : Node). n.items) (take p ns) (drop p ns))
    ∙ length-append (items_of (take p ns)) (items_of (drop p ns)) in
    omega (arith, whole)

pub before_all : (ns : List Node) (p : ℕ) → length ns ≤ p → before ns p ≡ length (items_of ns)
before_all ns p past = ap (λ (xs : List Node). length (items_of xs)) (take_all p ns past)

pub page_fits : (ns : List Node) (p : ℕ) → p < length ns → before ns p + length (node_at ns p).items ≤ length (items_of ns)
page_fits ns p below = omega (arith, before_more ns p below, before_fits ns (p + 1))

pub length-heads : (ns : List Node) → length (heads ns) ≡ length ns
length-heads [] = refl
length-heads (n ∷ ns) = ap suc (length-map ns head_of)

pub heads_page : (ns : List Node) (p : ℕ) → p < length ns → (item_at (heads ns) p).page ≡ (node_at ns p).page
heads_page [] p below = absurd (omega arith)
heads_page (n ∷ ns) zero below = refl
heads_page (n ∷ ns) (suc p) below = ap (λ (x : Item). x.page) (get_or-map head_of ns p no_node no_item (omega arith))

pub heads_first : (ns : List Node) → (item_at (heads ns) 0).key ≡ []
heads_first [] = refl
heads_first (n ∷ ns) = refl

pub heads_after : (ns : List Node) (p : ℕ) → 0 < p → p < length ns → (item_at (heads ns) p).key ≡ (item_at (node_at ns p).items 0).key
heads_after [] p some below = absurd (omega arith)
heads_after (n ∷ ns) zero some below = absurd (omega arith)
heads_after (n ∷ ns) (suc p) some below = ap (λ (x : Item). x.key) (get_or-map head_of ns p no_node no_item (omega arith))

-- the key of a page is that of its first item
pub head_key : (ns : List Node) (p : ℕ) → NoneEmpty ns → 0 < p → p < length ns → (item_at (heads ns) p).key ≡ (item_at (items_of ns) (before ns p)).key
head_key ns p some pos below =
    heads_after ns p pos below
    ∙ sym (ap (λ (i : ℕ). (item_at (items_of ns) i).key) (sym (add-zero (before ns p))) ∙ ap (λ (x : Item). x.key) (item_of_page ns p 0 below (some p below)))

module _ (ns : List Node) (some : NoneEmpty ns) (ascending : AreInKeyOrder (items_of ns)) where
  before_rises : (i j : ℕ) → i ≤ j → j ≤ length ns → before ns i ≤ before ns j
  before_rises i zero order inside = let same : i ≡ 0 = omega arith in rw same (omega arith)
  before_rises i (suc j) order inside = elim (cases_eq i (suc j)) [
    | inl same ↦ rw same (omega arith)
    | inr other ↦
        let next : suc j ≡ j + 1 = omega arith in
        let more : before ns (suc j) ≡ before ns j + length (node_at ns j).items = ap (before ns) next ∙ before_more ns j (omega arith) in
        omega (arith, before_rises i j (omega arith) (omega arith), more)
  ]

  pub heads_ascending : AreInKeyOrder (heads ns)
  heads_ascending i j order inside = elim (cases_eq i 0) [
    | inl first ↦ ap (λ (m : ℕ). at_most (item_at (heads ns) m).key (item_at (heads ns) j).key) first ∙ ap (λ (x : List ℕ). at_most x (item_at (heads ns) j).key) (heads_first ns) ∙ nil_at_most (item_at (heads ns) j).key
    | inr other ↦
        let below : j < length ns = omega (arith, length-heads ns) in
        let last : before ns j < length (items_of ns) = omega (arith, page_fits ns j below, some j below) in
        rw (head_key ns i some (omega (arith, other)) (omega arith), head_key ns j some (omega (arith, other)) below) (ascending (before ns i) (before ns j) (before_rises i j order (omega arith)) last)
  ]

  -- where page p is the last whose key is at most this one, its last such item is the last of all
  pub step : (key : List ℕ) (p j : ℕ) → IsPlace (heads ns) key p → j < length (node_at ns p).items
      → (0 < j → at_most (item_at (node_at ns p).items j).key key ≡ true)
      → (j + 1 < length (node_at ns p).items → at_most (item_at (node_at ns p).items (j + 1)).key key ≡ false)
      → IsPlace (items_of ns) key (before ns p + j)
  step key p j place inside low next = record {
    below = omega (arith, page_fits ns p below);
    holds = elim (cases_eq j 0) [
      | inr some_j ↦ inl (ap (λ (x : Item). at_most x.key key) (item_of_page ns p j below inside) ∙ low (omega (arith, some_j)))
      | inl first ↦ elim (cases_eq p 0) [
        | inl zero_p ↦ let none : before ns p ≡ 0 = ap (before ns) zero_p in inr (omega (arith, none, first))
        | inr some_p ↦ elim place.holds [
          | inl holds ↦ inl (ap (λ (i : ℕ). at_most (item_at (items_of ns) i).key key) (ap (λ (i : ℕ). before ns p + i) first ∙ add-zero (before ns p)) ∙ ap (λ (x : List ℕ). at_most x key) (sym (head_key ns p some (omega (arith, some_p)) below)) ∙ holds)
          | inr zero_p ↦ absurd (some_p zero_p)
        ]
      ]
    ];
    above = λ q after q_below. elim (cases_lt (j + 1) (length (node_at ns p).items)) [
      | inl more ↦
          above_from (items_of ns) key (before ns p + (j + 1)) ascending
          (ap (λ (x : Item). at_most x.key key) (item_of_page ns p (j + 1) below more) ∙ next more) q (omega arith) q_below
      | inr ends ↦
          let here : before ns (p + 1) ≤ q = omega (arith, before_more ns p below) in
          elim (cases_lt (p + 1) (length ns)) [
            | inl inner ↦
                above_from (items_of ns) key (before ns (p + 1)) ascending
                (ap (λ (x : List ℕ). at_most x key) (sym (head_key ns (p + 1) some (omega arith) inner)) ∙ place.above (p + 1) (omega arith) (omega (arith, length-heads ns))) q here q_below
            | inr last ↦ absurd (omega (arith, before_all ns (p + 1) last))
          ]
    ];
  }
    where
      below : p < length ns
      below = omega (arith, place.below, length-heads ns)
