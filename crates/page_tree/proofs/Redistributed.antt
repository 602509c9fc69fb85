-- Two neighbours that were written, as the level above has to list them.
use Rattle.std.proofs.Common.{◌≡◌, ◌≢◌, inl, inr, ℕ, suc, ◌+◌, ◌-◌, ◌*◌, ◌<◌, ◌≤◌, ◌⊎◌, List, [], ◌∷◌, ◌++◌, length, take, drop, get_or, arith, sym, ◌∙◌, ap, subst, length-take, length-drop}
use Rattle.std.proofs.lemmas.Bool.{cases_eq}
use Rattle.std.proofs.lemmas.List.{get_or-take, take-append-drop}
use Rattle.flat_mem.specs.Memory.{overwritten}
use Rattle.flat_mem.specs.Parts.{length-overwritten}
use Rattle.page_tree.specs.Keys.{Item, no_item, item_at}
use Rattle.page_tree.specs.Page.{page_at, kind_of, next_in, IsPageOf, IsEnough}
use Rattle.page_tree.specs.Tree.{node_at}
use Rattle.page_tree.specs.Climb.{child_item, IsHalves}
use Rattle.page_tree.specs.Rebalance.{IsRebalance}
use Rattle.page_tree.specs.Underfull.{IsPair}
use Rattle.page_tree.proofs.Once.{page_same, page_other, apart_in_level}
use Rattle.page_tree.proofs.Changed.{used_once}
use Rattle.page_tree.proofs.Descent.{within_shared}
use Rattle.page_tree.proofs.Less.{joined_left}
use Rattle.page_tree.proofs.Rebalance.{rebalance_merge, rebalance_borrow}

pub page_some : (e k l : ℕ) (page : List ℕ) (xs : List Item) → 1 ≤ l → IsPageOf e k l page xs → 1 ≤ length xs
page_some e k l page xs some is = elim (cases_eq l 1) [
  | inl one ↦ (is.leaf one).some
  | inr other ↦ let inner = is.inner (omega (arith, other, some)) in omega (arith, inner.some)
]

module _ (e k pages : ℕ) (b : List ℕ) (records : List (List ℕ)) (levels level : ℕ) (paths index : List ℕ) (left_at right_at slot : ℕ) (left right key : List ℕ) (root first top : ℕ)
    (pair : IsPair e k pages b records levels level paths index left_at right_at slot left right key root first top) (some : 1 ≤ level) (size : 512 * pages ≤ length b) (new other : List ℕ) (long : length new ≡ 512) (long' : length other ≡ 512) where
  most : level ≤ levels
  most = omega (arith, pair.lower)

  second : suc pair.p < length (pair.rebalance.nodes level)
  second = omega (arith, pair.below)

  first_of : pair.p < length (pair.rebalance.nodes level)
  first_of = omega (arith, pair.below)

  left_in : (1 ≤ left_at) × (left_at < pages)
  left_in =
      let within = within_shared levels pair.rebalance.nodes pair.rebalance.free top pair.rebalance.opened.shared level pair.p some most first_of in
      (omega (arith, within.0, pair.left_is), omega (arith, within.1, pair.left_is, pair.rebalance.top_below))

  right_in : (1 ≤ right_at) × (right_at < pages)
  right_in =
      let within = within_shared levels pair.rebalance.nodes pair.rebalance.free top pair.rebalance.opened.shared level (suc pair.p) some most second in
      (omega (arith, within.0, pair.right_is), omega (arith, within.1, pair.right_is, pair.rebalance.top_below))

  pages_apart : left_at ≢ right_at
  pages_apart same =
      apart_in_level right_at pair.rebalance.nodes levels level pair.p (suc pair.p) (omega (arith, used_once levels pair.rebalance.nodes pair.rebalance.free top pair.rebalance.opened.shared right_at)) some most first_of second (omega arith)
      (sym pair.left_is ∙ same) (sym pair.right_is)

  abbrev half : List ℕ
  half = overwritten b (512 * left_at) new

  abbrev whole : List ℕ
  whole = overwritten half (512 * right_at) other

  left_fits : 512 * left_at + 512 ≤ length b
  left_fits = omega (arith, left_in.1, size)

  long_half : length half ≡ length b
  long_half = length-overwritten b new (512 * left_at) (omega (arith, long, left_fits))

  right_fits : 512 * right_at + 512 ≤ length half
  right_fits = omega (arith, right_in.1, size, long_half)

  at_left : page_at whole left_at ≡ new
  at_left = page_other half other right_at left_at long' right_fits pages_apart ∙ page_same b new left_at long left_fits

  at_right : page_at whole right_at ≡ other
  at_right = page_same half other right_at long' right_fits

  pub stays : (q : ℕ) → 1 ≤ q → q ≢ left_at → q ≢ right_at → page_at (overwritten (overwritten b (512 * left_at) new) (512 * right_at) other) q ≡ page_at b q
  stays q some_q one two = page_other half other right_at q long' right_fits two ∙ page_other b new left_at q long left_fits one

  stays_was : (q : ℕ) → 1 ≤ q → q ≢ (node_at (pair.rebalance.nodes level) pair.p).page → q ≢ (node_at (pair.rebalance.nodes level) (suc pair.p)).page → page_at whole q ≡ page_at pair.was q
  stays_was q some_q one two =
      let not_left : q ≢ left_at = λ h. one (h ∙ pair.left_is) in
      let not_right : q ≢ right_at = λ h. two (h ∙ pair.right_is) in
      stays q some_q not_left not_right ∙ pair.others q some_q not_left not_right

  some_xs : 1 ≤ length pair.xs
  some_xs = page_some e k level left pair.xs some pair.left_bytes

  keeps_head : (zs : List Item) → (item_at zs 0).key ≡ (item_at pair.xs 0).key → (pair.p ≡ 0) ⊎ ((item_at zs 0).key ≡ (item_at (node_at (pair.rebalance.nodes level) pair.p).items 0).key)
  keeps_head zs same = elim pair.keeps [
    | inl none ↦ inl none
    | inr key_same ↦ inr (same ∙ key_same)
  ]

  both_first : (item_at (pair.xs ++ pair.ys) 0).key ≡ (item_at pair.xs 0).key
  both_first = ap (λ (x : Item). x.key) (joined_left pair.xs pair.ys 0 (omega (arith, some_xs)))

  pub pair_joined : IsPageOf e k level new (pair.xs ++ pair.ys) × IsEnough e k level (length (pair.xs ++ pair.ys)) → kind_of other ≡ 0 → next_in other ≡ first
      → IsRebalance e k pages (overwritten (overwritten b (512 * left_at) new) (512 * right_at) other) records levels (level + 1) paths index (get_or paths (level + 1) 0) slot 1 [] root right_at top
  pair_joined joined kind next =
      subst (λ (q : ℕ). IsRebalance e k pages whole records levels (level + 1) paths index (get_or paths (level + 1) 0) slot 1 [] root q top) (sym pair.right_is)
      (rebalance_merge e k pages pair.was records levels level paths index pair.at pair.from pair.less pair.its root first top pair.rebalance some most whole pair.p pair.j slot pair.below pair.place pair.inside pair.lower pair.listed stays_was
      (record { page = left_at; items = pair.xs ++ pair.ys })
      (pair.left_is, keeps_head (pair.xs ++ pair.ys) both_first)
      pair.both
      (subst (λ (x : List ℕ). IsPageOf e k level x (pair.xs ++ pair.ys)) (sym at_left) joined.0)
      joined.1
      (ap (λ (q : ℕ). kind_of (page_at whole q)) (sym pair.right_is) ∙ ap kind_of at_right ∙ kind)
      (ap (λ (q : ℕ). next_in (page_at whole q)) (sym pair.right_is) ∙ ap next_in at_right ∙ next))

  enough_as : (n m : ℕ) → n ≡ m → IsEnough e k level n → IsEnough e k level m
  enough_as n m same = subst (IsEnough e k level) same

  pub pair_shifted : (key' : List ℕ) → IsHalves e k level (pair.xs ++ pair.ys) new other key'
      → IsRebalance e k pages (overwritten (overwritten b (512 * left_at) new) (512 * right_at) other) records levels (level + 1) paths index (get_or paths (level + 1) 0) slot 1 (child_item key' right_at ∷ []) root first top
  pair_shifted key' halves =
      subst (λ (x : List ℕ). IsRebalance e k pages whole records levels (level + 1) paths index (get_or paths (level + 1) 0) slot 1 (child_item x right_at ∷ []) root first top) (sym halves.key_is)
      (rebalance_borrow e k pages pair.was records levels level paths index pair.at pair.from pair.less pair.its root first top pair.rebalance some most whole pair.p pair.j slot pair.below pair.place pair.inside pair.lower pair.listed stays_was
      (record { page = left_at; items = take halves.m (pair.xs ++ pair.ys) })
      (record { page = right_at; items = drop halves.m (pair.xs ++ pair.ys) })
      (pair.left_is, keeps_head (take halves.m (pair.xs ++ pair.ys)) (ap (λ (x : Item). x.key) (get_or-take halves.m (pair.xs ++ pair.ys) 0 no_item halves.some) ∙ both_first))
      pair.right_is
      (take-append-drop halves.m (pair.xs ++ pair.ys) ∙ pair.both)
      (subst (λ (x : List ℕ). IsPageOf e k level x (take halves.m (pair.xs ++ pair.ys))) (sym at_left) halves.prefix)
      (subst (λ (x : List ℕ). IsPageOf e k level x (drop halves.m (pair.xs ++ pair.ys))) (sym at_right) halves.back)
      (enough_as halves.m (length (take halves.m (pair.xs ++ pair.ys))) (omega (arith, length-take halves.m (pair.xs ++ pair.ys), halves.more)) halves.prefix_enough)
      (enough_as (length (pair.xs ++ pair.ys) - halves.m) (length (drop halves.m (pair.xs ++ pair.ys))) (sym (length-drop halves.m (pair.xs ++ pair.ys))) halves.back_enough))
