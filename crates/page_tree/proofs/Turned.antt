-- The first record of a leaf that is not the first of all is another: the whole way up.
use Rattle.std.proofs.Common.{◌≡◌, ◌≢◌, ℕ, zero, suc, ◌+◌, ◌-◌, ◌*◌, ◌<◌, ◌≤◌, List, [], ◌∷◌, length, get_or, arith, refl, sym, ◌∙◌, ap, subst}
use Rattle.flat_mem.specs.Memory.{overwritten}
use Rattle.page_tree.specs.Keys.{Item, item_at}
use Rattle.page_tree.specs.Page.{page_at, filled, link_at, IsInner}
use Rattle.page_tree.specs.Tree.{Node, node_at, items_of, before, heads, uses}
use Rattle.page_tree.specs.Path.{IsPath}
use Rattle.page_tree.specs.Named.{IsTurn, IsNaming, IsKept}
use Rattle.page_tree.specs.SectorState.{IsSectorState}
use Rattle.page_tree.proofs.Changed.{used_once, apart}
use Rattle.page_tree.proofs.Descent.{rows_above}
use Rattle.page_tree.proofs.Splice.{length-before}
use Rattle.page_tree.proofs.Levels.{item_of_page, page_fits, length-heads, heads_page}
use Rattle.page_tree.proofs.Renamed.{naming_next, naming_done}

-- after a page that lists something, something stands
before_some : (ns : List Node) (p : ℕ) → 0 < p → p < length ns → 1 ≤ length (node_at ns 0).items → 0 < before ns p
before_some [] p some below first = absurd (omega (arith, below))
before_some (n ∷ ns) zero some below first = absurd (omega (arith, some))
before_some (n ∷ ns) (suc p) some below first = omega (arith, length-before n ns p, first)

-- the page of the path below level d + 2
abbrev pub lower : ℕ → List ℕ → ℕ → ℕ
lower at paths zero = at
lower at paths (suc d) = get_or paths (d + 2) 0

-- a page of a level above has as many children as its bytes say
naming_count : (e k pages : ℕ) (v : List ℕ) (records : List (List ℕ)) (levels l : ℕ) (paths index : List ℕ) (at : ℕ) (key : List ℕ) (child root first top pos : ℕ) (xs : List Item)
    (naming : IsNaming e k pages v records levels l paths index at key child root first top pos xs) → 2 ≤ l → l ≤ levels → (page : List ℕ) → page ≡ page_at v (get_or paths l 0) → filled page + 1 ≡ length (node_at (naming.rebalance.nodes l) (naming.rebalance.place l)).items
naming_count e k pages v records levels l paths index at key child root first top pos xs naming high most page page_is =
    let stored = (naming.rebalance.opened.stored l (naming.rebalance.place l) (omega (arith, high)) most (naming.rebalance.path.inside l (omega arith) most)).inner (omega (arith, high)) in
    ap (λ (x : List ℕ). filled x + 1) (page_is ∙ ap (page_at v) naming.rebalance.path.here) ∙ stored.count

module _ (e k pages : ℕ) (b : List ℕ) (records : List (List ℕ)) (levels root first top : ℕ) (here : IsSectorState e k pages b records levels root first top)
    (paths index : List ℕ) (at : ℕ) (place : ℕ → ℕ) (path : IsPath here.nodes levels 1 paths index at place) (v : List ℕ) (others : (q : ℕ) → 1 ≤ q → q ≢ at → page_at v q ≡ page_at b q) where
  in_level : (l : ℕ) → 1 ≤ l → l ≤ levels → place l < length (here.nodes l)
  in_level l some most = path.inside l some most

  once : (n : ℕ) → uses n here.nodes levels ≤ 1
  once n = omega (arith, used_once levels here.nodes here.free top here.shared n)

  pub up_some : (l : ℕ) → 2 ≤ l → l ≤ levels → (1 ≤ get_or paths l 0) × (get_or paths l 0 < pages)
  up_some l high most =
      let within = here.rooted.within l (place l) (omega (arith, high)) most (in_level l (omega (arith, high)) most) in
      (omega (arith, within.0, path.page l (omega (arith, high)) most), omega (arith, within.1, path.page l (omega (arith, high)) most))

  up_other : (l : ℕ) → 2 ≤ l → l ≤ levels → get_or paths l 0 ≢ at
  up_other l high most h =
      apart levels here.nodes once l (place l) 1 (place 1) (omega (arith, high)) most (omega arith) (omega (arith, high, most)) (in_level l (omega (arith, high)) most) (in_level 1 (omega arith) (omega (arith, high, most)))
      (λ (same : l ≡ 1). absurd (omega (arith, same, high))) (sym (path.page l (omega (arith, high)) most) ∙ h ∙ path.here)

  same_above : (l : ℕ) → 2 ≤ l → l ≤ levels → page_at v (get_or paths l 0) ≡ page_at b (get_or paths l 0)
  same_above l high most = others (get_or paths l 0) (up_some l high most).0 (up_other l high most)

  pub up_inner : (l : ℕ) → 2 ≤ l → l ≤ levels → IsInner k (page_at b (get_or paths l 0)) (node_at (here.nodes l) (place l)).items
  up_inner l high most =
      subst (λ (q : ℕ). IsInner k (page_at b q) (node_at (here.nodes l) (place l)).items) (sym (path.page l (omega (arith, high)) most))
      ((here.rooted.tower.stored l (place l) (omega (arith, high)) most (in_level l (omega (arith, high)) most)).inner (omega (arith, high)))

  -- the number of a child on the path stands in the page above
  link_is : (l m : ℕ) → l ≡ m + 1 → 1 ≤ m → l ≤ levels → (node_at (here.nodes m) (place m)).page ≡ link_at k (page_at b (get_or paths l 0)) (get_or index l 0)
  link_is l m next some most =
      let high : 2 ≤ l = omega (arith, next, some) in
      let inner = up_inner l high most in
      let chosen = path.chosen l (omega (arith, high)) most in
      let there = path.below l m next (omega (arith, high)) most in
      let listed : items_of (here.nodes l) ≡ heads (here.nodes m) = ap (λ (i : ℕ). items_of (here.nodes i)) next ∙ here.rooted.tower.listed m (omega (arith, next, most)) ∙ rows_above k records here.nodes m (omega (arith, some)) in
      let inside : before (here.nodes l) (place l) + get_or index l 0 < length (here.nodes m) = omega (arith, chosen, page_fits (here.nodes l) (place l) (in_level l (omega (arith, high)) most), ap length listed, length-heads (here.nodes m)) in
      ap (λ (i : ℕ). (node_at (here.nodes m) i).page) there
      ∙ sym (heads_page (here.nodes m) (before (here.nodes l) (place l) + get_or index l 0) inside)
      ∙ sym (ap (λ (xs : List Item). (item_at xs (before (here.nodes l) (place l) + get_or index l 0)).page) listed)
      ∙ ap (λ (x : Item). x.page) (item_of_page (here.nodes l) (place l) (get_or index l 0) (in_level l (omega (arith, high)) most) chosen)
      ∙ inner.links (get_or index l 0) chosen

  lower_link : (d : ℕ) → d + 2 ≤ levels → lower at paths d ≡ link_at k (page_at b (get_or paths (d + 2) 0)) (get_or index (d + 2) 0)
  lower_link zero most = path.here ∙ link_is (0 + 2) 1 (omega arith) (omega arith) most
  lower_link (suc d) most = path.page (d + 2) (omega arith) (omega (arith, most)) ∙ link_is (suc d + 2) (d + 2) (omega arith) (omega arith) most

  -- up to a level, where no page turns aside
  naming_to : (key : List ℕ) (records' : List (List ℕ)) (pos : ℕ) (xs : List Item) → 1 ≤ k → k ≤ 12 → length key ≡ k → IsNaming e k pages v records' levels 2 paths index at key at root first top pos xs
      → (d : ℕ) → d + 2 ≤ levels → ((m : ℕ) → 2 ≤ m → m < d + 2 → get_or index m 0 ≡ 0) → IsNaming e k pages v records' levels (d + 2) paths index at key (lower at paths d) root first top pos xs
  naming_to key records' pos xs some_key key_most width start zero most straight = start
  naming_to key records' pos xs some_key key_most width start (suc d) most straight =
      let down : d + 2 ≤ levels = omega (arith, most) in
      let naming = naming_to key records' pos xs some_key key_most width start d down (λ (m : ℕ) (from : 2 ≤ m) (less : m < d + 2). straight m from (omega (arith, less))) in
      let page_is = sym (same_above (d + 2) (omega arith) down) in
      let count = naming_count e k pages v records' levels (d + 2) paths index at key (lower at paths d) root first top pos xs naming (omega arith) down (page_at b (get_or paths (d + 2) 0)) page_is in
      let next : d + 2 + 1 ≡ suc d + 2 = omega arith in
      subst (λ (m : ℕ). IsNaming e k pages v records' levels m paths index at key (get_or paths (d + 2) 0) root first top pos xs) next
      (naming_next e k pages v records' levels (d + 2) paths index at key (lower at paths d) root first top pos xs naming (omega arith) down some_key key_most width (page_at b (get_or paths (d + 2) 0)) page_is
      (omega (arith, count, path.chosen (d + 2) (omega arith) down, (up_inner (d + 2) (omega arith) down).count)) (lower_link d down) (straight (d + 2) (omega arith) (omega arith)))

  -- the page that has the key is written
  pub naming_all : (key : List ℕ) (records' : List (List ℕ)) (pos : ℕ) (xs : List Item) → 1 ≤ k → k ≤ 12 → length key ≡ k → IsNaming e k pages v records' levels 2 paths index at key at root first top pos xs
      → (d : ℕ) → IsTurn index levels (d + 2) → (page : List ℕ) → page ≡ page_at b (get_or paths (d + 2) 0) → length page ≡ 512 → 512 * pages ≤ length v
      → IsKept e k pages (overwritten v (512 * get_or paths (d + 2) 0) (overwritten page (8 + k * (get_or index (d + 2) 0 - 1)) key)) records' levels paths index at root first top pos xs
  naming_all key records' pos xs some_key key_most width start d turn page page_is long size =
      let naming = naming_to key records' pos xs some_key key_most width start d turn.most turn.straight in
      let page_in = page_is ∙ sym (same_above (d + 2) (omega arith) turn.most) in
      let count = naming_count e k pages v records' levels (d + 2) paths index at key (lower at paths d) root first top pos xs naming (omega arith) turn.most page page_in in
      naming_done e k pages v records' levels (d + 2) paths index at key (lower at paths d) root first top pos xs naming (omega arith) turn.most some_key key_most width page page_in
      (omega (arith, count, path.chosen (d + 2) (omega arith) turn.most, (up_inner (d + 2) (omega arith) turn.most).count, ap filled page_is)) (lower_link d turn.most ∙ ap (λ (x : List ℕ). link_at k x (get_or index (d + 2) 0)) (sym page_is)) turn.turns long size

  some_items : (l : ℕ) → 2 ≤ l → l ≤ levels → 1 ≤ length (node_at (here.nodes l) 0).items
  some_items l high most =
      let inner = (here.rooted.tower.stored l 0 (omega (arith, high)) most (omega (arith, in_level l (omega (arith, high)) most))).inner (omega (arith, high)) in
      omega (arith, inner.some)

  -- where the path turns aside somewhere, its leaf is not the first
  turned_below : (d : ℕ) → d + 1 ≤ levels → ((m : ℕ) → 2 ≤ m → m ≤ d + 1 → get_or index m 0 ≡ 0) → 0 < place (d + 1) → 0 < place 1
  turned_below zero most straight some = some
  turned_below (suc d) most straight some =
      let there : place (d + 1) ≡ before (here.nodes (suc d + 1)) (place (suc d + 1)) + get_or index (suc d + 1) 0 = path.below (suc d + 1) (d + 1) (omega arith) (omega arith) most in
      turned_below d (omega (arith, most)) (λ (m : ℕ) (from : 2 ≤ m) (less : m ≤ d + 1). straight m from (omega (arith, less)))
      (omega (arith, there, before_some (here.nodes (suc d + 1)) (place (suc d + 1)) some (in_level (suc d + 1) (omega arith) most) (some_items (suc d + 1) (omega arith) most)))

  pub turned_leaf : (d : ℕ) → IsTurn index levels (d + 2) → 0 < place 1
  turned_leaf d turn =
      let there = path.below (d + 2) (d + 1) (omega arith) (omega arith) turn.most in
      turned_below d (omega (arith, turn.most)) (λ (m : ℕ) (from : 2 ≤ m) (less : m ≤ d + 1). turn.straight m from (omega (arith, less))) (omega (arith, there, turn.turns))

  -- where it does not, the leaf is the first
  pub straight_leaf : ((m : ℕ) → 2 ≤ m → m ≤ levels → get_or index m 0 ≡ 0) → (d l : ℕ) → l + d ≡ levels → 1 ≤ l → place l ≡ 0
  straight_leaf straight zero l is some = let top_level : l ≡ levels = omega (arith, is) in ap place top_level ∙ path.top
  straight_leaf straight (suc d) l is some =
      let above = straight_leaf straight d (l + 1) (omega (arith, is)) (omega arith) in
      let there = path.below (l + 1) l refl (omega (arith, some)) (omega (arith, is)) in
      omega (arith, there, straight (l + 1) (omega (arith, some)) (omega (arith, is)), ap (before (here.nodes (l + 1))) above)
