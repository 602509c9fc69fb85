-- No page breaks the form of a well-formed tree.
use Rattle.std.proofs.Common.{◌≡◌, ◌⊎◌, inl, inr, ℕ, zero, suc, ◌+◌, ◌-◌, ◌*◌, ◌/◌, ◌^◌, ◌<◌, ◌≤◌, List, [], ◌∷◌, length, get_or, arith, refl, sym, ◌∙◌, ap, subst}
use Rattle.std.proofs.lemmas.Bool.{cases_eq}
use Rattle.std.proofs.lemmas.List.{length-map}
use Rattle.std.proofs.lemmas.Nat.{mul-le}
use Rattle.page_tree.specs.Page.{IsWidths, page_at, kind_of, filled, leaf_room, key_room, link_at, record_item, next_in}
use Rattle.page_tree.specs.Tree.{node_at, items_of, before, uses, frees, pages_to, IsChain, IsTree}
use Rattle.page_tree.specs.Broken.{IsLeafForm, IsInnerForm, Meets, Frees, Breaks, StopsInsertion}
use Rattle.page_tree.proofs.MetLaws.{met_low}
use Rattle.page_tree.proofs.Once.{frees_cons, mark, apart_of_level}
use Rattle.page_tree.proofs.Changed.{used_once, free_apart}
use Rattle.page_tree.proofs.StepLaws.{free_within}
use Rattle.page_tree.proofs.Descent.{none_empty, within_tree}
use Rattle.page_tree.proofs.Levels.{page_fits}
use Rattle.page_tree.proofs.Neighbours.{leaf_room_least}
use Rattle.page_tree.proofs.LeavesLaws.{all_records, few_all}
use Rattle.page_tree.proofs.WalkLaws.{inner_is_form, leaf_is_form, child_below, child_link, listed_length}
use Rattle.page_tree.proofs.FormLaws.{tree_form}
use Rattle.page_tree.proofs.Room.{filled_sum, sixteen, wide, room_left}

-- a page of the list is counted, and one that stands there twice is counted twice
frees_some : (q : ℕ) (ps : List ℕ) (i : ℕ) → i < length ps → get_or ps i 0 ≡ q → 1 ≤ frees q ps
frees_some q [] i below same = absurd (omega (arith, below))
frees_some q (p ∷ ps) zero below same = omega (arith, frees_cons q p ps, mark p q same)
frees_some q (p ∷ ps) (suc i) below same = omega (arith, frees_cons q p ps, frees_some q ps i (omega (arith, below)) same)

frees_two : (q : ℕ) (ps : List ℕ) (i j : ℕ) → i < j → j < length ps → get_or ps i 0 ≡ q → get_or ps j 0 ≡ q → 2 ≤ frees q ps
frees_two q [] i j less below here there = absurd (omega (arith, below))
frees_two q (p ∷ ps) i zero less below here there = absurd (omega (arith, less))
frees_two q (p ∷ ps) zero (suc j) less below here there = omega (arith, frees_cons q p ps, mark p q here, frees_some q ps j (omega (arith, below)) there)
frees_two q (p ∷ ps) (suc i) (suc j) less below here there = omega (arith, frees_cons q p ps, frees_two q ps i j (omega (arith, less)) (omega (arith, below)) here there)

-- page p has place n in the list, or the list ends there
abbrev Listed : List ℕ → ℕ → ℕ → Type 0
Listed free n p = ((n < length free) × (p ≡ get_or free n 0)) ⊎ ((n ≡ length free) × (p ≡ 0))

chain_first : (b : List ℕ) (first : ℕ) (free : List ℕ) → IsChain b first free → Listed free 0 first
chain_first b first [] chain = inr (refl, chain)
chain_first b first (p ∷ ps) chain = inl (omega arith, chain.0)

chain_next : (b : List ℕ) (first : ℕ) (free : List ℕ) → IsChain b first free → (m : ℕ) → m < length free → (kind_of (page_at b (get_or free m 0)) ≡ 0) × Listed free (m + 1) (next_in (page_at b (get_or free m 0)))
chain_next b first [] chain m below = absurd (omega (arith, below))
chain_next b first (p ∷ []) chain zero below = (chain.1, inr (refl, chain.2))
chain_next b first (p ∷ q ∷ ps) chain zero below = (chain.1, inl (omega arith, chain.2.0))
chain_next b first (p ∷ ps) chain (suc m) below =
    let rest = chain_next b (next_in (page_at b p)) ps chain.2 m (omega (arith, below)) in
    let next : suc m + 1 ≡ suc (m + 1) = omega arith in (
      rest.0,
      elim rest.1 [
        | inl here ↦ inl (omega (arith, here.0), here.1 ∙ sym (ap (λ (i : ℕ). get_or (p ∷ ps) i 0) next))
        | inr end ↦ inr (omega (arith, end.0), end.1)
      ],
    )

module _ (e k pages : ℕ) (b : List ℕ) (xs : List (List ℕ)) (tree : IsTree e k pages b xs) (widths : IsWidths e k) (least : 9 ≤ pages) (few : pages ≤ 2 ^ 18) where
  -- page p is one of level l
  abbrev Stands : ℕ → ℕ → Type 0
  Stands l p = (l ≤ tree.levels) × (q : ℕ) × (q < length (tree.nodes l)) × (p ≡ (node_at (tree.nodes l) q).page)

  child_node : (m q i l p : ℕ) → Stands m q → m ≡ l + 1 → 1 ≤ l → i ≤ filled (page_at b q) → p ≡ link_at k (page_at b q) i → Stands l p
  child_node m q i l p up next low inside is =
      let under : l ≡ m - 1 = omega (arith, next) in
      let inner = (tree.tower.stored m up.1 (omega (arith, next)) up.0 up.2).inner (omega (arith, next, low)) in
      let i_below : i < length (node_at (tree.nodes m) up.1).items = omega (arith, inside, inner.count, ap (λ (x : ℕ). filled (page_at b x)) up.3) in
      let there = child_below e k b xs tree.levels tree.nodes tree.tower m up.1 i (omega (arith, next, low)) up.0 up.2 i_below in
      let link = child_link e k b xs tree.levels tree.nodes tree.tower m up.1 i (omega (arith, next, low)) up.0 up.2 i_below (page_at b q) (ap (page_at b) up.3) in (
        omega (arith, next, up.0),
        before (tree.nodes m) up.1 + i,
        omega (arith, there, ap (λ (n : ℕ). length (tree.nodes n)) under),
        is ∙ link ∙ ap (λ (n : ℕ). (node_at (tree.nodes n) (before (tree.nodes m) up.1 + i)).page) (sym under),
      )

  -- a page that is met is one of its level
  pub met_node : (l p : ℕ) → Meets k b l p → 1 ≤ l → Stands l p
  met_node l p (Meets.root _ _ is named low after fits) some =
      let same : l ≡ tree.levels = is ∙ tree.header.levels_is in
      let some_level : 0 < tree.levels = omega (arith, same, some) in (
        omega (arith, same),
        0,
        omega (arith, tree.header.one_root some_level, ap (λ (m : ℕ). length (tree.nodes m)) same),
        named ∙ tree.header.root_is some_level ∙ ap (λ (m : ℕ). (node_at (tree.nodes m) 0).page) (sym same),
      )
  met_node l p (Meets.child m q i _ _ met next low form inside is after fits) some = child_node m q i l p (met_node m q met (omega (arith, next))) next low inside is

  listed : (n p : ℕ) → Frees b n p → Listed tree.free n p
  listed n p (Frees.first _ _ start named fits) =
      subst (λ (i : ℕ). Listed tree.free i p) (sym start) (subst (Listed tree.free 0) (sym (named ∙ tree.header.free_is)) (chain_first b tree.first tree.free tree.chain))
  listed n p (Frees.next m q _ _ was next some kind named fits) = elim (listed m q was) [
    | inl here ↦
        let step = (chain_next b tree.first tree.free tree.chain m here.0).1 in
        subst (λ (i : ℕ). Listed tree.free i p) (sym next) (subst (Listed tree.free (m + 1)) (sym (named ∙ ap (λ (x : ℕ). next_in (page_at b x)) here.1)) step)
    | inr end ↦ absurd (omega (arith, end.1, some))
  ]

  -- a page of the list that is none of 0
  on_list : (n p : ℕ) → Frees b n p → 1 ≤ p → (n < length tree.free) × (p ≡ get_or tree.free n 0)
  on_list n p was some = elim (listed n p was) [
    | inl here ↦ here
    | inr end ↦ absurd (omega (arith, end.1, some))
  ]

  once : (q : ℕ) → uses q tree.nodes tree.levels + frees q tree.free ≤ 1
  once q = used_once tree.levels tree.nodes tree.free tree.top tree.shared q

  is_free : (n p : ℕ) → Frees b n p → 1 ≤ p → 1 ≤ frees p tree.free
  is_free n p was some = let here = on_list n p was some in frees_some p tree.free n here.0 (sym here.1)

  -- each level has a page
  some_nodes : 0 < tree.levels → (d l : ℕ) → l + d ≡ tree.levels → 0 < l → 1 ≤ length (tree.nodes l)
  some_nodes some zero l is low = let same : l ≡ tree.levels = omega (arith, is) in omega (arith, tree.header.one_root some, ap (λ (m : ℕ). length (tree.nodes m)) same)
  some_nodes some (suc d) l is low =
      let up = some_nodes some d (l + 1) (omega (arith, is)) (omega arith) in
      let items = none_empty e k b xs tree.levels tree.nodes tree.tower (l + 1) (omega arith) (omega (arith, is)) 0 (omega (arith, up)) in
      omega (arith, items, page_fits (tree.nodes (l + 1)) 0 (omega (arith, up)), listed_length e k b xs tree.levels tree.nodes tree.tower l low (omega (arith, is)))

  nodes_some : 0 < tree.levels → (l : ℕ) → 0 < l → l ≤ tree.levels → 1 ≤ length (tree.nodes l)
  nodes_some some l low most = some_nodes some (tree.levels - l) l (omega (arith, most)) low

  room : pages_to tree.nodes tree.levels + 7 ≤ pages
  room = elim (cases_eq tree.levels 0) [
    | inl none ↦ let is : pages_to tree.nodes 0 ≡ 0 = refl in omega (arith, ap (pages_to tree.nodes) none, is, least)
    | inr other ↦ room_left e k b xs tree.levels tree.nodes tree.tower widths (tree.header.one_root (omega (arith, other))) (nodes_some (omega (arith, other))) pages least (omega (arith, other)) tree.capacity
  ]

  -- a tree with a full page on level 6 would have more records than fit
  no_seventh : (p : ℕ) → Meets k b 6 p → filled (page_at b p) ≡ key_room k → ⊥
  no_seventh p met full =
      let here = met_node 6 p met (omega arith) in
      let six : tree.levels ≡ 6 = omega (arith, here.0, tree.header.levels_most) in
      let inner = (tree.tower.stored 6 here.1 (omega arith) here.0 here.2).inner (omega arith) in
      let five : length (items_of (tree.nodes 6)) ≡ length (tree.nodes 5) = listed_length e k b xs tree.levels tree.nodes tree.tower 5 (omega arith) (omega (arith, six)) in
      let five_most = page_fits (tree.nodes 6) here.1 here.2 in
      let s = sixteen e k b xs tree.levels tree.nodes tree.tower widths in
      let four = s 4 (omega arith) (omega (arith, six)) in
      let three = s 3 (omega arith) (omega (arith, six)) in
      let two = s 2 (omega arith) (omega (arith, six)) in
      let one = s 1 (omega arith) (omega (arith, six)) in
      let room_e = leaf_room_least e widths.entry_least widths.entry_most in
      let sum = filled_sum 7 (tree.nodes 1) (λ (q : ℕ) (below : q < length (tree.nodes 1)). omega (arith, room_e.0, (tree.tower.filled 1 q (omega arith) (omega (arith, six)) below).leaf refl)) in
      let listed_all : length (items_of (tree.nodes 1)) ≡ length xs = ap length (tree.tower.listed 0 (omega (arith, six))) ∙ length-map xs (record_item k) in
      let most : (leaf_room e / 2 - 1) * (pages - 8) ≤ 9 * 2 ^ 18 = mul-le (leaf_room e / 2 - 1) (pages - 8) 9 (2 ^ 18) (omega (arith, room_e.1)) (omega (arith, few)) in
      omega (arith, inner.count, ap (λ (x : ℕ). filled (page_at b x)) here.3, full, wide e k b xs tree.levels tree.nodes tree.tower widths, five, five_most, four, three, two, one, sum, listed_all, most, tree.capacity)

  -- each level has a page
  row_of_pages : (d l : ℕ) → l + d ≡ tree.levels → 0 < l → 1 ≤ length (tree.nodes l)
  row_of_pages zero l at some =
      let same : l ≡ tree.levels = omega (arith, at) in
      omega (arith, ap (λ (m : ℕ). length (tree.nodes m)) same, tree.header.one_root (omega (arith, same, some)))
  row_of_pages (suc d) l at some =
      let above = row_of_pages d (l + 1) (omega (arith, at)) (omega arith) in
      let sum = filled_sum 1 (tree.nodes (l + 1)) (none_empty e k b xs tree.levels tree.nodes tree.tower (l + 1) (omega arith) (omega (arith, at))) in
      omega (arith, above, sum, listed_length e k b xs tree.levels tree.nodes tree.tower l some (omega (arith, at)))

  unbroken : (page : ℕ) → Breaks e k pages b page → ⊥
  unbroken page (Breaks.header is unlike) = unlike (tree_form e k pages b xs tree)
  unbroken page (Breaks.level l met some unlike) =
      let here = met_node l page met some in
      let stored = tree.tower.stored l here.1 some here.0 here.2 in
      unlike (record {
        leaf = λ one. subst (λ (p : ℕ). IsLeafForm e (page_at b p)) (sym here.3) (leaf_is_form e k _ _ (stored.leaf one));
        inner = λ above. subst (λ (p : ℕ). IsInnerForm k (page_at b p)) (sym here.3) (inner_is_form k _ _ (stored.inner above));
      })
  unbroken page (Breaks.link l i met above form inside outside) =
      let here = child_node l page i (l - 1) (link_at k (page_at b page) i) (met_node l page met (omega (arith, above))) (omega (arith, above)) (omega (arith, above)) inside refl in
      let within = within_tree e k pages b xs tree (l - 1) here.1 (omega (arith, above)) here.0 here.2 in
      elim outside [
        | inl none ↦ omega (arith, none, here.3, within.0)
        | inr past ↦ omega (arith, past, here.3, within.1, tree.header.top_below)
      ]
  unbroken page (Breaks.twice l m low high less) =
      let there = met_node m page high (omega (arith, less)) in
      let some = met_low k b l page low in
      let here = met_node l page low some in
      apart_of_level page tree.nodes tree.levels l m here.1 there.1 (omega (arith, once page)) some less there.0 here.2 there.2 (sym here.3) (sym there.3)
  unbroken page (Breaks.free n was some either) =
      let here = on_list n page was some in
      let step = chain_next b tree.first tree.free tree.chain n here.0 in
      elim either [
        | inl other ↦ other (ap (λ (p : ℕ). kind_of (page_at b p)) here.1 ∙ step.0)
        | inr past ↦ elim step.1 [
          | inl next ↦
              let within = free_within tree.levels tree.nodes tree.free tree.top tree.shared (get_or tree.free (n + 1) 0) (frees_some (get_or tree.free (n + 1) 0) tree.free (n + 1) next.0 refl) in
              omega (arith, past, ap (λ (p : ℕ). next_in (page_at b p)) here.1, next.1, within.1, tree.header.top_below)
          | inr end ↦ omega (arith, past, ap (λ (p : ℕ). next_in (page_at b p)) here.1, end.1, least)
        ]
      ]
  unbroken page (Breaks.used n l was some met) =
      let low = met_low k b l page met in
      let here = met_node l page met low in
      free_apart tree.levels tree.nodes tree.free page (once page) (is_free n page was some) l here.1 low here.0 here.2 (sym here.3)
  unbroken page (Breaks.again n m one two some less) =
      let here = on_list n page one some in
      let there = on_list m page two some in
      omega (arith, once page, frees_two page tree.free n m less there.0 (sym here.1) (sym there.1))
  unbroken page (Breaks.above either past) =
      let above : tree.top < page = omega (arith, past, tree.header.top_is) in
      elim either [
        | inl met ↦
            let low = met_low k b met.0 page met.1 in
            let here = met_node met.0 page met.1 low in
            omega (arith, above, here.3, (within_tree e k pages b xs tree met.0 here.1 low here.0 here.2).1)
        | inr was ↦ omega (arith, above, (free_within tree.levels tree.nodes tree.free tree.top tree.shared page (is_free was.0 page was.1 (omega (arith, above)))).1)
      ]
  unbroken page (Breaks.underfull l met some below underfull) =
      let here = met_node l page met some in
      let enough = tree.tower.filled l here.1 some (omega (arith, below, tree.header.levels_is)) here.2 in
      let stored = tree.tower.stored l here.1 some here.0 here.2 in
      elim (cases_eq l 1) [
        | inl one ↦
            let fills : filled (page_at b page) ≡ length (node_at (tree.nodes l) here.1).items = ap (λ (p : ℕ). filled (page_at b p)) here.3 ∙ (stored.leaf one).count in
            omega (arith, fills, underfull.leaf one, enough.leaf one)
        | inr more ↦
            let fills : filled (page_at b page) + 1 ≡ length (node_at (tree.nodes l) here.1).items = ap (λ (p : ℕ). filled (page_at b p) + 1) here.3 ∙ (stored.inner (omega (arith, some, more))).count in
            omega (arith, fills, underfull.inner more, enough.inner (omega (arith, some, more)))
      ]
  unbroken page (Breaks.uncounted is some none) =
      let level : 0 < tree.levels = omega (arith, some, tree.header.levels_is) in
      let one = row_of_pages (tree.levels - 1) 1 (omega (arith, level)) (omega arith) in
      let sum = filled_sum 1 (tree.nodes 1) (none_empty e k b xs tree.levels tree.nodes tree.tower 1 (omega arith) (omega (arith, level))) in
      let listed_all : length (items_of (tree.nodes 1)) ≡ length xs = ap length (tree.tower.listed 0 level) ∙ length-map xs (record_item k) in
      omega (arith, none, tree.header.count_is, listed_all, sum, one)
  unbroken page (Breaks.few is less) = omega (arith, less, all_records e k pages b xs tree, tree.header.count_is)
  unbroken page (Breaks.crowded is many) = omega (arith, many, few_all e k pages b xs tree least)

  pub unstopped : (page : ℕ) → StopsInsertion e k pages b page → ⊥
  unstopped page (StopsInsertion.broken broken) = unbroken page broken
  unstopped page (StopsInsertion.none_left n is was short) = elim (listed n 0 was) [
    | inl here ↦ omega (arith, (free_within tree.levels tree.nodes tree.free tree.top tree.shared 0 (frees_some 0 tree.free n here.0 (sym here.1))).0)
    | inr end ↦ omega (arith, short, end.0, tree.header.top_is, tree.shared.counted, room)
  ]
  unstopped page (StopsInsertion.seventh met full) = no_seventh page met full
