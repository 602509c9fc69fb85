-- From one leaf to the next.
use Rattle.std.proofs.Common.{◌≡◌, ℕ, zero, suc, ◌+◌, ◌-◌, ◌*◌, ◌<◌, ◌≤◌, Bool, List, length, take, drop, get_or, arith, refl, sym, ◌∙◌, ap, subst, add-zero}
use Rattle.std.proofs.lemmas.List.{take-take}
use Rattle.flat_mem.specs.Memory.{part}
use Rattle.page_tree.specs.Keys.{Item, item_at, at_most}
use Rattle.page_tree.specs.Page.{page_at, kind_of, filled, link_at, record_at, IsLeaf, IsInner}
use Rattle.page_tree.specs.Tree.{Node, node_at, items_of, before, heads, IsTower, IsRooted}
use Rattle.page_tree.specs.Path.{IsPath, IsLed, first_leaf_below, leaf_under}
use Rattle.page_tree.specs.Broken.{IsInnerForm, IsLeafForm, Meets}
use Rattle.page_tree.specs.Met.{IsMetPath}
use Rattle.page_tree.specs.Answer.{IfMemNotFull, IfMemory, IfFull}
use Rattle.page_tree.specs.Reveals.{StandsIn}
use Rattle.page_tree.specs.declared.error.TreeError.{TreeError}
use Rattle.page_tree.specs.declared.error.TreeError.TheVariants.{Full, Malformed, Mem}
use Rattle.page_tree.proofs.Levels.{item_of_page, heads_page, length-heads, page_fits}
use Rattle.page_tree.proofs.Descent.{rows_above}
use Rattle.page_tree.proofs.Next.{next_leaf, last_leaf}

pub inner_is_form : (k : ℕ) (page : List ℕ) (xs : List Item) → IsInner k page xs → IsInnerForm k page
inner_is_form k page xs inner = record { kind = inner.kind; some = omega (arith, inner.count, inner.some); most = omega (arith, inner.count, inner.most) }

pub leaf_is_form : (e k : ℕ) (page : List ℕ) (xs : List Item) → IsLeaf e k page xs → IsLeafForm e page
leaf_is_form e k page xs leaf = record { kind = leaf.kind; some = omega (arith, leaf.count, leaf.some); most = omega (arith, leaf.count, leaf.most) }

-- the children of a page stand side by side in the level below
module _ (e k : ℕ) (b : List ℕ) (records : List (List ℕ)) (levels : ℕ) (nodes : ℕ → List Node) (tower : IsTower e k b records levels nodes) (l p c : ℕ) (above : 1 < l) (most : l ≤ levels) (p_below : p < length (nodes l))
    (c_below : c < length (node_at (nodes l) p).items) where
  pub inner_at : IsInner k (page_at b (node_at (nodes l) p).page) (node_at (nodes l) p).items
  inner_at = (tower.stored l p (omega arith) most p_below).inner above

  listed : items_of (nodes l) ≡ heads (nodes (l - 1))
  listed = let same : l ≡ (l - 1) + 1 = omega arith in
      ap (λ (m : ℕ). items_of (nodes m)) same ∙ tower.listed (l - 1) (omega arith) ∙ rows_above k records nodes (l - 1) (omega arith)

  pub child_below : before (nodes l) p + c < length (nodes (l - 1))
  child_below = omega (arith, page_fits (nodes l) p p_below, ap length listed, length-heads (nodes (l - 1)), c_below)

  pub child_link : (page : List ℕ) → page ≡ page_at b (node_at (nodes l) p).page → link_at k page c ≡ (node_at (nodes (l - 1)) (before (nodes l) p + c)).page
  child_link page is =
      ap (λ (x : List ℕ). link_at k x c) is
      ∙ sym (inner_at.links c c_below)
      ∙ ap (λ (x : Item). x.page) (sym (item_of_page (nodes l) p c p_below c_below))
      ∙ ap (λ (xs : List Item). (item_at xs (before (nodes l) p + c)).page) listed
      ∙ heads_page (nodes (l - 1)) (before (nodes l) p + c) child_below

-- each level has as many pages as the one above lists
pub listed_length : (e k : ℕ) (b : List ℕ) (records : List (List ℕ)) (levels : ℕ) (nodes : ℕ → List Node) → IsTower e k b records levels nodes → (l : ℕ) → 1 ≤ l → l < levels → length (items_of (nodes (l + 1))) ≡ length (nodes l)
listed_length e k b records levels nodes tower l some less = ap length (tower.listed l less ∙ rows_above k records nodes l (omega arith)) ∙ length-heads (nodes l)

-- a way down, one level further
pub leaf_step : (nodes : ℕ → List Node) (l m p c q : ℕ) → l ≡ m + 1 → 1 ≤ m → q ≡ before (nodes l) p + c → leaf_under nodes m q 0 ≡ leaf_under nodes l p c
leaf_step nodes l zero p c q next some is = absurd (omega (arith, some))
leaf_step nodes l (suc d) p c q next some is =
    let two : l ≡ suc (suc d) = omega (arith, next) in
    ap (λ (i : ℕ). leaf_under nodes (suc d) i 0) (is ∙ ap (λ (i : ℕ). before (nodes i) p + c) two) ∙ ap (λ (i : ℕ). leaf_under nodes i p c) (sym two)

pub leaf_end : (nodes : ℕ → List Node) (l p c : ℕ) → l ≡ 1 → leaf_under nodes l p c ≡ p
leaf_end nodes l p c one = ap (λ (i : ℕ). leaf_under nodes i p c) one

leaf_below : (nodes : ℕ → List Node) (d q : ℕ) → leaf_under nodes (suc d) q 0 ≡ first_leaf_below nodes d q
leaf_below nodes zero q = refl
leaf_below nodes (suc d) q =
    let plus : suc (suc d) ≡ suc d + 1 = omega arith in
    ap (λ (i : ℕ). leaf_under nodes (suc d) i 0) (add-zero (before (nodes (suc (suc d))) q))
    ∙ leaf_below nodes d (before (nodes (suc (suc d))) q)
    ∙ ap (λ (i : ℕ). first_leaf_below nodes d (before (nodes i) q)) plus

-- the path as far as a level above
pub path_cut : (nodes : ℕ → List Node) (levels m n : ℕ) (paths index : List ℕ) (home : ℕ) (place : ℕ → ℕ) → IsPath nodes levels m paths index home place → m < n → n ≤ levels → IsPath nodes levels n paths index (get_or paths n 0) place
path_cut nodes levels m n paths index home place path above most = record {
  top = path.top;
  inside = λ l from l_most. path.inside l (omega (arith, from, above)) l_most;
  page = λ l from l_most. path.page l (omega (arith, from, above)) l_most;
  chosen = λ l from l_most. path.chosen l (omega (arith, from, above)) l_most;
  below = λ l i is from l_most. path.below l i is (omega (arith, from, above)) l_most;
  here = path.page n above most;
}

-- where the path chose last children below a level, the next child there leads to the leaf after
pub leads_after : (nodes : ℕ → List Node) (levels : ℕ) (paths index : List ℕ) (at : ℕ) (home : ℕ → ℕ) → IsPath nodes levels 1 paths index at home → (level : ℕ) → 2 ≤ level → level ≤ levels
    → ((n : ℕ) → 1 < n → n < level → get_or index n 0 + 1 ≡ length (node_at (nodes n) (home n)).items) → leaf_under nodes level (home level) (get_or index level 0 + 1) ≡ home 1 + 1
leads_after nodes levels paths index at home path zero some most last = absurd (omega (arith, some))
leads_after nodes levels paths index at home path (suc zero) some most last = absurd (omega (arith, some))
leads_after nodes levels paths index at home path (suc (suc d)) some most last =
    let below = path.below (suc (suc d)) (d + 1) (omega arith) (omega arith) most in
    let child : before (nodes (suc (suc d))) (home (suc (suc d))) + (get_or index (suc (suc d)) 0 + 1) ≡ home (d + 1) + 1 = omega (arith, below) in
    leaf_below nodes d (before (nodes (suc (suc d))) (home (suc (suc d))) + (get_or index (suc (suc d)) 0 + 1))
    ∙ ap (first_leaf_below nodes d) child
    ∙ sym (next_leaf nodes levels paths index at home path d (omega (arith, most)) (λ (n : ℕ) (more : 1 < n) (le : n ≤ d + 1). last n more (omega (arith, le))))

-- and where it chose them everywhere, there is no leaf after
pub none_after : (e k pages : ℕ) (b : List ℕ) (records : List (List ℕ)) (levels root : ℕ) (nodes : ℕ → List Node) → IsRooted e k pages b records levels root nodes → 1 ≤ levels → (paths index : List ℕ) (at : ℕ) (home : ℕ → ℕ) → IsPath nodes levels 1 paths index at home
    → ((n : ℕ) → 1 < n → n ≤ levels → get_or index n 0 + 1 ≡ length (node_at (nodes n) (home n)).items) → home 1 + 1 ≡ length (nodes 1)
none_after e k pages b records levels root nodes rooted some paths index at home path last =
    last_leaf nodes levels paths index at home path rooted.one (listed_length e k b records levels nodes rooted.tower) last (levels - 1) 1 (omega (arith, some)) (omega arith)

-- the leaf at the end of a way is in form
pub leaf_of_path : (e k pages : ℕ) (b : List ℕ) (records : List (List ℕ)) (levels root : ℕ) (nodes : ℕ → List Node) → IsRooted e k pages b records levels root nodes → (l at : ℕ) (paths index : List ℕ) (home : ℕ → ℕ) → l ≡ 1 → l ≤ levels → IsPath nodes levels l paths index at home → IsLeafForm e (page_at b at)
leaf_of_path e k pages b records levels root nodes rooted l at paths index home one most path =
    subst (λ (i : ℕ). IsLeafForm e (page_at b i)) (sym path.here) (leaf_is_form e k _ _ ((rooted.tower.stored l (home l) (omega (arith, one)) most (path.inside l (omega arith) most)).leaf one))

pub led_to : (b : List ℕ) (levels : ℕ) (nodes : ℕ → List Node) (page paths index : List ℕ) (l at p c : ℕ) (home : ℕ → ℕ) → l ≡ 1 → IsPath nodes levels l paths index at home → leaf_under nodes l (home l) c ≡ p → page ≡ page_at b at → IsLed b levels nodes page paths index at p
led_to b levels nodes page paths index l at p c home one path is read = record {
  home = home;
  path = subst (λ (i : ℕ). IsPath nodes levels i paths index at home) one path;
  home_is = ap home (sym one) ∙ sym (leaf_end nodes l (home l) c one) ∙ is;
  bytes = read;
}

-- a page of the path above the leaf
pub path_page : (e k pages : ℕ) (b : List ℕ) (records : List (List ℕ)) (levels root : ℕ) (nodes : ℕ → List Node) → IsRooted e k pages b records levels root nodes → (paths index : List ℕ) (at : ℕ) (home : ℕ → ℕ) → IsPath nodes levels 1 paths index at home → (l : ℕ) → 2 ≤ l → l ≤ levels
    → IsInner k (page_at b (get_or paths l 0)) (node_at (nodes l) (home l)).items
path_page e k pages b records levels root nodes rooted paths index at home path l some most =
    subst (λ (i : ℕ). IsInner k (page_at b i) (node_at (nodes l) (home l)).items) (sym (path.page l (omega (arith, some)) most)) ((rooted.tower.stored l (home l) (omega (arith, some)) most (path.inside l (omega (arith, some)) most)).inner (omega (arith, some)))

pub met_cut : (k : ℕ) (b : List ℕ) (levels m n root : ℕ) (paths index : List ℕ) → m < n → IsMetPath k b levels m root paths index → IsMetPath k b levels n root paths index
met_cut k b levels m n root paths index above path = record {
  met = λ l from most. path.met l (omega (arith, from, above)) most;
  form = λ l from most. path.form l (omega (arith, from, above)) most;
  chosen = λ l from most. path.chosen l (omega (arith, from, above)) most;
  top = λ less. path.top (omega (arith, less, above));
}

pub led_moved : (b : List ℕ) (levels : ℕ) (nodes : ℕ → List Node) (page paths index : List ℕ) (at p q : ℕ) → p ≡ q → IsLed b levels nodes page paths index at p → IsLed b levels nodes page paths index at q
led_moved b levels nodes page paths index at p q same led = record { home = led.home; path = led.path; home_is = led.home_is ∙ same; bytes = led.bytes }

-- the key of a record of a leaf, as a scan reads it
pub key_part : (e k : ℕ) (page key : List ℕ) (i : ℕ) (t : Bool) → k ≤ e → at_most (part page (8 + e * i) k) key ≡ t → at_most (take k (record_at e page i)) key ≡ t
key_part e k page key i t within is = ap (λ (x : List ℕ). at_most x key) (take-take k e (drop (8 + e * i) page) within) ∙ is

pub stands_at : (e k : ℕ) (b page into : List ℕ) (home i : ℕ) → Meets k b 1 home → page ≡ page_at b home → kind_of page ≡ 1 → i < filled page → into ≡ record_at e page i → StandsIn e k b into home
stands_at e k b page into home i met read kind below is = record { met = met; at = i; leaf = ap kind_of (sym read) ∙ kind; below = rw (← read) below; is = is ∙ ap (λ (x : List ℕ). record_at e x i) read }

pub mem_wider : {X : Type 0} (P Q : X → Type 0) (why : TreeError X) → ((x : X) → P x → Q x) → IfMemNotFull P why → IfMemNotFull Q why
mem_wider P Q Full f h = h
mem_wider P Q (Malformed page) f h = tt
mem_wider P Q (Mem error) f h = f error h

pub memory_wider : {X : Type 0} (P Q : X → Type 0) (why : TreeError X) → ((x : X) → P x → Q x) → IfMemNotFull P why → IfMemory Q why
memory_wider P Q Full f h = tt
memory_wider P Q (Malformed page) f h = tt
memory_wider P Q (Mem error) f h = f error h

-- an error that is never that the tree is full
pub never_full : {X : Type 0} (P : X → Type 0) (F : Type 0) (why : TreeError X) → IfMemNotFull P why → IfFull F why
never_full P F Full h = absurd h
never_full P F (Malformed page) h = tt
never_full P F (Mem error) h = tt
