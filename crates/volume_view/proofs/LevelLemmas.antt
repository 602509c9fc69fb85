-- Levels that are read page by page, and the header's page.
use Rattle.std.proofs.Common.{◌≡◌, inl, inr, ℕ, zero, suc, ◌+◌, ◌-◌, ◌<◌, ◌≤◌, List, [], ◌∷◌, ◌++◌, length, map, take, drop, get_or, Some, None, refl, sym, ◌∙◌, ap, subst, arith, length-append}
use Rattle.std.specs.Prelude.{slice_get}
use Rattle.std.specs.List.{flat_map}
use Rattle.std.proofs.lemmas.Bool.{cases_eq}
use Rattle.std.proofs.lemmas.Grind.{same_number_lists, flat_map-append}
use Rattle.std.proofs.lemmas.List.{append_assoc, append-nil, map-append, length-map, get_or-map, get_or-take, get_or-drop, get_or-replicate, length-take-le, length-drop, take_more, take_all}
use Rattle.std.proofs.lemmas.List.Folds.{length-flat_map-take}
use Rattle.std.proofs.lemmas.Option.{same_Some, slice_get-get_or, slice_get_within}
use Rattle.page_tree.specs.Keys.{Item, no_item, item_at}
use Rattle.page_tree.specs.Page.{page_at, filled, record_at, key_at, link_at, zero_page, IsBlank}
use Rattle.volume_view.specs.declared.levels.Child.{Child}
use Rattle.volume_view.specs.Level.{key_in, item_of, items_of}
use Rattle.volume_view.specs.Walk.{values, child_at, children_in, tops, pages_used, IsInnerPage, AreInner, IsLeafPage, AreLeaves}
use Rattle.volume_view.proofs.WalkLemmas.{values_more}

abbrev pub no_child : Child
no_child = record { key = None; page = 0 }

abbrev pub child_of : List Child → ℕ → Child
child_of children j = get_or children j no_child

-- one child more
pub children_more : (key page : List ℕ) (i : ℕ) (old items new : List Child) (k : List ℕ) (p : ℕ) → k ≡ key_at 12 page i → p ≡ link_at 12 page (i + 1) → new ≡ items ++ record { key = Some k; page = p } ∷ []
    → items_of items ≡ items_of old ++ values (child_at key page) (suc i) → items_of new ≡ items_of old ++ values (child_at key page) (suc (i + 1))
children_more key page i old items new k p key_is link_is pushed so_far =
    let next : i + 1 ≡ suc i = omega arith in
    let one : record { key = k; page = p; bytes = [] } ≡ child_at key page (suc i) = λ t. record { key = key_is t; page = (link_is ∙ ap (link_at 12 page) next) t; bytes = [] } in
    ap items_of pushed
    ∙ map-append item_of items (record { key = Some k; page = p } ∷ [])
    ∙ ap (λ (l : List Item). l ++ record { key = k; page = p; bytes = [] } ∷ []) so_far
    ∙ append_assoc (items_of old) (values (child_at key page) (suc i)) (record { key = k; page = p; bytes = [] } ∷ [])
    ∙ ap (λ (x : Item). items_of old ++ (values (child_at key page) (suc i) ++ x ∷ [])) one
    ∙ ap (λ (l : List Item). items_of old ++ l) (sym (values_more (child_at key page) (suc i)) ∙ ap (λ n. values (child_at key page) (suc n)) (sym next))

-- the pages of a level
pub child_pages : (level : List Child) → map (λ (c : Child). c.page) level ≡ map (λ (h : Item). h.page) (items_of level)
child_pages [] = refl
child_pages (c ∷ level) = ap (λ l. c.page ∷ l) (child_pages level)

-- the item at a place of a level
pub item_there : (level : List Child) (j : ℕ) (h : Item) → j < length level → slice_get (items_of level) j ≡ Some h → h ≡ item_of (child_of level j)
item_there level j h below at =
    sym (same_Some (item_of (child_of level j)) h
    (ap Some (sym (get_or-map item_of level j no_child no_item below)) ∙ sym (slice_get-get_or (items_of level) j no_item (omega (arith, below, length-map level item_of))) ∙ at))

pub item_here : (level : List Child) (j : ℕ) → j < length level → slice_get (items_of level) j ≡ Some (item_of (child_of level j))
item_here level j below = slice_get-get_or (items_of level) j no_item (omega (arith, below, length-map level item_of)) ∙ ap Some (get_or-map item_of level j no_child no_item below)

-- the first pages of a level with one more
pub taken_more : (level : List Child) (j : ℕ) → j < length level → take (j + 1) (items_of level) ≡ take j (items_of level) ++ item_of (child_of level j) ∷ []
taken_more level j below = take_more (items_of level) j no_item (omega (arith, below, length-map level item_of)) ∙ ap (λ (x : Item). take j (items_of level) ++ x ∷ []) (get_or-map item_of level j no_child no_item below)

pub flat_more : {A : Type 0} (f : Item → List A) (level : List Child) (j : ℕ) → j < length level → flat_map f (take (j + 1) (items_of level)) ≡ flat_map f (take j (items_of level)) ++ f (item_of (child_of level j))
flat_more f level j below =
    ap (flat_map f) (taken_more level j below) ∙ flat_map-append f (take j (items_of level)) (item_of (child_of level j) ∷ []) ∙ ap (λ l. flat_map f (take j (items_of level)) ++ l) (append-nil (f (item_of (child_of level j))))

-- a property of each page before this one, and of this one
pub each_more : (P : Item → Type 0) (level : List Child) (j : ℕ) → j < length level → ((k : ℕ) (h : Item) → k < j → slice_get (items_of level) k ≡ Some h → P h) → P (item_of (child_of level j)) → (k : ℕ) (h : Item) → k < j + 1 → slice_get (items_of level) k ≡ Some h → P h
each_more P level j below so_far here k h within at = elim (cases_eq k j) [
  | inl same ↦ subst P (sym (item_there level j h below (ap (slice_get (items_of level)) (sym same) ∙ at))) here
  | inr other ↦ so_far k h (omega (arith, within, other)) at
]

-- the children of the first pages are not more than those of all
pub few_so_far : (b : List ℕ) (hs : List Item) (j : ℕ) (children : List Child) → j < length hs → items_of children ≡ flat_map (children_in b) (take (j + 1) hs) → length children ≤ length (flat_map (children_in b) hs)
few_so_far b hs j children below are =
    let long = sym (length-map children item_of) ∙ ap length are ∙ ap length (ap (flat_map (children_in b)) (take_more hs j no_item below)) ∙ ap length (flat_map-append (children_in b) (take j hs) (item_at hs j ∷ [])) ∙ length-append (flat_map (children_in b) (take j hs)) (flat_map (children_in b) (item_at hs j ∷ [])) in
    let one = ap length (append-nil (children_in b (item_at hs j))) in
    omega (arith, long, one, length-flat_map-take (children_in b) hs j no_item below)

-- the pages of all levels, those of the leaves last
pub used_all : (b : List ℕ) (levels root : ℕ) → pages_used b (tops levels root) (suc (levels - 1)) ≡ pages_used b (tops levels root) levels
used_all b zero root = refl
used_all b (suc d) root = let same : suc (suc d - 1) ≡ suc d = omega arith in ap (pages_used b (tops (suc d) root)) same

-- the bytes after the header's numbers
tail_at : (page : List ℕ) (k : ℕ) → k < 495 → get_or (take 495 (drop 17 page)) k 0 ≡ get_or page (17 + k) 0
tail_at page k below = get_or-take 495 (drop 17 page) k 0 below ∙ get_or-drop 17 page k 0

zeros_at : (k : ℕ) → k < 512 → get_or zero_page k 0 ≡ 0
unfolding zero_page
zeros_at k below = get_or-replicate 512 k 0 0 below

zeros_long : length zero_page ≡ 512
unfolding zero_page
zeros_long = refl

tail_long : (page : List ℕ) → length page ≡ 512 → length (take 495 (drop 17 page)) ≡ 495
tail_long page long = let some = length-drop 17 page in length-take-le 495 (drop 17 page) (omega (arith, some, long))

pub blank_of : (page : List ℕ) → length page ≡ 512 → ((k : ℕ) → 17 ≤ k → k < 512 → get_or page k 0 ≡ 0) → IsBlank page
blank_of page long zeros = same_number_lists _ _ (tail_long page long ∙ sym (tail_long zero_page zeros_long))
    (λ k below. let within : k < 495 = omega (arith, below, tail_long page long) in tail_at page k within ∙ zeros (17 + k) (omega arith) (omega (arith, within)) ∙ sym (tail_at zero_page k within ∙ zeros_at (17 + k) (omega (arith, within))))

pub blank_at : (page : List ℕ) (k : ℕ) → IsBlank page → 17 ≤ k → k < 512 → get_or page k 0 ≡ 0
blank_at page k blank from below =
    let back : 17 + (k - 17) ≡ k = omega (arith, from) in
    ap (λ i. get_or page i 0) (sym back) ∙ sym (tail_at page (k - 17) (omega (arith, from, below))) ∙ ap (λ (l : List ℕ). get_or l (k - 17) 0) blank ∙ tail_at zero_page (k - 17) (omega (arith, from, below)) ∙ zeros_at (17 + (k - 17)) (omega (arith, from, below))

-- the children of one page more, read from bytes that are the same
pub children_of_more : (b c page : List ℕ) (level : List Child) (j : ℕ) (items new : List Child) → j < length level → c ≡ b → page ≡ page_at c (child_of level j).page
    → items_of new ≡ items_of items ++ values (child_at (key_in (child_of level j).key) page) (suc (filled page)) → items_of items ≡ flat_map (children_in b) (take j (items_of level)) → items_of new ≡ flat_map (children_in b) (take (j + 1) (items_of level))
children_of_more b c page level j items new below same read added so_far =
    let here : page ≡ page_at b (child_of level j).page = read ∙ ap (λ (x : List ℕ). page_at x (child_of level j).page) same in
    added
    ∙ ap (λ (l : List Item). l ++ values (child_at (key_in (child_of level j).key) page) (suc (filled page))) so_far
    ∙ ap (λ (p : List ℕ). flat_map (children_in b) (take j (items_of level)) ++ values (child_at (key_in (child_of level j).key) p) (suc (filled p))) here
    ∙ sym (flat_more (children_in b) level j below)

-- a level whose pages were all read
pub inner_all : (b : List ℕ) (pages top least : ℕ) (level : List Child) (j : ℕ) (children : List Child) → length level ≤ j → ((k : ℕ) (h : Item) → k < j → slice_get (items_of level) k ≡ Some h → IsInnerPage b pages least h)
    → items_of children ≡ flat_map (children_in b) (take j (items_of level)) → length children ≤ top → AreInner b pages top least (items_of level)
inner_all b pages top least level j children all each are few = record {
  each = λ k h at. each k h (omega (arith, all, slice_get_within (items_of level) k h at, length-map level item_of)) at;
  few =
      let whole = take_all j (items_of level) (omega (arith, all, length-map level item_of)) in
      let long = ap length (sym (ap (flat_map (children_in b)) whole)) ∙ ap length (sym are) ∙ length-map children item_of in
      omega (arith, long, few);
}

-- a leaf is named by its first key: each before this one, and this one
abbrev pub IsNamedRight : List ℕ → Item → Type 0
IsNamedRight b h = h.key ≡ take 12 (record_at 24 (page_at b h.page) 0)

pub named_more : (b : List ℕ) (level : List Child) (j : ℕ) → j < length level → ((k : ℕ) (h : Item) → suc k < j → slice_get (items_of level) (suc k) ≡ Some h → IsNamedRight b h) → (0 < j → IsNamedRight b (item_of (child_of level j)))
    → (k : ℕ) (h : Item) → suc k < j + 1 → slice_get (items_of level) (suc k) ≡ Some h → IsNamedRight b h
named_more b level j below so_far here k h within at = elim (cases_eq (suc k) j) [
  | inl same ↦ subst (IsNamedRight b) (sym (item_there level j h below (ap (slice_get (items_of level)) (sym same) ∙ at))) (here (omega (arith, same)))
  | inr other ↦ so_far k h (omega (arith, within, other)) at
]

pub named_at : (b : List ℕ) (pages least : ℕ) (level : List Child) (j : ℕ) → 0 < j → j < length level → AreLeaves b pages least (items_of level) → IsNamedRight b (item_of (child_of level j))
named_at b pages least level zero some below are = absurd (omega (arith, some))
named_at b pages least level (suc k) some below are = are.keyed k (item_of (child_of level (suc k))) (item_here level (suc k) below)

pub leaves_all : (b : List ℕ) (pages least : ℕ) (level : List Child) (j : ℕ) → length level ≤ j → ((k : ℕ) (h : Item) → k < j → slice_get (items_of level) k ≡ Some h → IsLeafPage b pages least h)
    → ((k : ℕ) (h : Item) → suc k < j → slice_get (items_of level) (suc k) ≡ Some h → IsNamedRight b h) → AreLeaves b pages least (items_of level)
leaves_all b pages least level j all each named = record {
  each = λ k h at. each k h (omega (arith, all, slice_get_within (items_of level) k h at, length-map level item_of)) at;
  keyed = λ k h at. named k h (omega (arith, all, slice_get_within (items_of level) (suc k) h at, length-map level item_of)) at;
}

-- the first key of a leaf
pub first_key_is : (page : List ℕ) → take 12 (drop 8 page) ≡ take 12 (record_at 24 page 0)
first_key_is page = taken_twice 12 24 (drop 8 page) (omega arith)
  where
    taken_twice : (m n : ℕ) (xs : List ℕ) → m ≤ n → take m xs ≡ take m (take n xs)
    taken_twice zero n xs most = refl
    taken_twice (suc m) zero xs most = absurd (omega (arith, most))
    taken_twice (suc m) (suc n) [] most = refl
    taken_twice (suc m) (suc n) (x ∷ xs) most = ap (λ l. x ∷ l) (taken_twice m n xs (omega (arith, most)))

pub few_of_level : (b : List ℕ) (level : List Child) (j : ℕ) (children : List Child) → j < length level → items_of children ≡ flat_map (children_in b) (take (j + 1) (items_of level)) → length children ≤ length (flat_map (children_in b) (items_of level))
few_of_level b level j children below are = few_so_far b (items_of level) j children (omega (arith, below, length-map level item_of)) are

-- the next level down, read from bytes that are the same
pub inner_level : (b c : List ℕ) (pages top least other : ℕ) (hs gs : List Item) → c ≡ b → other ≡ least → gs ≡ hs → AreInner c pages top other gs → AreInner b pages top least hs
inner_level b c pages top least other hs gs same least_same level_same is =
    subst (AreInner b pages top least) level_same (subst (λ (m : ℕ). AreInner b pages top m gs) least_same (subst (λ (x : List ℕ). AreInner x pages top other gs) same is))
