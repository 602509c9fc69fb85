-- A walk over the pages of a tree and the levels that it passes.
use Rattle.std.proofs.Common.{◌≡◌, ℕ, zero, suc, ◌+◌, ◌-◌, ◌<◌, ◌≤◌, List, [], ◌∷◌, ◌++◌, length, map, get_or, Some, refl, sym, ◌∙◌, ap, subst, arith, length-append}
use Rattle.std.specs.Prelude.{slice_get}
use Rattle.std.specs.List.{flat_map}
use Rattle.std.proofs.lemmas.List.{length-map, get_or-map, map-append}
use Rattle.std.proofs.lemmas.List.Sums.{sum_by-append, sum_by-cons}
use Rattle.std.proofs.lemmas.List.Folds.{flat_map-map}
use Rattle.std.proofs.lemmas.Option.{slice_get-get_or}
use Rattle.page_tree.specs.Keys.{Item, no_item, item_at}
use Rattle.page_tree.specs.Page.{page_at, filled, record_at, link_at, record_item, root_in, top_in, free_in, levels_in, IsLeaf, IsInner, IsPageOf, IsEnough}
use Rattle.page_tree.specs.Tree.{Node, no_node, node_at, items_of, head_of, heads, one_at, times, uses, frees, pages_to, IsSettled, IsStored, IsFilled, IsTree}
use Rattle.volume_view.specs.Walk.{values, child_at, children_in, records_in, tops, level_at, pages_used, least_children, least_records, IsInnerPage, IsLeafPage, IsPassed, IsWalked}

-- values
pub length-values : {A : Type 0} (f : ℕ → A) (n : ℕ) → length (values f n) ≡ n
length-values f zero = refl
length-values f (suc n) = let rest = length-values (λ i. f (suc i)) n in omega (arith, rest)

pub value_at : {A : Type 0} (f : ℕ → A) (n i : ℕ) (d : A) → i < n → get_or (values f n) i d ≡ f i
value_at f zero i d below = absurd (omega (arith, below))
value_at f (suc n) zero d below = refl
value_at f (suc n) (suc i) d below = value_at (λ j. f (suc j)) n i d (omega (arith, below))

pub values_more : {A : Type 0} (f : ℕ → A) (n : ℕ) → values f (suc n) ≡ values f n ++ f n ∷ []
values_more f zero = refl
values_more f (suc n) = ap (λ l. f 0 ∷ l) (values_more (λ i. f (suc i)) n)

map-values : {A B : Type 0} (g : A → B) (f : ℕ → A) (n : ℕ) → map g (values f n) ≡ values (λ i. g (f i)) n
map-values g f zero = refl
map-values g f (suc n) = ap (λ l. g (f 0) ∷ l) (map-values g (λ i. f (suc i)) n)

-- items without bytes, and such whose first key is left out
abbrev pub ArePlain : List Item → Type 0
ArePlain [] = Unit {0}
ArePlain (x ∷ xs) = (x.bytes ≡ []) × ArePlain xs

abbrev pub AreBare : List Item → Type 0
AreBare [] = Unit {0}
AreBare (x ∷ xs) = (x.key ≡ []) × (x.bytes ≡ []) × ArePlain xs

plain_values : (f : ℕ → Item) (n : ℕ) → ((i : ℕ) → (f i).bytes ≡ []) → ArePlain (values f n)
plain_values f zero each = tt
plain_values f (suc n) each = (each 0, plain_values (λ i. f (suc i)) n (λ i. each (suc i)))

child_plain : (key page : List ℕ) (i : ℕ) → (child_at key page i).bytes ≡ []
child_plain key page zero = refl
child_plain key page (suc i) = refl

plain_append : (xs ys : List Item) → ArePlain xs → ArePlain ys → ArePlain (xs ++ ys)
plain_append [] ys here there = there
plain_append (x ∷ xs) ys here there = (here.0, plain_append xs ys here.1 there)

children_plain : (b : List ℕ) (hs : List Item) → ArePlain (flat_map (children_in b) hs)
children_plain b [] = tt
children_plain b (h ∷ hs) = plain_append (children_in b h) (flat_map (children_in b) hs) (plain_values (child_at h.key (page_at b h.page)) (suc (filled (page_at b h.page))) (child_plain h.key (page_at b h.page))) (children_plain b hs)

children_bare : (b : List ℕ) (hs : List Item) → AreBare hs → AreBare (flat_map (children_in b) hs)
children_bare b [] bare = tt
children_bare b (h ∷ hs) bare =
    (bare.0, refl, plain_append (values (λ i. child_at h.key (page_at b h.page) (suc i)) (filled (page_at b h.page))) (flat_map (children_in b) hs) (plain_values (λ i. child_at h.key (page_at b h.page) (suc i)) (filled (page_at b h.page)) (λ i. refl)) (children_plain b hs))

tops_bare : (levels root : ℕ) → AreBare (tops levels root)
tops_bare zero root = tt
tops_bare (suc d) root = (refl, refl, tt)

pub level_bare : (b : List ℕ) (levels root s : ℕ) → AreBare (level_at b (tops levels root) s)
level_bare b levels root zero = tops_bare levels root
level_bare b levels root (suc s) = children_bare b (level_at b (tops levels root) s) (level_bare b levels root s)

-- items by their parts
pub item_same : (x y : Item) → x.key ≡ y.key → x.page ≡ y.page → x.bytes ≡ y.bytes → x ≡ y
item_same x y keys pages bytes = λ i. record { key = keys i; page = pages i; bytes = bytes i }

-- a level as the one above lists it
heads_tail : (f : Item → Node) (hs : List Item) → ArePlain hs → ((h : Item) → (f h).page ≡ h.page) → ((j : ℕ) (h : Item) → slice_get hs j ≡ Some h → (item_at (f h).items 0).key ≡ h.key) → map head_of (map f hs) ≡ hs
heads_tail f [] plain pages keys = refl
heads_tail f (h ∷ hs) plain pages keys =
    ap (λ x. x ∷ map head_of (map f hs)) (item_same (head_of (f h)) h (keys 0 h refl) (pages h) (sym plain.0)) ∙ ap (λ l. h ∷ l) (heads_tail f hs plain.1 pages (λ j x at. keys (suc j) x at))

pub heads_back : (f : Item → Node) (hs : List Item) → AreBare hs → ((h : Item) → (f h).page ≡ h.page) → ((j : ℕ) (h : Item) → slice_get hs (suc j) ≡ Some h → (item_at (f h).items 0).key ≡ h.key) → heads (map f hs) ≡ hs
heads_back f [] bare pages keys = refl
heads_back f (h ∷ hs) bare pages keys =
    ap (λ x. x ∷ map head_of (map f hs)) (item_same (record { key = []; page = (f h).page; bytes = [] }) h (sym bare.0) (pages h) (sym bare.1)) ∙ ap (λ l. h ∷ l) (heads_tail f hs bare.2 pages keys)

-- the nodes that a walk passes
abbrev pub leaf_node : List ℕ → Item → Node
leaf_node b h = record { page = h.page; items = map (record_item 12) (records_in b h) }

abbrev pub inner_node : List ℕ → Item → Node
inner_node b h = record { page = h.page; items = children_in b h }

items_of_leaves : (b : List ℕ) (hs : List Item) → items_of (map (leaf_node b) hs) ≡ map (record_item 12) (flat_map (records_in b) hs)
items_of_leaves b [] = refl
items_of_leaves b (h ∷ hs) =
    ap (λ l. map (record_item 12) (records_in b h) ++ l) (items_of_leaves b hs) ∙ sym (map-append (record_item 12) (records_in b h) (flat_map (records_in b) hs))

items_of_inners : (b : List ℕ) (hs : List Item) → items_of (map (inner_node b) hs) ≡ flat_map (children_in b) hs
items_of_inners b hs = flat_map-map (λ n. n.items) (inner_node b) hs

node_of_map : (f : Item → Node) (hs : List Item) (p : ℕ) → p < length (map f hs) → (h : Item) × (slice_get hs p ≡ Some h) × (node_at (map f hs) p ≡ f h)
node_of_map f hs p below =
    let short : p < length hs = omega (arith, below, length-map hs f) in
    (item_at hs p, slice_get-get_or hs p no_item short, get_or-map f hs p no_item no_node short)

leaf_is : (b : List ℕ) (pages least : ℕ) (h : Item) → 1 ≤ least → IsLeafPage b pages least h → IsLeaf 24 12 (page_at b h.page) (leaf_node b h).items
leaf_is b pages least h some is =
    let long : length (map (record_item 12) (records_in b h)) ≡ filled (page_at b h.page) = length-map (records_in b h) (record_item 12) ∙ length-values (record_at 24 (page_at b h.page)) (filled (page_at b h.page)) in
    record {
      kind = is.form.kind;
      count = sym long;
      some = omega (arith, long, some, is.form.enough);
      most = omega (arith, long, is.form.most);
      lists = λ i below.
          ap (λ l. item_at l i) (map-values (record_item 12) (record_at 24 (page_at b h.page)) (filled (page_at b h.page)))
          ∙ value_at (λ j. record_item 12 (record_at 24 (page_at b h.page) j)) (filled (page_at b h.page)) i no_item (omega (arith, below, long));
    }

child_link : (key page : List ℕ) (i : ℕ) → (child_at key page i).page ≡ link_at 12 page i
child_link key page zero = refl
child_link key page (suc i) = refl

inner_is : (b : List ℕ) (pages least : ℕ) (h : Item) → 2 ≤ least → IsInnerPage b pages least h → IsInner 12 (page_at b h.page) (inner_node b h).items
inner_is b pages least h some is =
    let page = page_at b h.page in
    let f = child_at h.key page in
    let long : length (children_in b h) ≡ suc (filled page) = length-values f (suc (filled page)) in
    record {
      kind = is.form.kind;
      count = omega (arith, long);
      some = omega (arith, long, some, is.form.enough);
      most = omega (arith, long, is.form.most);
      keys = λ i below.
          let next : i + 1 ≡ suc i = omega arith in
          ap (λ j. (item_at (children_in b h) j).key) next ∙ ap (λ x. x.key) (value_at f (suc (filled page)) (suc i) no_item (omega (arith, below, long)));
      links = λ i below. ap (λ x. x.page) (value_at f (suc (filled page)) i no_item (omega (arith, below, long))) ∙ child_link h.key page i;
    }

-- the levels of a walk that passed
module _ (b : List ℕ) (pages top levels root : ℕ) where
  abbrev pub passed : ℕ → List Item
  passed s = level_at b (tops levels root) s

  abbrev pub passed_nodes : ℕ → List Node
  passed_nodes zero = []
  passed_nodes (suc zero) = map (leaf_node b) (passed (levels - 1))
  passed_nodes (suc (suc m)) = map (inner_node b) (passed (levels - suc (suc m)))

  module _ (is : IsPassed b pages top levels root) where
    heads_leaves : heads (passed_nodes 1) ≡ passed (levels - 1)
    heads_leaves = heads_back (leaf_node b) (passed (levels - 1)) (level_bare b levels root (levels - 1)) (λ h. refl) key
      where
        key : (j : ℕ) (h : Item) → slice_get (passed (levels - 1)) (suc j) ≡ Some h → (item_at (leaf_node b h).items 0).key ≡ h.key
        key j h at =
            let page = is.leaves.each (suc j) h at in
            let leaf = leaf_is b pages (least_records levels) h (least_some levels) page in
            ap (λ x. x.key) (leaf.lists 0 (omega (arith, leaf.some))) ∙ sym (is.leaves.keyed j h at)
          where
            least_some : (n : ℕ) → 1 ≤ least_records n
            least_some zero = omega arith
            least_some (suc zero) = omega arith
            least_some (suc (suc n)) = omega arith

    heads_inners : (m : ℕ) → heads (passed_nodes (suc (suc m))) ≡ passed (levels - suc (suc m))
    heads_inners m = heads_back (inner_node b) (passed (levels - suc (suc m))) (level_bare b levels root (levels - suc (suc m))) (λ h. refl) (λ j h at. refl)

    items_inners : (m : ℕ) → suc (suc m) ≤ levels → items_of (passed_nodes (suc (suc m))) ≡ passed (levels - suc m)
    items_inners m most =
        let next : suc (levels - suc (suc m)) ≡ levels - suc m = omega (arith, most) in
        items_of_inners b (passed (levels - suc (suc m))) ∙ ap passed next

    pub settled : (records : List (List ℕ)) → records ≡ flat_map (records_in b) (passed (levels - 1)) → IsSettled 12 records levels passed_nodes
    settled records are zero below = items_of_leaves b (passed (levels - 1)) ∙ ap (map (record_item 12)) (sym are)
    settled records are (suc zero) below =
        items_inners 0 (omega (arith, below)) ∙ sym heads_leaves
    settled records are (suc (suc m)) below =
        let next : suc (suc m) + 1 ≡ suc (suc (suc m)) = omega arith in
        ap (λ l. items_of (passed_nodes l)) next ∙ items_inners (suc m) (omega (arith, below)) ∙ sym (heads_inners m)

    children_least : (s : ℕ) → 2 ≤ least_children s
    children_least zero = omega arith
    children_least (suc s) = omega arith

    records_least : (n : ℕ) → 1 ≤ least_records n
    records_least zero = omega arith
    records_least (suc zero) = omega arith
    records_least (suc (suc n)) = omega arith

    pub stored : IsStored 24 12 b levels passed_nodes
    stored zero p some most below = absurd (omega (arith, some))
    stored (suc zero) p some most below =
        let at = node_of_map (leaf_node b) (passed (levels - 1)) p below in
        let page = is.leaves.each p at.0 at.1 in
        subst (λ (n : Node). IsPageOf 24 12 1 (page_at b n.page) n.items) (sym at.2) record {
          leaf = λ one. leaf_is b pages (least_records levels) at.0 (records_least levels) page;
          inner = λ more. absurd (omega (arith, more));
        }
    stored (suc (suc m)) p some most below =
        let at = node_of_map (inner_node b) (passed (levels - suc (suc m))) p below in
        let page = (is.inner (levels - suc (suc m)) (omega (arith, most))).each p at.0 at.1 in
        subst (λ (n : Node). IsPageOf 24 12 (suc (suc m)) (page_at b n.page) n.items) (sym at.2) record {
          leaf = λ one. absurd (omega (arith, one));
          inner = λ more. inner_is b pages (least_children (levels - suc (suc m))) at.0 (children_least (levels - suc (suc m))) page;
        }

    records_more : (n : ℕ) → 1 < n → least_records n ≡ 10
    records_more zero more = absurd (omega (arith, more))
    records_more (suc zero) more = absurd (omega (arith, more))
    records_more (suc (suc n)) more = refl

    children_more : (s : ℕ) → 1 ≤ s → least_children s ≡ 16
    children_more zero more = absurd (omega (arith, more))
    children_more (suc s) more = refl

    pub filled_enough : IsFilled 24 12 levels passed_nodes
    filled_enough zero p some most below = absurd (omega (arith, some))
    filled_enough (suc zero) p some most below =
        let at = node_of_map (leaf_node b) (passed (levels - 1)) p below in
        let page = is.leaves.each p at.0 at.1 in
        let leaf = leaf_is b pages (least_records levels) at.0 (records_least levels) page in
        let least = records_more levels most in
        subst (λ (n : Node). IsEnough 24 12 1 (length n.items)) (sym at.2) record {
          leaf = λ one. omega (arith, least, page.form.enough, leaf.count);
          inner = λ more. absurd (omega (arith, more));
        }
    filled_enough (suc (suc m)) p some most below =
        let at = node_of_map (inner_node b) (passed (levels - suc (suc m))) p below in
        let page = (is.inner (levels - suc (suc m)) (omega (arith, most))).each p at.0 at.1 in
        let inner = inner_is b pages (least_children (levels - suc (suc m))) at.0 (children_least (levels - suc (suc m))) page in
        let least = children_more (levels - suc (suc m)) (omega (arith, most)) in
        subst (λ (n : Node). IsEnough 24 12 (suc (suc m)) (length n.items)) (sym at.2) record {
          leaf = λ one. absurd (omega (arith, one));
          inner = λ more. omega (arith, least, page.form.enough, inner.count);
        }

-- the pages of the highest levels, where the nodes of each are known to stand in these pages
abbrev pub HavePages : List ℕ → List Item → ℕ → (ℕ → List Node) → Type 0
HavePages b hs levels nodes = (l : ℕ) → 0 < l → l ≤ levels → map (λ (n : Node). n.page) (nodes l) ≡ map (λ (h : Item). h.page) (level_at b hs (levels - l))

pub frees_append : (q : ℕ) (xs ys : List ℕ) → frees q (xs ++ ys) ≡ frees q xs + frees q ys
frees_append q xs ys = sum_by-append (λ (p : ℕ). one_at p q) xs ys

times_of_pages : (q : ℕ) (ns : List Node) → times q ns ≡ frees q (map (λ (n : Node). n.page) ns)
times_of_pages q [] = refl
times_of_pages q (n ∷ ns) = sum_by-cons (λ (m : Node). one_at m.page q) n ns ∙ ap (λ c. one_at n.page q + c) (times_of_pages q ns) ∙ sym (sum_by-cons (λ (p : ℕ). one_at p q) n.page (map (λ (m : Node). m.page) ns))

module _ (b : List ℕ) (hs : List Item) (levels : ℕ) (nodes : ℕ → List Node) (have : HavePages b hs levels nodes) where
  uses_below : (q l : ℕ) → l ≤ levels → uses q nodes l + frees q (pages_used b hs (levels - l)) ≡ frees q (pages_used b hs levels)
  uses_below q zero most = let all : levels - 0 ≡ levels = omega arith in let same = ap (λ s. frees q (pages_used b hs s)) all in omega (arith, same)
  uses_below q (suc l) most =
      let next : levels - l ≡ suc (levels - suc l) = omega (arith, most) in
      let more : frees q (pages_used b hs (levels - l)) ≡ frees q (pages_used b hs (levels - suc l)) + frees q (map (λ (h : Item). h.page) (level_at b hs (levels - suc l))) =
      ap (λ s. frees q (pages_used b hs s)) next ∙ frees_append q (pages_used b hs (levels - suc l)) (map (λ (h : Item). h.page) (level_at b hs (levels - suc l))) in
      let here : times q (nodes (suc l)) ≡ frees q (map (λ (h : Item). h.page) (level_at b hs (levels - suc l))) = times_of_pages q (nodes (suc l)) ∙ ap (frees q) (have (suc l) (omega arith) most) in
      omega (arith, more, here, uses_below q l (omega (arith, most)))

  pub uses_of_pages : (q : ℕ) → uses q nodes levels ≡ frees q (pages_used b hs levels)
  uses_of_pages q =
      let none : levels - levels ≡ 0 = omega arith in
      let empty : frees q (pages_used b hs (levels - levels)) ≡ 0 = ap (λ s. frees q (pages_used b hs s)) none in
      omega (arith, uses_below q levels (omega arith), empty)

  pages_below : (l : ℕ) → l ≤ levels → pages_to nodes l + length (pages_used b hs (levels - l)) ≡ length (pages_used b hs levels)
  pages_below zero most = let all : levels - 0 ≡ levels = omega arith in let same = ap (λ s. length (pages_used b hs s)) all in omega (arith, same)
  pages_below (suc l) most =
      let next : levels - l ≡ suc (levels - suc l) = omega (arith, most) in
      let more : length (pages_used b hs (levels - l)) ≡ length (pages_used b hs (levels - suc l)) + length (map (λ (h : Item). h.page) (level_at b hs (levels - suc l))) =
      ap (λ s. length (pages_used b hs s)) next ∙ length-append (pages_used b hs (levels - suc l)) (map (λ (h : Item). h.page) (level_at b hs (levels - suc l))) in
      let here : length (nodes (suc l)) ≡ length (map (λ (h : Item). h.page) (level_at b hs (levels - suc l))) = sym (length-map (nodes (suc l)) (λ (n : Node). n.page)) ∙ ap length (have (suc l) (omega arith) most) in
      omega (arith, more, here, pages_below l (omega (arith, most)))

  pub pages_of_levels : pages_to nodes levels ≡ length (pages_used b hs levels)
  pages_of_levels =
      let none : levels - levels ≡ 0 = omega arith in
      let empty : length (pages_used b hs (levels - levels)) ≡ 0 = ap (λ s. length (pages_used b hs s)) none in
      omega (arith, pages_below levels (omega arith), empty)

pages_of_map : (f : Item → Node) (hs : List Item) → ((h : Item) → (f h).page ≡ h.page) → map (λ (n : Node). n.page) (map f hs) ≡ map (λ (h : Item). h.page) hs
pages_of_map f [] pages = refl
pages_of_map f (h ∷ hs) pages = ap (λ p. p ∷ map (λ (n : Node). n.page) (map f hs)) (pages h) ∙ ap (λ l. h.page ∷ l) (pages_of_map f hs pages)

passed_have : (b : List ℕ) (pages top levels root : ℕ) → HavePages b (tops levels root) levels (passed_nodes b pages top levels root)
passed_have b pages top levels root zero some most = absurd (omega (arith, some))
passed_have b pages top levels root (suc zero) some most = pages_of_map (leaf_node b) (level_at b (tops levels root) (levels - 1)) (λ h. refl)
passed_have b pages top levels root (suc (suc m)) some most = pages_of_map (inner_node b) (level_at b (tops levels root) (levels - suc (suc m))) (λ h. refl)

single : (ns : List Node) (root : ℕ) → map (λ (n : Node). n.page) ns ≡ root ∷ [] → (length ns ≡ 1) × (root ≡ (node_at ns 0).page)
single [] root are = absurd (omega (arith, ap length are))
single (n ∷ []) root are = (refl, sym (ap (λ (l : List ℕ). get_or l 0 0) are))
single (n ∷ m ∷ ns) root are = let long = ap length are in absurd (omega (arith, long))

tops_some : (levels root : ℕ) → 0 < levels → map (λ (h : Item). h.page) (tops levels root) ≡ root ∷ []
tops_some zero root some = absurd (omega (arith, some))
tops_some (suc d) root some = refl

no_records : (b : List ℕ) (levels root : ℕ) → levels ≡ 0 → flat_map (records_in b) (level_at b (tops levels root) (levels - 1)) ≡ []
no_records b zero root none = refl
no_records b (suc d) root none = absurd (omega (arith, none))

-- a walk that passed, over pages that stand once, is a tree
module _ (pages : ℕ) (b : List ℕ) (records : List (List ℕ)) (free : List ℕ) (is : IsWalked pages b records free) where
  abbrev top : ℕ
  top = top_in (page_at b 0)

  abbrev levels : ℕ
  levels = levels_in (page_at b 0)

  abbrev root : ℕ
  root = root_in (page_at b 0)

  abbrev nodes : ℕ → List Node
  nodes = passed_nodes b pages top levels root

  root_node : 0 < levels → (length (nodes levels) ≡ 1) × (root ≡ (node_at (nodes levels) 0).page)
  root_node some =
      let none : levels - levels ≡ 0 = omega arith in
      single (nodes levels) root
      (passed_have b pages top levels root levels some (omega arith) ∙ ap (λ s. map (λ (h : Item). h.page) (level_at b (tops levels root) s)) none ∙ tops_some levels root some)

  sum : (q : ℕ) → uses q nodes levels + frees q free ≡ frees q (pages_used b (tops levels root) levels ++ free)
  sum q =
      ap (λ n. n + frees q free) (uses_of_pages b (tops levels root) levels nodes (passed_have b pages top levels root) q)
      ∙ sym (frees_append q (pages_used b (tops levels root) levels) free)

  pub tree_of : IsTree 24 12 pages b records
  tree_of = record {
    levels = levels;
    nodes = nodes;
    free = free;
    first = free_in (page_at b 0);
    top = top;
    header = record {
      count_is = is.count;
      levels_is = refl;
      levels_most = is.header.levels_most;
      no_root = is.header.no_root;
      one_root = λ some. (root_node some).0;
      root_is = λ some. (root_node some).1;
      free_is = refl;
      top_is = refl;
      top_below = is.header.top_below;
      rest = is.header.blank;
    };
    tower = record {
      none = λ none. is.listed ∙ no_records b levels root none;
      ascending = is.ascending;
      listed = settled b pages top levels root is.passed records is.listed;
      stored = stored b pages top levels root is.passed;
      filled = filled_enough b pages top levels root is.passed;
    };
    chain = is.chain;
    shared = record {
      once = λ q some most. sum q ∙ is.once.once q some most;
      header = sum 0 ∙ is.once.header;
      past = λ q above. sum q ∙ is.once.past q above;
      counted = is.once.counted ∙ length-append (pages_used b (tops levels root) levels) free ∙ ap (λ n. n + length free) (sym (pages_of_levels b (tops levels root) levels nodes (passed_have b pages top levels root)));
    };
    capacity = is.capacity;
  }
