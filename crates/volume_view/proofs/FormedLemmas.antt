-- A walk over a tree in form passes.
use Rattle.std.proofs.Common.{◌≡◌, ◌≢◌, inl, inr, ℕ, zero, suc, ◌+◌, ◌-◌, ◌<◌, ◌≤◌, Bool, if◌then◌else◌, List, [], ◌∷◌, ◌++◌, length, map, take, get_or, Some, refl, sym, ◌∙◌, ap, subst, arith, length-append}
use Rattle.std.specs.Prelude.{slice_get}
use Rattle.std.specs.List.{flat_map}
use Rattle.std.proofs.lemmas.Bool.{cases_lt, cases_eq, eq-eqb, ne_eqb}
use Rattle.std.proofs.lemmas.List.{length-map, get_or-map, map-append, same_lists, get_or_default}
use Rattle.std.proofs.lemmas.List.Sums.{sum_by-cons}
use Rattle.std.proofs.lemmas.Option.{same_Some, none-some}
use Rattle.page_tree.specs.Keys.{Item, no_item, item_at}
use Rattle.page_tree.specs.Page.{page_at, kind_of, filled, record_at, record_item, root_in, top_in, levels_in, IsLeaf, IsInner}
use Rattle.page_tree.specs.Tree.{Node, node_at, items_of, head_of, heads, rows, one_at, times, uses, frees, pages_to, IsChain, IsTree}
use Rattle.volume_view.specs.Walk.{values, child_at, children_in, records_in, tops, level_at, pages_used, least_children, least_records, AreInner, AreLeaves, IsPassed, AreUsedOnce, IsWalked}
use Rattle.volume_view.proofs.WalkLemmas.{length-values, value_at, ArePlain, AreBare, item_same, HavePages, frees_append, uses_of_pages, pages_of_levels}

-- heads name no bytes
heads_plain : (ns : List Node) → ArePlain (map head_of ns)
heads_plain [] = tt
heads_plain (n ∷ ns) = (refl, heads_plain ns)

heads_bare : (ns : List Node) → AreBare (heads ns)
heads_bare [] = tt
heads_bare (n ∷ ns) = (refl, refl, heads_plain ns)

plain_prefix : (xs ys : List Item) → ArePlain (xs ++ ys) → ArePlain xs
plain_prefix [] ys plain = tt
plain_prefix (x ∷ xs) ys plain = (plain.0, plain_prefix xs ys plain.1)

plain_back : (xs ys : List Item) → ArePlain (xs ++ ys) → ArePlain ys
plain_back [] ys plain = plain
plain_back (x ∷ xs) ys plain = plain_back xs ys plain.1

plain_at : (xs : List Item) (i : ℕ) → ArePlain xs → (item_at xs i).bytes ≡ []
plain_at [] i plain = refl
plain_at (x ∷ xs) zero plain = plain.0
plain_at (x ∷ xs) (suc i) plain = plain_at xs i plain.1

bare_parts : (xs ys : List Item) → 1 ≤ length xs → AreBare (xs ++ ys) → ((item_at xs 0).key ≡ []) × ArePlain xs × ArePlain ys
bare_parts [] ys some bare = absurd (omega (arith, some))
bare_parts (x ∷ xs) ys some bare = (bare.0, (bare.1, plain_prefix xs ys bare.2), plain_back xs ys bare.2)

-- the children of a page are what the page lists
children_same : (page key : List ℕ) (items : List Item) → IsInner 12 page items → (item_at items 0).key ≡ key → ArePlain items → values (child_at key page) (suc (filled page)) ≡ items
children_same page key items inner first plain = same_lists _ _ long (λ i d below. value_at (child_at key page) (suc (filled page)) i d (omega (arith, below, many)) ∙ each i (omega (arith, below, long)) ∙ get_or_default items i no_item d (omega (arith, below, long)))
  where
    many : length (values (child_at key page) (suc (filled page))) ≡ suc (filled page)
    many = length-values (child_at key page) (suc (filled page))

    long : length (values (child_at key page) (suc (filled page))) ≡ length items
    long = omega (arith, length-values (child_at key page) (suc (filled page)), inner.count)

    each : (i : ℕ) → i < length items → child_at key page i ≡ item_at items i
    each zero below = item_same (child_at key page 0) (item_at items 0) (sym first) (sym (inner.links 0 below)) (sym (plain_at items 0 plain))
    each (suc i) below =
        let next : i + 1 ≡ suc i = omega arith in
        item_same (child_at key page (suc i)) (item_at items (suc i))
        (sym (inner.keys i (omega (arith, below))) ∙ ap (λ j. (item_at items j).key) next) (sym (inner.links (suc i) below)) (sym (plain_at items (suc i) plain))

-- all nodes of a level are inner pages
abbrev pub AllInner : List ℕ → List Node → Type 0
AllInner b ns = (p : ℕ) → p < length ns → IsInner 12 (page_at b (node_at ns p).page) (node_at ns p).items

below_tail : (b : List ℕ) (ns : List Node) → AllInner b ns → ArePlain (items_of ns) → flat_map (children_in b) (map head_of ns) ≡ items_of ns
below_tail b [] are plain = refl
below_tail b (n ∷ ns) are plain =
    ap (λ l. l ++ flat_map (children_in b) (map head_of ns)) (children_same (page_at b n.page) (item_at n.items 0).key n.items (are 0 (omega arith)) refl (plain_prefix n.items (items_of ns) plain))
    ∙ ap (λ l. n.items ++ l) (below_tail b ns (λ p below. are (suc p) (omega (arith, below))) (plain_back n.items (items_of ns) plain))

-- so the level below is what they list
pub below_heads : (b : List ℕ) (ns : List Node) → AllInner b ns → AreBare (items_of ns) → flat_map (children_in b) (heads ns) ≡ items_of ns
below_heads b [] are bare = refl
below_heads b (n ∷ ns) are bare =
    let inner = are 0 (omega arith) in
    let parts = bare_parts n.items (items_of ns) (omega (arith, inner.some)) bare in
    ap (λ l. l ++ flat_map (children_in b) (map head_of ns)) (children_same (page_at b n.page) [] n.items inner parts.0 parts.1)
    ∙ ap (λ l. n.items ++ l) (below_tail b ns (λ p below. are (suc p) (omega (arith, below))) parts.2)

-- a head and its node
head_there : (ns : List Node) (j : ℕ) (h : Item) → slice_get (map head_of ns) j ≡ Some h → (j < length ns) × (h ≡ head_of (node_at ns j))
head_there [] j h at = absurd (none-some h at)
head_there (n ∷ ns) zero h at = (omega arith, sym (same_Some (head_of n) h at))
head_there (n ∷ ns) (suc j) h at = let rest = head_there ns j h at in (omega (arith, rest.0), rest.1)

page_there : (ns : List Node) (j : ℕ) (h : Item) → slice_get (heads ns) j ≡ Some h → (j < length ns) × (h.page ≡ (node_at ns j).page)
page_there [] j h at = absurd (none-some h at)
page_there (n ∷ ns) zero h at = (omega arith, sym (ap (λ x. x.page) (same_Some (record { key = []; page = n.page; bytes = [] }) h at)))
page_there (n ∷ ns) (suc j) h at = let rest = head_there ns j h at in (omega (arith, rest.0), ap (λ x. x.page) rest.1)

key_there : (ns : List Node) (j : ℕ) (h : Item) → slice_get (heads ns) (suc j) ≡ Some h → (suc j < length ns) × (h ≡ head_of (node_at ns (suc j)))
key_there [] j h at = absurd (none-some h at)
key_there (n ∷ ns) j h at = let rest = head_there ns j h at in (omega (arith, rest.0), rest.1)

length-heads : (ns : List Node) → length (heads ns) ≡ length ns
length-heads [] = refl
length-heads (n ∷ ns) = let rest = length-map ns head_of in omega (arith, rest)

pages-map_heads : (ns : List Node) → map (λ (h : Item). h.page) (map head_of ns) ≡ map (λ (n : Node). n.page) ns
pages-map_heads [] = refl
pages-map_heads (n ∷ ns) = ap (λ l. n.page ∷ l) (pages-map_heads ns)

pages-heads : (ns : List Node) → map (λ (h : Item). h.page) (heads ns) ≡ map (λ (n : Node). n.page) ns
pages-heads [] = refl
pages-heads (n ∷ ns) = ap (λ l. n.page ∷ l) (pages-map_heads ns)

-- the records of leaves are what they list
abbrev pub AllLeaves : List ℕ → List Node → Type 0
AllLeaves b ns = (p : ℕ) → p < length ns → IsLeaf 24 12 (page_at b (node_at ns p).page) (node_at ns p).items

record_values : (page : List ℕ) (n i : ℕ) (d : Item) → i < n → get_or (map (record_item 12) (values (record_at 24 page) n)) i d ≡ record_item 12 (record_at 24 page i)
record_values page n i d below =
    let long = length-values (record_at 24 page) n in
    get_or-map (record_item 12) (values (record_at 24 page) n) i [] d (omega (arith, long, below)) ∙ ap (record_item 12) (value_at (record_at 24 page) n i [] below)

records_same : (page : List ℕ) (items : List Item) → IsLeaf 24 12 page items → map (record_item 12) (values (record_at 24 page) (filled page)) ≡ items
records_same page items leaf =
    let many : length (map (record_item 12) (values (record_at 24 page) (filled page))) ≡ filled page = length-map (values (record_at 24 page) (filled page)) (record_item 12) ∙ length-values (record_at 24 page) (filled page) in
    same_lists _ _ (many ∙ leaf.count)
    (λ i d below. record_values page (filled page) i d (omega (arith, below, many)) ∙ sym (leaf.lists i (omega (arith, below, many, leaf.count))) ∙ get_or_default items i no_item d (omega (arith, below, many, leaf.count)))

records_tail : (b : List ℕ) (ns : List Node) → AllLeaves b ns → map (record_item 12) (flat_map (records_in b) (map head_of ns)) ≡ items_of ns
records_tail b [] are = refl
records_tail b (n ∷ ns) are =
    map-append (record_item 12) (records_in b (head_of n)) (flat_map (records_in b) (map head_of ns))
    ∙ ap (λ l. l ++ map (record_item 12) (flat_map (records_in b) (map head_of ns))) (records_same (page_at b n.page) n.items (are 0 (omega arith)))
    ∙ ap (λ l. n.items ++ l) (records_tail b ns (λ p below. are (suc p) (omega (arith, below))))

records_heads : (b : List ℕ) (ns : List Node) → AllLeaves b ns → map (record_item 12) (flat_map (records_in b) (heads ns)) ≡ items_of ns
records_heads b [] are = refl
records_heads b (n ∷ ns) are =
    map-append (record_item 12) (records_in b (head_of n)) (flat_map (records_in b) (map head_of ns))
    ∙ ap (λ l. l ++ map (record_item 12) (flat_map (records_in b) (map head_of ns))) (records_same (page_at b n.page) n.items (are 0 (omega arith)))
    ∙ ap (λ l. n.items ++ l) (records_tail b ns (λ p below. are (suc p) (omega (arith, below))))

unitem : (xs : List (List ℕ)) → map (λ (x : Item). x.bytes) (map (record_item 12) xs) ≡ xs
unitem [] = refl
unitem (x ∷ xs) = ap (λ l. x ∷ l) (unitem xs)

pub mark : (a q : ℕ) → a ≡ q → one_at a q ≡ 1
mark a q same = let count : Bool → ℕ = λ t. if t then 1 else 0 in ap count (eq-eqb a q same)

pub unmarked : (a q : ℕ) → a ≢ q → one_at a q ≡ 0
unmarked a q other = let count : Bool → ℕ = λ t. if t then 1 else 0 in ap count (ne_eqb a q other)

-- a page that stands in a level is used
frees_some : (q : ℕ) (ns : List Node) (i : ℕ) → i < length ns → (node_at ns i).page ≡ q → 1 ≤ times q ns
frees_some q [] i below same = absurd (omega (arith, below))
frees_some q (n ∷ ns) zero below same = let one : one_at n.page q ≡ 1 = mark n.page q same in omega (arith, one, sum_by-cons (λ (m : Node). one_at m.page q) n ns)
frees_some q (n ∷ ns) (suc i) below same = omega (arith, sum_by-cons (λ (m : Node). one_at m.page q) n ns, frees_some q ns i (omega (arith, below)) same)

uses_level : (q : ℕ) (nodes : ℕ → List Node) (levels l : ℕ) → 0 < l → l ≤ levels → times q (nodes l) ≤ uses q nodes levels
uses_level q nodes zero l some most = absurd (omega (arith, some, most))
uses_level q nodes (suc m) l some most = elim (cases_eq l (suc m)) [
  | inl same ↦ let at = ap (λ (i : ℕ). times q (nodes i)) same in omega (arith, at)
  | inr other ↦ omega (arith, uses_level q nodes m l some (omega (arith, other, most)))
]

level_short : (nodes : ℕ → List Node) (levels l : ℕ) → 0 < l → l ≤ levels → length (nodes l) ≤ pages_to nodes levels
level_short nodes zero l some most = absurd (omega (arith, some, most))
level_short nodes (suc m) l some most = elim (cases_eq l (suc m)) [
  | inl same ↦ let at = ap (λ (i : ℕ). length (nodes i)) same in omega (arith, at)
  | inr other ↦ omega (arith, level_short nodes m l some (omega (arith, other, most)))
]

rows_heads : (records : List (List ℕ)) (nodes : ℕ → List Node) (l : ℕ) → 0 < l → rows 12 records nodes l ≡ heads (nodes l)
rows_heads records nodes zero some = absurd (omega (arith, some))
rows_heads records nodes (suc l) some = refl

tops_are : (levels root : ℕ) (ns : List Node) → 0 < levels → length ns ≡ 1 → root ≡ (node_at ns 0).page → tops levels root ≡ heads ns
tops_are zero root ns some one root_is = absurd (omega (arith, some))
tops_are (suc d) root [] some one root_is = absurd (omega (arith, one))
tops_are (suc d) root (n ∷ []) some one root_is = ap (λ (p : ℕ). record { key = []; page = p; bytes = [] } ∷ []) root_is
tops_are (suc d) root (n ∷ m ∷ ns) some one root_is = absurd (omega (arith, one))

no_level : (b : List ℕ) (levels root : ℕ) → levels ≡ 0 → level_at b (tops levels root) (levels - 1) ≡ []
no_level b zero root none = refl
no_level b (suc d) root none = absurd (omega (arith, none))

-- the levels of a tree in form, as a walk meets them
module _ (pages : ℕ) (b : List ℕ) (records : List (List ℕ)) (tree : IsTree 24 12 pages b records) (levels root top : ℕ) (levels_are : levels ≡ tree.levels) (top_is : top ≡ tree.top)
    (root_is : 0 < levels → root ≡ (node_at (tree.nodes levels) 0).page) (one_root : 0 < levels → length (tree.nodes levels) ≡ 1) where
  abbrev nodes : ℕ → List Node
  nodes = tree.nodes

  inner_at : (l : ℕ) → 1 < l → l ≤ levels → AllInner b (nodes l)
  inner_at l more most p below = (tree.tower.stored l p (omega (arith, more)) (omega (arith, most, levels_are)) below).inner more

  leaf_at : 1 ≤ levels → AllLeaves b (nodes 1)
  leaf_at some p below = (tree.tower.stored 1 p (omega arith) (omega (arith, some, levels_are)) below).leaf refl

  items_are : (l : ℕ) → 0 < l → l < levels → items_of (nodes (l + 1)) ≡ heads (nodes l)
  items_are l some below = tree.tower.listed l (omega (arith, below, levels_are)) ∙ rows_heads records nodes l some

  level_heads : (s : ℕ) → s < levels → level_at b (tops levels root) s ≡ heads (nodes (levels - s))
  level_heads zero some =
      let all : levels ≡ levels - 0 = omega arith in
      tops_are levels root (nodes levels) some (one_root some) (root_is some) ∙ ap (λ l. heads (nodes l)) all
  level_heads (suc s) below =
      let next : levels - suc s + 1 ≡ levels - s = omega (arith, below) in
      let items = ap (λ l. items_of (nodes l)) (sym next) ∙ items_are (levels - suc s) (omega (arith, below)) (omega (arith, below)) in
      ap (flat_map (children_in b)) (level_heads s (omega (arith, below)))
      ∙ below_heads b (nodes (levels - s)) (inner_at (levels - s) (omega (arith, below)) (omega arith)) (subst AreBare (sym items) (heads_bare (nodes (levels - suc s))))
      ∙ items

  inside_at : (l p : ℕ) → 0 < l → l ≤ levels → p < length (nodes l) → (node_at (nodes l) p).page ≤ tree.top
  inside_at l p some most below = elim (cases_lt tree.top (node_at (nodes l) p).page) [
    | inl above ↦
        let none = tree.shared.past (node_at (nodes l) p).page above in
        let there = frees_some (node_at (nodes l) p).page (nodes l) p below refl in
        let used = uses_level (node_at (nodes l) p).page nodes tree.levels l some (omega (arith, most, levels_are)) in
        absurd (omega (arith, none, there, used))
    | inr within ↦ omega (arith, within)
  ]

  short_at : (l : ℕ) → 0 < l → l ≤ levels → length (nodes l) ≤ top
  short_at l some most = let short = level_short nodes tree.levels l some (omega (arith, most, levels_are)) in omega (arith, short, tree.shared.counted, top_is)

  enough_children : (s p : ℕ) → suc s < levels → p < length (nodes (levels - s)) → least_children s ≤ length (node_at (nodes (levels - s)) p).items
  enough_children zero p below within = (inner_at (levels - 0) (omega (arith, below)) (omega arith) p within).some
  enough_children (suc s) p below within = (tree.tower.filled (levels - suc s) p (omega (arith, below)) (omega (arith, below, levels_are)) within).inner (omega (arith, below))

  inner_level : (s : ℕ) → suc s < levels → AreInner b pages top (least_children s) (level_at b (tops levels root) s)
  inner_level s below = record {
    each = λ j h at.
        let there = page_there (nodes (levels - s)) j h (ap (λ (l : List Item). slice_get l j) (sym (level_heads s (omega (arith, below)))) ∙ at) in
        let inner = inner_at (levels - s) (omega (arith, below)) (omega arith) j there.0 in
        let inside = inside_at (levels - s) j (omega (arith, below)) (omega arith) there.0 in
        let enough = enough_children s j below there.0 in
        let same : page_at b h.page ≡ page_at b (node_at (nodes (levels - s)) j).page = ap (page_at b) there.1 in
        let count = ap filled same in
        record {
          inside = omega (arith, there.1, inside, tree.header.top_below);
          form = record {
            kind = ap kind_of same ∙ inner.kind;
            enough = omega (arith, enough, count, inner.count);
            most = omega (arith, count, inner.count, inner.most);
          };
        };
    few =
        let next = ap length (level_heads (suc s) below) ∙ length-heads (nodes (levels - suc s)) in
        omega (arith, next, short_at (levels - suc s) (omega (arith, below)) (omega arith));
  }

  last : 0 < levels → levels - (levels - 1) ≡ 1
  last some = omega (arith, some)

  leaf_heads : 0 < levels → level_at b (tops levels root) (levels - 1) ≡ heads (nodes 1)
  leaf_heads some = level_heads (levels - 1) (omega (arith, some)) ∙ ap (λ l. heads (nodes l)) (last some)

  enough_records : (n p : ℕ) → n ≡ levels → p < length (nodes 1) → 0 < n → least_records n ≤ length (node_at (nodes 1) p).items
  enough_records zero p same within some = absurd (omega (arith, some))
  enough_records (suc zero) p same within some = (leaf_at (omega (arith, same)) p within).some
  enough_records (suc (suc n)) p same within some = (tree.tower.filled 1 p (omega arith) (omega (arith, same, levels_are)) within).leaf refl

  leaf_level : 0 < levels → AreLeaves b pages (least_records levels) (level_at b (tops levels root) (levels - 1))
  leaf_level some = record {
    each = λ j h at.
        let there = page_there (nodes 1) j h (ap (λ (l : List Item). slice_get l j) (sym (leaf_heads some)) ∙ at) in
        let leaf = leaf_at some j there.0 in
        let inside = inside_at 1 j (omega arith) some there.0 in
        let enough = enough_records levels j refl there.0 some in
        let same : page_at b h.page ≡ page_at b (node_at (nodes 1) j).page = ap (page_at b) there.1 in
        let count = ap filled same in
        record {
          inside = omega (arith, there.1, inside, tree.header.top_below);
          form = record {
            kind = ap kind_of same ∙ leaf.kind;
            enough = omega (arith, enough, count, leaf.count);
            most = omega (arith, count, leaf.count, leaf.most);
          };
        };
    keyed = λ j h at.
        let there = key_there (nodes 1) j h (ap (λ (l : List Item). slice_get l (suc j)) (sym (leaf_heads some)) ∙ at) in
        let leaf = leaf_at some (suc j) there.0 in
        ap (λ (x : Item). x.key) there.1 ∙ ap (λ (x : Item). x.key) (leaf.lists 0 (omega (arith, leaf.some))) ∙ ap (λ (p : ℕ). take 12 (record_at 24 (page_at b p) 0)) (sym (ap (λ (x : Item). x.page) there.1));
  }

  none_level : levels ≡ 0 → AreLeaves b pages (least_records levels) (level_at b (tops levels root) (levels - 1))
  none_level none = subst (AreLeaves b pages (least_records levels)) (sym (no_level b levels root none)) record {
    each = λ j h at. absurd (none-some h at);
    keyed = λ j h at. absurd (none-some h at);
  }

  is_passed : IsPassed b pages top levels root
  is_passed = record {
    inner = inner_level;
    leaves = elim (cases_lt 0 levels) [
      | inl some ↦ leaf_level some
      | inr none ↦ none_level (omega (arith, none))
    ];
  }

  listed_some : 0 < levels → records ≡ flat_map (records_in b) (level_at b (tops levels root) (levels - 1))
  listed_some some =
      let settled : items_of (nodes 1) ≡ map (record_item 12) records = tree.tower.listed 0 (omega (arith, some, levels_are)) in
      sym (unitem records)
      ∙ ap (map (λ (x : Item). x.bytes)) (sym (records_heads b (nodes 1) (leaf_at some) ∙ settled))
      ∙ unitem (flat_map (records_in b) (heads (nodes 1)))
      ∙ ap (flat_map (records_in b)) (sym (leaf_heads some))

  is_listed : records ≡ flat_map (records_in b) (level_at b (tops levels root) (levels - 1))
  is_listed = elim (cases_lt 0 levels) [
    | inl some ↦ listed_some some
    | inr none ↦
        let zero_levels : levels ≡ 0 = omega (arith, none) in
        tree.tower.none (omega (arith, zero_levels, levels_are)) ∙ sym (ap (flat_map (records_in b)) (no_level b levels root zero_levels))
  ]

  have_pages : HavePages b (tops levels root) levels nodes
  have_pages l some most =
      let back : levels - (levels - l) ≡ l = omega (arith, most) in
      sym (pages-heads (nodes l)) ∙ ap (λ m. map (λ (h : Item). h.page) (heads (nodes m))) (sym back) ∙ ap (map (λ (h : Item). h.page)) (sym (level_heads (levels - l) (omega (arith, some, most))))

  is_once : AreUsedOnce top (pages_used b (tops levels root) levels ++ tree.free)
  is_once = record {
    once = λ q some most. sum q ∙ tree.shared.once q some (omega (arith, most, top_is));
    header = sum 0 ∙ tree.shared.header;
    past = λ q above. sum q ∙ tree.shared.past q (omega (arith, above, top_is));
    counted =
        top_is ∙ tree.shared.counted
        ∙ ap (λ n. n + length tree.free) (ap (pages_to nodes) (sym levels_are) ∙ pages_of_levels b (tops levels root) levels nodes have_pages)
        ∙ sym (length-append (pages_used b (tops levels root) levels) tree.free);
  }
    where
      sum : (q : ℕ) → frees q (pages_used b (tops levels root) levels ++ tree.free) ≡ uses q nodes tree.levels + frees q tree.free
      sum q =
          frees_append q (pages_used b (tops levels root) levels) tree.free
          ∙ ap (λ n. n + frees q tree.free) (sym (uses_of_pages b (tops levels root) levels nodes have_pages q) ∙ ap (uses q nodes) levels_are)

-- what a walk over a tree in form meets
pub walk_of : (pages : ℕ) (b : List ℕ) (records : List (List ℕ)) (tree : IsTree 24 12 pages b records) → IsWalked pages b records tree.free
walk_of pages b records tree = record {
  header = record {
    levels_most = omega (arith, tree.header.levels_is, tree.header.levels_most);
    no_root = λ none. tree.header.no_root (omega (arith, none, tree.header.levels_is));
    top_below = omega (arith, tree.header.top_is, tree.header.top_below);
    blank = tree.header.rest;
  };
  passed = is_passed pages b records tree (levels_in (page_at b 0)) (root_in (page_at b 0)) (top_in (page_at b 0)) tree.header.levels_is tree.header.top_is root one;
  listed = is_listed pages b records tree (levels_in (page_at b 0)) (root_in (page_at b 0)) (top_in (page_at b 0)) tree.header.levels_is tree.header.top_is root one;
  ascending = tree.tower.ascending;
  count = tree.header.count_is;
  capacity = tree.capacity;
  chain = subst (λ (n : ℕ). IsChain b n tree.free) (sym tree.header.free_is) tree.chain;
  once = is_once pages b records tree (levels_in (page_at b 0)) (root_in (page_at b 0)) (top_in (page_at b 0)) tree.header.levels_is tree.header.top_is root one;
}
  where
    root : 0 < levels_in (page_at b 0) → root_in (page_at b 0) ≡ (node_at (tree.nodes (levels_in (page_at b 0))) 0).page
    root some = tree.header.root_is (omega (arith, some, tree.header.levels_is)) ∙ ap (λ l. (node_at (tree.nodes l) 0).page) (sym tree.header.levels_is)

    one : 0 < levels_in (page_at b 0) → length (tree.nodes (levels_in (page_at b 0))) ≡ 1
    one some = ap (λ l. length (tree.nodes l)) tree.header.levels_is ∙ tree.header.one_root (omega (arith, some, tree.header.levels_is))
