-- A walk over the pages of a file map's tree, level by level from the root down, whatever its form is.
use Rattle.std.specs.Prelude.{◌≡◌, ℕ, zero, suc, ◌+◌, ◌-◌, ◌*◌, ◌<◌, ◌≤◌, List, [], ◌∷◌, ◌++◌, length, map, take, slice_get, Some}
use Rattle.std.specs.List.{flat_map}
use Rattle.page_tree.specs.Keys.{Item, AreInKeyOrder}
use Rattle.page_tree.specs.Page.{page_at, kind_of, filled, record_at, key_at, link_at, count_in, root_in, top_in, free_in, levels_in, IsBlank, record_item}
use Rattle.page_tree.specs.Tree.{frees, IsChain}

-- f 0, f 1, .., so many of them
abbrev pub values : {A : Type 0} → (ℕ → A) → ℕ → List A
values f zero = []
values f (suc n) = f 0 ∷ values (λ i. f (suc i)) n

-- child i of an inner page, with the first key below it; that of the first stands in no page but one further up
abbrev pub child_at : List ℕ → List ℕ → ℕ → Item
child_at key page zero = record { key = key; page = link_at 12 page 0; bytes = [] }
child_at key page (suc i) = record { key = key_at 12 page i; page = link_at 12 page (suc i); bytes = [] }

-- the children that the page names, where it is an inner page
abbrev pub children_in : List ℕ → Item → List Item
children_in b h = values (child_at h.key (page_at b h.page)) (suc (filled (page_at b h.page)))

-- the records that it holds, where it is a leaf
abbrev pub records_in : List ℕ → Item → List (List ℕ)
records_in b h = values (record_at 24 (page_at b h.page)) (filled (page_at b h.page))

-- the highest level of a tree of so many levels
abbrev pub tops : ℕ → ℕ → List Item
tops zero root = []
tops (suc d) root = record { key = []; page = root; bytes = [] } ∷ []

-- the level s levels below it
abbrev pub level_at : List ℕ → List Item → ℕ → List Item
level_at b hs zero = hs
level_at b hs (suc s) = flat_map (children_in b) (level_at b hs s)

-- the pages of the s highest levels
abbrev pub pages_used : List ℕ → List Item → ℕ → List ℕ
pages_used b hs zero = []
pages_used b hs (suc s) = pages_used b hs s ++ map (λ h. h.page) (level_at b hs s)

-- how many children a page s levels below the highest has at least, and how many records a leaf of a tree of so many
-- levels
abbrev pub least_children : ℕ → ℕ
least_children zero = 2
least_children (suc s) = 16

abbrev pub least_records : ℕ → ℕ
least_records zero = 1
least_records (suc zero) = 1
least_records (suc (suc d)) = 10

-- an inner page with at least so many children
pub record IsInnerForm (page : List ℕ) (least : ℕ) : Type 0 where
  pub kind : kind_of page ≡ 2
  pub enough : least ≤ filled page + 1
  pub most : filled page ≤ 31

-- the page is one of so many, and is such a page
pub record IsInnerPage (b : List ℕ) (pages least : ℕ) (h : Item) : Type 0 where
  pub inside : h.page < pages
  pub form : IsInnerForm (page_at b h.page) least

-- each page of the level is one, and they have at most `top` children
pub record AreInner (b : List ℕ) (pages top least : ℕ) (hs : List Item) : Type 0 where
  pub each : (j : ℕ) (h : Item) → slice_get hs j ≡ Some h → IsInnerPage b pages least h
  pub few : length (flat_map (children_in b) hs) ≤ top

-- a leaf with at least so many records
pub record IsLeafForm (page : List ℕ) (least : ℕ) : Type 0 where
  pub kind : kind_of page ≡ 1
  pub enough : least ≤ filled page
  pub most : filled page ≤ 21

-- the page is one of so many, and is such a page
pub record IsLeafPage (b : List ℕ) (pages least : ℕ) (h : Item) : Type 0 where
  pub inside : h.page < pages
  pub form : IsLeafForm (page_at b h.page) least

-- each page of the level is one, and begins with the key under which it is named, if it is not the first of all
pub record AreLeaves (b : List ℕ) (pages least : ℕ) (hs : List Item) : Type 0 where
  pub each : (j : ℕ) (h : Item) → slice_get hs j ≡ Some h → IsLeafPage b pages least h
  pub keyed : (j : ℕ) (h : Item) → slice_get hs (suc j) ≡ Some h → h.key ≡ take 12 (record_at 24 (page_at b h.page) 0)

-- each level of a tree of so many levels with this root is in form, from the highest down to the leaves
pub record IsPassed (b : List ℕ) (pages top levels root : ℕ) : Type 0 where
  pub inner : (s : ℕ) → suc s < levels → AreInner b pages top (least_children s) (level_at b (tops levels root) s)
  pub leaves : AreLeaves b pages (least_records levels) (level_at b (tops levels root) (levels - 1))

-- the numbers of the header may be those of a tree in so many pages
pub record IsHeaderForm (page : List ℕ) (pages : ℕ) : Type 0 where
  pub levels_most : levels_in page ≤ 6
  pub no_root : levels_in page ≡ 0 → root_in page ≡ 0
  pub top_below : top_in page < pages
  pub blank : IsBlank page

-- each page from 1 to `top` is used once, and no other is
pub record AreUsedOnce (top : ℕ) (used : List ℕ) : Type 0 where
  pub once : (q : ℕ) → 1 ≤ q → q ≤ top → frees q used ≡ 1
  pub header : frees 0 used ≡ 0
  pub past : (q : ℕ) → top < q → frees q used ≡ 0
  pub counted : top ≡ length used

-- a walk over the tree that the header names passed, and met these records, in order, and these free pages
pub record IsWalked (pages : ℕ) (b : List ℕ) (records : List (List ℕ)) (free : List ℕ) : Type 0 where
  pub header : IsHeaderForm (page_at b 0) pages
  pub passed : IsPassed b pages (top_in (page_at b 0)) (levels_in (page_at b 0)) (root_in (page_at b 0))
  pub listed : records ≡ flat_map (records_in b)
      (level_at b (tops (levels_in (page_at b 0)) (root_in (page_at b 0))) (levels_in (page_at b 0) - 1))
  pub ascending : AreInKeyOrder (map (record_item 12) records)
  pub count : count_in (page_at b 0) ≡ length records
  pub capacity : length records ≤ 9 * (pages - 8)
  pub chain : IsChain b (free_in (page_at b 0)) free
  pub once : AreUsedOnce (top_in (page_at b 0))
      (pages_used b (tops (levels_in (page_at b 0)) (root_in (page_at b 0))) (levels_in (page_at b 0)) ++ free)
