-- What breaks the form of a tree, by the way in which it is met.
use Rattle.std.specs.Prelude.{◌≡◌, ◌≢◌, ℕ, ◌+◌, ◌*◌, ◌<◌, ◌≤◌, ◌⊎◌, List, length}
use Rattle.page_tree.specs.Page.{page_at, kind_of, filled, leaf_room, key_room, link_at, count_in, root_in, top_in, free_in, levels_in, next_in}
use Rattle.page_tree.specs.Put.{capacity_of}
use Rattle.page_tree.specs.Neighbours.{IsUnderfull}
use Rattle.page_tree.specs.Leaves.{leaves_in, records_in}
use Rattle.page_tree.specs.declared.error.TreeError.{TreeError}
use Rattle.page_tree.specs.declared.error.TreeError.TheVariants.{Full, Malformed, Mem}

-- these numbers may stand in a header
pub record AreInForm (e pages count root top free levels : ℕ) : Type 0 where
  pub few_levels : levels ≤ 6
  pub some_root : 0 < levels → 1 ≤ root
  pub root_inside : 0 < levels → root < pages
  pub top_inside : top < pages
  pub free_inside : free < pages
  pub count_most : count ≤ capacity_of e pages

-- those of the header do
abbrev pub IsHeaderForm : ℕ → ℕ → List ℕ → Type 0
IsHeaderForm e pages page = AreInForm e pages (count_in page) (root_in page) (top_in page) (free_in page) (levels_in page)

-- the kind of a leaf, and how many records it holds
pub record IsLeafForm (e : ℕ) (page : List ℕ) : Type 0 where
  pub kind : kind_of page ≡ 1
  pub some : 1 ≤ filled page
  pub most : filled page ≤ leaf_room e

-- the kind of an inner page, and how many keys it holds
pub record IsInnerForm (k : ℕ) (page : List ℕ) : Type 0 where
  pub kind : kind_of page ≡ 2
  pub some : 1 ≤ filled page
  pub most : filled page ≤ key_room k

-- what is asked of a page of level l by itself
pub record IsPageForm (e k l : ℕ) (page : List ℕ) : Type 0 where
  pub leaf : l ≡ 1 → IsLeafForm e page
  pub inner : 1 < l → IsInnerForm k page

-- the bytes have a page p
abbrev pub HasPage : List ℕ → ℕ → Type 0
HasPage b p = 512 * p + 512 ≤ length b

-- page p is met at level l: it is the root that the header names, or a child of an inner page that is met. It is a page of
-- the bytes, and not the header
pub data Meets (k : ℕ) (b : List ℕ) : ℕ → ℕ → Type 0 where
  root : (l p : ℕ) → l ≡ levels_in (page_at b 0) → p ≡ root_in (page_at b 0) → 1 ≤ l → 1 ≤ p → HasPage b p → Meets k b l p
  child : (m q i l p : ℕ) → Meets k b m q → m ≡ l + 1 → 1 ≤ l → IsInnerForm k (page_at b q) → i ≤ filled (page_at b q) → p ≡ link_at k (page_at b q) i → 1 ≤ p → HasPage b p → Meets k b l p

-- page p of the bytes has place n in the list of free pages: the header names it, or the free page of the place before. At
-- its end it is 0
pub data Frees (b : List ℕ) : ℕ → ℕ → Type 0 where
  first : (n p : ℕ) → n ≡ 0 → p ≡ free_in (page_at b 0) → HasPage b p → Frees b n p
  next : (m q n p : ℕ) → Frees b m q → n ≡ m + 1 → 1 ≤ q → kind_of (page_at b q) ≡ 0 → p ≡ next_in (page_at b q) → HasPage b p → Frees b n p

-- the page breaks the form of the tree that these bytes are
pub data Breaks (e k pages : ℕ) (b : List ℕ) (page : ℕ) : Type 0 where
  -- it is the header, and a number of it is not in form
  header : page ≡ 0 → ¬ IsHeaderForm e pages (page_at b 0) → Breaks e k pages b page
  -- it is not what its level asks
  level : (l : ℕ) → Meets k b l page → 1 ≤ l → ¬ IsPageForm e k l (page_at b page) → Breaks e k pages b page
  -- it names a child that is no page of the tree
  link : (l i : ℕ) → Meets k b l page → 1 < l → IsInnerForm k (page_at b page) → i ≤ filled (page_at b page) → (link_at k (page_at b page) i ≡ 0) ⊎ (pages ≤ link_at k (page_at b page) i) → Breaks e k pages b page
  -- it stands at two levels
  twice : (l m : ℕ) → Meets k b l page → Meets k b m page → l < m → Breaks e k pages b page
  -- it is listed as free, and is not free, or names a next one that is no page of the memory
  free : (n : ℕ) → Frees b n page → 1 ≤ page → (kind_of (page_at b page) ≢ 0) ⊎ (pages ≤ next_in (page_at b page)) → Breaks e k pages b page
  -- it is listed as free, and stands in the tree
  used : (n l : ℕ) → Frees b n page → 1 ≤ page → Meets k b l page → Breaks e k pages b page
  -- it is listed as free twice
  again : (n m : ℕ) → Frees b n page → Frees b m page → 1 ≤ page → n < m → Breaks e k pages b page
  -- it is met, or listed as free, and lies above the greatest page that was ever used
  above : ((l : ℕ) × Meets k b l page) ⊎ ((n : ℕ) × Frees b n page) → top_in (page_at b 0) < page → Breaks e k pages b page
  -- it stands below the root, and is filled less than half
  underfull : (l : ℕ) → Meets k b l page → 1 ≤ l → l < levels_in (page_at b 0) → IsUnderfull e k l (filled (page_at b page)) → Breaks e k pages b page
  -- it is the header, and counts no record where there is a level
  uncounted : page ≡ 0 → 0 < levels_in (page_at b 0) → count_in (page_at b 0) ≡ 0 → Breaks e k pages b page
  -- it is the header, and counts more records than stand in the leaves
  few : page ≡ 0 → records_in b (leaves_in k b) < count_in (page_at b 0) → Breaks e k pages b page
  -- it is the header, and the tree that it names has no fewer leaves than the memory has pages
  crowded : page ≡ 0 → pages ≤ length (leaves_in k b) → Breaks e k pages b page

-- the page stops an insertion, and no other call: it breaks the form, or shows that something is wanted that the tree cannot have
pub data StopsInsertion (e k pages : ℕ) (b : List ℕ) (page : ℕ) : Type 0 where
  broken : Breaks e k pages b page → StopsInsertion e k pages b page
  -- it is the header, and fewer than six pages are left, those of the list and those above the greatest that was used
  none_left : (n : ℕ) → page ≡ 0 → Frees b n 0 → pages + n ≤ top_in (page_at b 0) + 6 → StopsInsertion e k pages b page
  -- it is full on level 6, so that one more record would need a seventh
  seventh : Meets k b 6 page → filled (page_at b page) ≡ key_room k → StopsInsertion e k pages b page

-- a fact of the page that is named
abbrev pub IfMalformed : {X : Type 0} → (ℕ → Type 0) → TreeError X → Type 0
IfMalformed P Full = Unit {0}
IfMalformed P (Malformed page) = P page
IfMalformed P (Mem error) = Unit {0}
