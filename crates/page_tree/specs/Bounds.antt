-- What a call asks of its memory, of levels and pages, and of a path.
use Rattle.std.specs.Prelude.{◌≡◌, ℕ, ◌*◌, ◌^◌, ◌<◌, ◌≤◌, List, get_or}
use Rattle.page_tree.specs.Page.{IsWidths, filled, leaf_room, key_room}
use Rattle.page_tree.specs.Answer.{CanBegin}

-- ---- The memory.

-- page numbers of a memory of this many bytes fit in a page, and so do the records
pub record IsSized (e k size : ℕ) : Type 0 where
  pub widths : IsWidths e k
  pub small : size ≤ 2 ^ 27

-- the same, and a tree has room in it
pub record IsRoomy (e k size : ℕ) : Type 0 where
  pub widths : IsWidths e k
  pub small : size ≤ 2 ^ 27
  pub some_pages : 9 * 512 ≤ size

-- page numbers and keys fit in a page
pub record IsKeyed (k size : ℕ) : Type 0 where
  pub some_key : 1 ≤ k
  pub key_most : k ≤ 12
  pub small : size ≤ 2 ^ 27

-- the same, and a tree has room in the memory
pub record HasRoom (k size : ℕ) : Type 0 where
  pub some_key : 1 ≤ k
  pub key_most : k ≤ 12
  pub small : size ≤ 2 ^ 27
  pub some_pages : 9 * 512 ≤ size

-- ---- Levels and pages.

-- the memory has the page, which may stand at this level of a tree
pub record IsOnLevel (pages level at : ℕ) : Type 0 where
  pub some : 1 ≤ level
  pub most : level ≤ 6
  pub inside : at < pages

-- a level of a tree below that of the root
pub record IsBelowRoot (levels level : ℕ) : Type 0 where
  pub some : 1 ≤ level
  pub lower : level < levels
  pub few : levels ≤ 6

-- the memory has each page of the path above the leaf
pub record IsWay (pages levels : ℕ) (paths : List ℕ) : Type 0 where
  pub some : 1 ≤ levels
  pub few : levels ≤ 6
  pub path : (n : ℕ) → 1 < n → n ≤ levels → get_or paths n 0 < pages

-- a leaf of at least two records, and how many it has
pub record HasTwo (e : ℕ) (page : List ℕ) (count : ℕ) : Type 0 where
  pub counts : count ≡ filled page
  pub two : 2 ≤ count
  pub most : count ≤ leaf_room e

-- a leaf of at least one record and of no more than a page has room for
pub record IsFilledLeaf (e : ℕ) (page : List ℕ) : Type 0 where
  pub some : 1 ≤ filled page
  pub most : filled page ≤ leaf_room e

-- an inner page of no more keys than it has room for, and one of its children
pub record HasChild (k : ℕ) (page : List ℕ) (index : ℕ) : Type 0 where
  pub child : index ≤ filled page
  pub children : 1 ≤ filled page
  pub most : filled page ≤ key_room k

-- the root that a header names, where there is one
pub record HasRoot (pages levels root : ℕ) : Type 0 where
  pub some : 1 ≤ levels
  pub begins : CanBegin pages levels root
