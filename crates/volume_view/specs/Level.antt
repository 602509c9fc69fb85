-- A header and the pages of a level, as they are read.
use Rattle.std.specs.Prelude.{◌≡◌, ℕ, List, [], map, Option, Some, None}
use Rattle.page_tree.specs.Keys.{Item}
use Rattle.page_tree.specs.Page.{count_in, root_in, top_in, free_in, levels_in}
use Rattle.volume_view.specs.declared.header.Header.{Header}
use Rattle.volume_view.specs.declared.levels.Child.{Child}

-- the numbers that the page reveals, as a header
pub record IsHeaderOf (page : List ℕ) (header : Header) : Type 0 where
  pub count : header.count ≡ count_in page
  pub root : header.root ≡ root_in page
  pub top : header.top ≡ top_in page
  pub free : header.free ≡ free_in page
  pub levels : header.levels ≡ levels_in page

-- the first page of a level is named under no key
abbrev pub key_in : Option (List ℕ) → List ℕ
key_in None = []
key_in (Some key) = key

-- a child that was read, as an inner page lists it
abbrev pub item_of : Child → Item
item_of child = record { key = key_in child.key; page = child.page; bytes = [] }

abbrev pub items_of : List Child → List Item
items_of children = map item_of children
