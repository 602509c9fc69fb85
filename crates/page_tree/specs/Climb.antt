-- An insertion on its way up.
use Rattle.std.specs.Prelude.{◌≡◌, ℕ, ◌+◌, ◌-◌, ◌*◌, ◌<◌, ◌≤◌, Bool, true, false, List, [], ◌∷◌, length, map, take, drop, insert}
use Rattle.page_tree.specs.Keys.{Item, item_at, AreInKeyOrder}
use Rattle.page_tree.specs.Page.{record_item, IsPageOf, IsEnough, count_in, root_in, top_in, free_in, levels_in}
use Rattle.page_tree.specs.Tree.{Node, node_at, heads, IsFilled, IsSettled, IsChain, IsShared, IsRooted}
use Rattle.page_tree.specs.Answer.{GoesTo}
use Rattle.page_tree.specs.Put.{capacity_of}
use Rattle.page_tree.specs.Carry.{IsCarry}
use Rattle.page_tree.specs.Path.{IsPath}
use Rattle.page_tree.specs.Open.{IsOpen, IsTaken}
use Rattle.flat_mem.specs.Memory.{overwritten}

-- a child as the level above lists it
abbrev pub child_item : List ℕ → ℕ → Item
child_item key page = record { key = key; page = page; bytes = [] }

-- level `level` was split on the path, and the new page has still to be listed above it
pub record IsClimb (e k pages : ℕ) (c : List ℕ) (records : List (List ℕ)) (levels level : ℕ) (paths index key : List ℕ) (page root first top : ℕ) : Type 0 where
  pub nodes : ℕ → List Node
  pub free : List ℕ
  pub place : ℕ → ℕ
  pub home : ℕ
  pub opened : IsOpen e k c levels nodes free first top
  pub carry : IsCarry k records levels nodes (level + 1) (place level + 1) (child_item key page)
  pub path : IsPath nodes levels level paths index home place
  pub order : AreInKeyOrder (map (record_item k) records)
  pub one : level < levels → length (nodes levels) ≡ 1
  pub root_is : level < levels → root ≡ (node_at (nodes levels) 0).page
  pub tops : level ≡ levels → heads (nodes levels) ≡ child_item [] root ∷ child_item key page ∷ []
  pub filled : level ≡ levels → IsFilled e k (levels + 1) nodes
  pub small : page < pages
  pub root_small : root < pages
  pub top_below : top < pages
  pub room : top + (6 - level) < pages + length free

-- all is done but the header
pub record IsClosed (e k pages : ℕ) (c : List ℕ) (records : List (List ℕ)) (levels root first top : ℕ) : Type 0 where
  pub nodes : ℕ → List Node
  pub free : List ℕ
  pub opened : IsOpen e k c levels nodes free first top
  pub listed : IsSettled k records levels nodes
  pub order : AreInKeyOrder (map (record_item k) records)
  pub one : length (nodes levels) ≡ 1
  pub root_is : root ≡ (node_at (nodes levels) 0).page
  pub top_below : top < pages

-- these two pages of level l list the items, each enough of them, and the second has this first key
pub record IsHalves (e k l : ℕ) (ys : List Item) (left right key : List ℕ) : Type 0 where
  pub m : ℕ
  pub some : 0 < m
  pub more : m < length ys
  pub prefix : IsPageOf e k l left (take m ys)
  pub back : IsPageOf e k l right (drop m ys)
  pub prefix_enough : IsEnough e k l m
  pub back_enough : IsEnough e k l (length ys - m)
  pub key_is : key ≡ (item_at (drop m ys) 0).key

-- all is done but the header, or the new half is carried one level on
abbrev pub IsStep : ℕ → ℕ → ℕ → (List ℕ → Type 0) → List (List ℕ) → ℕ → ℕ → List ℕ → List ℕ → List ℕ → ℕ → ℕ → ℕ → ℕ → Bool → Type 0
IsStep e k pages reveals records levels level paths index key page root first top true = (c : List ℕ) × reveals c × IsClosed e k pages c records levels root first top
IsStep e k pages reveals records levels level paths index key page root first top false = (c : List ℕ) × reveals c × IsClimb e k pages c records levels level paths index key page root first top

-- the halves were written, the second into a page that was taken
abbrev pub IsStoredAs : (List ℕ → Type 0) → List ℕ → List ℕ → ℕ → ℕ → List ℕ → List ℕ → ℕ → ℕ → ℕ → ℕ → Type 0
IsStoredAs reveals b free pages at left right top first now page =
    (page < pages) × IsTaken b free top first now page × reveals (overwritten (overwritten b (512 * at) left) (512 * page) right)

-- the fields of a header
pub record IsHead (page : List ℕ) (count root top free levels : ℕ) : Type 0 where
  pub count_is : count_in page ≡ count
  pub root_is : root_in page ≡ root
  pub top_is : top_in page ≡ top
  pub free_is : free_in page ≡ free
  pub levels_is : levels_in page ≡ levels

-- a tree with a root, by the numbers of its header
pub record IsReady (e k pages : ℕ) (b : List ℕ) (records : List (List ℕ)) (levels root first top : ℕ) : Type 0 where
  pub nodes : ℕ → List Node
  pub free : List ℕ
  pub rooted : IsRooted e k pages b records levels root nodes
  pub chain : IsChain b first free
  pub shared : IsShared levels nodes free top
  pub top_below : top < pages
  pub capacity : length records < capacity_of e pages

-- the record stands in its leaf, after those whose key is at most its own; all is done but the header, or the new half is carried up
abbrev pub IsLow : ℕ → ℕ → ℕ → (List ℕ → Type 0) → List (List ℕ) → List ℕ → List ℕ → ℕ → List ℕ → List ℕ → List ℕ → ℕ → ℕ → ℕ → ℕ → Bool → Type 0
IsLow e k pages reveals records r old levels paths index key page root first top done =
    (pos : ℕ) × GoesTo k records old pos × IsStep e k pages reveals (insert records pos r) levels 1 paths index key page root first top done

-- the record stands in the levels
pub record IsPutIn (e k pages : ℕ) (reveals : List ℕ → Type 0) (records : List (List ℕ)) (entry : List ℕ) (levels root first top : ℕ) : Type 0 where
  pub now : List ℕ
  pub revealed : reveals now
  pub at : ℕ
  pub after : GoesTo k records (take k entry) at
  pub some : 1 ≤ levels
  pub few : levels ≤ 6
  pub closed : IsClosed e k pages now (insert records at entry) levels root first top

-- the memory reveals what is done but for the header
abbrev pub RevealsClosed : ℕ → ℕ → ℕ → (List ℕ → Type 0) → List (List ℕ) → ℕ → ℕ → ℕ → ℕ → Type 0
RevealsClosed e k pages reveals records levels root first top = (c : List ℕ) × reveals c × IsClosed e k pages c records levels root first top × (1 ≤ levels) × (levels ≤ 6)
