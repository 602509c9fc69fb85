-- Keys, and lists of items in ascending order of keys.
use Rattle.std.specs.Prelude.{◌≡◌, ℕ, ◌<◌, ◌≤◌, ◌⊎◌, true, false, List, [], length, get_or}
unfoldable pub use Rattle.flat_mem.specs.Order.{at_most}

-- what a page of the tree lists: in a leaf a record, in an inner page a child with the first key below it
pub record Item : Type 0 where
  pub key : List ℕ
  pub page : ℕ
  pub bytes : List ℕ

abbrev pub no_item : Item
no_item = record { key = []; page = 0; bytes = [] }

abbrev pub item_at : List Item → ℕ → Item
item_at xs i = get_or xs i no_item

-- the keys of the items rise
abbrev pub AreInKeyOrder : List Item → Type 0
AreInKeyOrder xs = (i j : ℕ) → i ≤ j → j < length xs → at_most (item_at xs i).key (item_at xs j).key ≡ true

-- item p is the last whose key is at most this one, or it is the first and all after it are above
pub record IsPlace (xs : List Item) (key : List ℕ) (p : ℕ) : Type 0 where
  pub below : p < length xs
  pub holds : (at_most (item_at xs p).key key ≡ true) ⊎ (p ≡ 0)
  pub above : (q : ℕ) → p < q → q < length xs → at_most (item_at xs q).key key ≡ false
