-- The order of keys.
use Rattle.std.proofs.Common.{◌≡◌, ℕ, ◌<◌, ◌≤◌, true, false, List, [], ◌∷◌, length, refl}
use Rattle.flat_mem.specs.OrderLaws.{above_through}
pub use Rattle.flat_mem.specs.OrderLaws.{at_most_through, at_most_itself, at_most_other, false_from}
use Rattle.page_tree.specs.Keys.{Item, item_at, at_most, AreInKeyOrder}

-- what stands at or after an item that is above the key is above it
pub above_from : (xs : List Item) (key : List ℕ) (m : ℕ) → AreInKeyOrder xs → at_most (item_at xs m).key key ≡ false
    → (q : ℕ) → m ≤ q → q < length xs → at_most (item_at xs q).key key ≡ false
above_from xs key m ascending above q after below = above_through _ _ _ above (ascending m q after below)

pub nil_at_most : (x : List ℕ) → at_most [] x ≡ true
unfolding at_most
nil_at_most [] = refl
nil_at_most (c ∷ x) = refl
