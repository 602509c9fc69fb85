-- Two neighbours of one level, of which one may be underfull.
use Rattle.std.specs.Prelude.{◌≡◌, ◌≢◌, ℕ, ◌+◌, ◌/◌, ◌<◌, ◌≤◌, List, length, Bool, true, false}
use Rattle.page_tree.specs.Keys.{Item}
use Rattle.page_tree.specs.Page.{leaf_room, key_room, IsPageOf, IsEnough}
use Rattle.page_tree.specs.Climb.{IsHalves}

-- the first page lists all these items; or each of the two lists enough of them, and the second begins with this key
abbrev pub IsBalanced : ℕ → ℕ → ℕ → List Item → List ℕ → List ℕ → List ℕ → Bool → Type 0
IsBalanced e k l zs left right key true = IsPageOf e k l left zs × IsEnough e k l (length zs)
IsBalanced e k l zs left right key false = IsHalves e k l zs left right key

-- two pages of level l that count n and m: each is within its room, and not both are nearly full
pub record IsLean (e k l n m : ℕ) : Type 0 where
  pub leaf_left : l ≡ 1 → n ≤ leaf_room e
  pub leaf_right : l ≡ 1 → m ≤ leaf_room e
  pub leaf_both : l ≡ 1 → n + m < leaf_room e + leaf_room e / 2
  pub inner_left : l ≢ 1 → n ≤ key_room k
  pub inner_right : l ≢ 1 → m ≤ key_room k
  pub inner_both : l ≢ 1 → n + m < key_room k + key_room k / 2

-- a page of level l that counts n has too few
pub record IsUnderfull (e k l n : ℕ) : Type 0 where
  pub leaf : l ≡ 1 → n < leaf_room e / 2
  pub inner : l ≢ 1 → n < key_room k / 2

-- a page of level l that counts n has enough
pub record IsAmple (e k l n : ℕ) : Type 0 where
  pub leaf : l ≡ 1 → leaf_room e / 2 ≤ n
  pub inner : l ≢ 1 → key_room k / 2 ≤ n
