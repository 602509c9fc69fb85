-- What a call that changes a table makes of its list.
use Rattle.std.specs.Prelude.{◌≡◌, ℕ, ◌≤◌, List, length, take, insert, remove, slice_set}
use Rattle.flat_mem.specs.Order.{key_at, IsInKeyOrder, IsAfter}
use Rattle.flat_mem.specs.declared.error.TableError.{TableError}
use Rattle.flat_mem.specs.declared.error.TableError.TheVariants.{Full, Mem}

-- the list with one entry more. In ascending order it went after the last whose key is at most its own, and the order stays
pub record IsInserted (k : ℕ) (lists : List (List ℕ) → Type 0) (xs : List (List ℕ)) (new : List ℕ) : Type 0 where
  pub at : ℕ
  pub within : at ≤ length xs
  pub listed : lists (insert xs at new)
  pub after : IsInKeyOrder k xs → IsAfter k xs (take k new) at
  pub ascending : IsInKeyOrder k xs → IsInKeyOrder k (insert xs at new)

-- the list with one entry in the place of another. Where the key is the same, the order stays
pub record IsReplaced (k : ℕ) (lists : List (List ℕ) → Type 0) (xs : List (List ℕ)) (at : ℕ) (new : List ℕ) : Type 0 where
  pub listed : lists (slice_set xs at new)
  pub ascending : take k new ≡ key_at k xs at → IsInKeyOrder k xs → IsInKeyOrder k (slice_set xs at new)

-- the list without one entry. The order stays
pub record IsRemoved (k : ℕ) (lists : List (List ℕ) → Type 0) (xs : List (List ℕ)) (at : ℕ) : Type 0 where
  pub listed : lists (remove xs at)
  pub ascending : IsInKeyOrder k xs → IsInKeyOrder k (remove xs at)

-- a fact of the memory's error
abbrev pub IfMem : {X : Type 0} → (X → Type 0) → TableError X → Type 0
IfMem P Full = Unit {0}
IfMem P (Mem error) = P error
