-- Lists of entries in ascending order of their keys. The key of an entry is its first k bytes.
use Rattle.std.specs.Prelude.{◌≡◌, ℕ, ◌≤◌, ◌<◌, Bool, true, false, List, [], length, take, get_or, Option, Some, None}
use Rattle.std.specs.Ordering.{nat_cmp, is_le}
use Rattle.std.specs.Cmp.Lexicographic.{slice_cmp}

-- entry i of a list
abbrev pub entry_at : List (List ℕ) → ℕ → List ℕ
entry_at xs i = get_or xs i []

-- its key
abbrev pub key_at : ℕ → List (List ℕ) → ℕ → List ℕ
key_at k xs i = take k (entry_at xs i)

-- the test whether one key is at most another, compared as bytes
unfoldable pub at_most : List ℕ → List ℕ → Bool
at_most x y = is_le (slice_cmp nat_cmp x y)

-- no entry has a key above that of a later entry
abbrev pub IsInKeyOrder : ℕ → List (List ℕ) → Type 0
IsInKeyOrder k xs = (i j : ℕ) → i ≤ j → j < length xs → at_most (key_at k xs i) (key_at k xs j) ≡ true

-- i is the last index whose key is at most this one
pub record IsLastAtMost (k : ℕ) (xs : List (List ℕ)) (key : List ℕ) (i : ℕ) : Type 0 where
  pub below : i < length xs
  pub holds : at_most (key_at k xs i) key ≡ true
  pub above : (j : ℕ) → i < j → j < length xs → at_most (key_at k xs j) key ≡ false

-- no key is at most this one
abbrev pub NoneAtMost : ℕ → List (List ℕ) → List ℕ → Type 0
NoneAtMost k xs key = (j : ℕ) → j < length xs → at_most (key_at k xs j) key ≡ false

-- the last index whose key is at most this one, or none where there is no such index
abbrev pub IsFound : ℕ → List (List ℕ) → List ℕ → Option ℕ → Type 0
IsFound k xs key (Some i) = IsLastAtMost k xs key i
IsFound k xs key None = NoneAtMost k xs key

-- an entry with this key goes to this index, directly after the last whose key is at most its own
pub record IsAfter (k : ℕ) (xs : List (List ℕ)) (key : List ℕ) (at : ℕ) : Type 0 where
  pub below : (j : ℕ) → j < at → at_most (key_at k xs j) key ≡ true
  pub above : (j : ℕ) → at ≤ j → j < length xs → at_most (key_at k xs j) key ≡ false
