-- A sorted list of entries as its callers see it: what searches and edits give, and what its pages show.
use Rattle.std.specs.Prelude.{◌≡◌, ℕ, ◌<◌, ◌≤◌, List, length, Option, Some, None, Bool, true, false, slice_set, take}
use Rattle.std.specs.List.{insert, remove}
use Rattle.flat_mem.specs.Order.{entry_at, key_at, at_most, IsAfter}
use Rattle.page_tree.specs.declared.error.TreeError.{TreeError}
use Rattle.page_tree.specs.declared.error.TreeError.TheVariants.{Full, Malformed, Mem}

-- what the pages of a list show: an entry in a page, how many entries there are, a page that breaks its form, or one where no
-- entry can be put in
pub data Sight : Type 0 where
  Entry : ℕ → List ℕ → Sight
  Count : ℕ → Sight
  Broken : ℕ → Sight
  Stops : ℕ → Sight

-- entry i is the first whose key is above this one
pub record IsFirstAbove (k : ℕ) (xs : List (List ℕ)) (key : List ℕ) (i : ℕ) : Type 0 where
  pub below : i < length xs
  pub above : at_most (key_at k xs i) key ≡ false
  pub before : (j : ℕ) → j < i → at_most (key_at k xs j) key ≡ true

-- no key is above this one
abbrev pub NoneAbove : ℕ → List (List ℕ) → List ℕ → Type 0
NoneAbove k xs key = (j : ℕ) → j < length xs → at_most (key_at k xs j) key ≡ true

-- the entry is the first whose key is above the given one, or no entry is such
abbrev pub IsFirst : ℕ → List (List ℕ) → List ℕ → List ℕ → Option ℕ → Type 0
IsFirst k xs key entry (Some page) = (i : ℕ) × IsFirstAbove k xs key i × (entry ≡ entry_at xs i)
IsFirst k xs key entry None = NoneAbove k xs key

-- entry i is the last with this key
pub record IsLastOf (k : ℕ) (xs : List (List ℕ)) (key : List ℕ) (i : ℕ) : Type 0 where
  pub below : i < length xs
  pub same : key_at k xs i ≡ key
  pub others : (j : ℕ) → i < j → j < length xs → ¬ (key_at k xs j ≡ key)

-- no entry has this key
abbrev pub NoneOf : ℕ → List (List ℕ) → List ℕ → Type 0
NoneOf k xs key = (j : ℕ) → j < length xs → ¬ (key_at k xs j ≡ key)

-- the entry stands after the last whose key is at most its own
pub record IsPut (k : ℕ) (lists : List (List ℕ) → Type 0) (xs : List (List ℕ)) (entry : List ℕ) : Type 0 where
  pub at : ℕ
  pub within : at ≤ length xs
  pub after : IsAfter k xs (take k entry) at
  pub listed : lists (insert xs at entry)

-- the entry stands in the place of the last with its key, or none has its key
abbrev pub IsReplaced : ℕ → (List (List ℕ) → Type 0) → List (List ℕ) → List ℕ → Bool → Type 0
IsReplaced k lists xs entry true = (i : ℕ) × IsLastOf k xs (take k entry) i × lists (slice_set xs i entry)
IsReplaced k lists xs entry false = NoneOf k xs (take k entry) × lists xs

-- the last entry with this key is taken out, or none has it
abbrev pub IsTakenOut : ℕ → (List (List ℕ) → Type 0) → List (List ℕ) → List ℕ → Bool → Type 0
IsTakenOut k lists xs key true = (i : ℕ) × IsLastOf k xs key i × lists (remove xs i)
IsTakenOut k lists xs key false = NoneOf k xs key × lists xs

-- why a call answered an error: where there is no room, this holds; a page that is malformed is shown to be; the memory's
-- error is accounted for
abbrev pub IsCause : {X : Type 0} → Type 0 → (Sight → Type 0) → (X → Type 0) → TreeError X → Type 0
IsCause full shows accounted Full = full
IsCause full shows accounted (Malformed page) = shows (Broken page)
IsCause full shows accounted (Mem error) = accounted error

-- why an insertion answered one: a page that is malformed is shown to be, or to take no more entries
abbrev pub IsPutCause : {X : Type 0} → Type 0 → (Sight → Type 0) → (X → Type 0) → TreeError X → Type 0
IsPutCause full shows accounted Full = full
IsPutCause full shows accounted (Malformed page) = shows (Stops page)
IsPutCause full shows accounted (Mem error) = accounted error

-- the list has as many entries as it takes, and stays; or the error comes from the memory
abbrev pub IsFullOr : {X : Type 0} → ℕ → (List (List ℕ) → Type 0) → List (List ℕ) → TreeError X → Type 0
IsFullOr room lists xs Full = (length xs ≡ room) × lists xs
IsFullOr room lists xs (Malformed page) = ⊥
IsFullOr room lists xs (Mem error) = Unit {0}
