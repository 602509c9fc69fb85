-- What a look-up answers.
use Rattle.std.specs.Prelude.{◌≡◌, ℕ, ◌-◌, ◌<◌, ◌≤◌, Bool, true, false, List, length, take}
use Rattle.flat_mem.specs.Order.{at_most, entry_at, IsLastAtMost, NoneAtMost, IsAfter}
use Rattle.page_tree.specs.Page.{filled, record_at}
use Rattle.page_tree.specs.declared.error.TreeError.{TreeError}
use Rattle.page_tree.specs.declared.error.TreeError.TheVariants.{Full, Malformed, Mem}

-- the last entry whose key is at most the given one, or none
abbrev pub IsLastEntry : ℕ → List (List ℕ) → List ℕ → List ℕ → Bool → Type 0
IsLastEntry k xs key into true = (i : ℕ) × IsLastAtMost k xs key i × (into ≡ entry_at xs i)
IsLastEntry k xs key into false = NoneAtMost k xs key

-- the first entry whose key is above the given one, or none
abbrev pub IsNextEntry : ℕ → List (List ℕ) → List ℕ → List ℕ → Bool → Type 0
IsNextEntry k xs key into true = (i : ℕ) × (i < length xs) × IsAfter k xs key i × (into ≡ entry_at xs i)
IsNextEntry k xs key into false = (j : ℕ) → j < length xs → at_most (take k (entry_at xs j)) key ≡ true

-- the error comes from the memory
abbrev pub FromMemory : {X : Type 0} → TreeError X → Type 0
FromMemory Full = ⊥
FromMemory (Malformed page) = ⊥
FromMemory (Mem error) = Unit {0}

-- an error of the memory has this property; the call never finds the tree full
abbrev pub IfMemNotFull : {X : Type 0} → (X → Type 0) → TreeError X → Type 0
IfMemNotFull P Full = ⊥
IfMemNotFull P (Malformed page) = Unit {0}
IfMemNotFull P (Mem error) = P error

-- an error of the memory has this property
abbrev pub IfMemory : {X : Type 0} → (X → Type 0) → TreeError X → Type 0
IfMemory P Full = Unit {0}
IfMemory P (Malformed page) = Unit {0}
IfMemory P (Mem error) = P error

-- page 0, the header, is named; or the memory fails
abbrev pub IsPast : {X : Type 0} → TreeError X → Type 0
IsPast Full = ⊥
IsPast (Malformed page) = page ≡ 0
IsPast (Mem error) = Unit {0}

-- what holds where the tree is found full
abbrev pub IfFull : {X : Type 0} → Type 0 → TreeError X → Type 0
IfFull P Full = P
IfFull P (Malformed page) = Unit {0}
IfFull P (Mem error) = Unit {0}

-- the last of the records in this leaf whose key is at most the given one; or its first is above
abbrev pub IsLastInPage : ℕ → ℕ → List ℕ → List ℕ → List ℕ → Bool → Type 0
IsLastInPage e k page key into true =
    (c : ℕ) × (0 < c) × (c ≤ filled page) × (at_most (take k (record_at e page (c - 1))) key ≡ true) × (c < filled page → at_most (take k (record_at e page c)) key ≡ false)
    × (into ≡ record_at e page (c - 1))
IsLastInPage e k page key into false = at_most (take k (record_at e page 0)) key ≡ false

-- the header that was read lets a search begin
pub record CanBegin (pages levels root : ℕ) : Type 0 where
  pub levels_most : levels ≤ 6
  pub root_some : 0 < levels → 1 ≤ root
  pub root_inside : 0 < levels → root < pages

-- a record with this key goes to this index of the list
pub record GoesTo (k : ℕ) (xs : List (List ℕ)) (key : List ℕ) (at : ℕ) : Type 0 where
  pub within : at ≤ length xs
  pub after : IsAfter k xs key at
