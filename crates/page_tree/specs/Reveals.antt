-- A memory that reveals a tree, and what a call makes of its list.
use Rattle.std.specs.Prelude.{◌≡◌, ℕ, ◌<◌, ◌≤◌, Bool, true, false, List, length, take, insert, remove, slice_set}
use Rattle.flat_mem.specs.Order.{IsInKeyOrder, IsAfter}
use Rattle.page_tree.specs.Page.{page_at, kind_of, filled, record_at}
use Rattle.page_tree.specs.Tree.{IsTree}
use Rattle.page_tree.specs.Broken.{Meets}
use Rattle.page_tree.specs.Put.{capacity_of}
use Rattle.page_tree.specs.Removed.{IsLastOf, NoneOf}
use Rattle.page_tree.specs.declared.error.TreeError.{TreeError}
use Rattle.page_tree.specs.declared.error.TreeError.TheVariants.{Full, Malformed, Mem}

-- the bytes that are revealed are a well-formed tree of these entries, which are in ascending order
pub record RevealsTree (e k pages : ℕ) (reveals : List ℕ → Type 0) (xs : List (List ℕ)) : Type 0 where
  pub bytes : List ℕ
  pub revealed : reveals bytes
  pub tree : IsTree e k pages bytes xs
  pub ascending : IsInKeyOrder k xs

-- the list with one entry more, after the last whose key is at most its own. There was room for it
pub record IsInserted (e k pages : ℕ) (lists : List (List ℕ) → Type 0) (xs : List (List ℕ)) (new : List ℕ) : Type 0 where
  pub at : ℕ
  pub within : at ≤ length xs
  pub after : IsAfter k xs (take k new) at
  pub listed : lists (insert xs at new)
  pub room : length xs < capacity_of e pages

-- the tree is full exactly at its capacity, and the list stays; a well-formed tree is never malformed
abbrev pub IsFull : {X : Type 0} → ℕ → ℕ → (List (List ℕ) → Type 0) → List (List ℕ) → TreeError X → Type 0
IsFull e pages lists xs Full = (length xs ≡ capacity_of e pages) × lists xs
IsFull e pages lists xs (Malformed page) = ⊥
IsFull e pages lists xs (Mem error) = Unit {0}

-- this is a record of the leaf that stands in this page, to which a way leads from the root
pub record StandsIn (e k : ℕ) (b entry : List ℕ) (page : ℕ) : Type 0 where
  pub met : Meets k b 1 page
  pub at : ℕ
  pub leaf : kind_of (page_at b page) ≡ 1
  pub below : at < filled (page_at b page)
  pub is : entry ≡ record_at e (page_at b page) at

-- the list is without the last entry that had this key; or none has it, and the list stays
abbrev pub IsTakenOut : ℕ → (List (List ℕ) → Type 0) → List (List ℕ) → List ℕ → Bool → Type 0
IsTakenOut k lists xs key true = (i : ℕ) × IsLastOf k xs key i × lists (remove xs i)
IsTakenOut k lists xs key false = NoneOf k xs key × lists xs

-- the entry stands in place of the last that had its key; or none has it, and the list stays
abbrev pub IsPutOver : ℕ → (List (List ℕ) → Type 0) → List (List ℕ) → List ℕ → Bool → Type 0
IsPutOver k lists xs entry true = (i : ℕ) × IsLastOf k xs (take k entry) i × lists (slice_set xs i entry)
IsPutOver k lists xs entry false = NoneOf k xs (take k entry) × lists xs
