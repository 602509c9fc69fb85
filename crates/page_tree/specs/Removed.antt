-- Records that are found by their key, taken out or replaced.
use Rattle.std.specs.Prelude.{◌≡◌, ◌≢◌, ℕ, ◌+◌, ◌-◌, ◌<◌, ◌≤◌, Bool, true, false, List, length, take, remove, slice_set, Option, Some, None}
use Rattle.flat_mem.specs.Order.{key_at}
use Rattle.page_tree.specs.Keys.{at_most}
use Rattle.page_tree.specs.Page.{filled, record_at}
use Rattle.page_tree.specs.Tree.{IsTree}

-- record i is the last that has this key
pub record IsLastOf (k : ℕ) (xs : List (List ℕ)) (key : List ℕ) (i : ℕ) : Type 0 where
  pub below : i < length xs
  pub holds : key_at k xs i ≡ key
  pub above : (j : ℕ) → i < j → j < length xs → key_at k xs j ≢ key

-- no record has this key
abbrev pub NoneOf : ℕ → List (List ℕ) → List ℕ → Type 0
NoneOf k xs key = (j : ℕ) → j < length xs → key_at k xs j ≢ key

-- the memory reveals a well-formed tree without the last record of this key; or there is none, and its bytes are the same
abbrev pub IsRemoved : ℕ → ℕ → ℕ → (List ℕ → Type 0) → List ℕ → List (List ℕ) → List ℕ → Bool → Type 0
IsRemoved e k pages reveals b xs key true = (i : ℕ) × IsLastOf k xs key i × (now : List ℕ) × reveals now × IsTree e k pages now (remove xs i)
IsRemoved e k pages reveals b xs key false = NoneOf k xs key × reveals b

-- the memory reveals a well-formed tree with this entry in place of the last record of its own key; or there is none, and its bytes are the same
abbrev pub IsReplaced : ℕ → ℕ → ℕ → (List ℕ → Type 0) → List ℕ → List (List ℕ) → List ℕ → Bool → Type 0
IsReplaced e k pages reveals b xs entry true = (i : ℕ) × IsLastOf k xs (take k entry) i × (now : List ℕ) × reveals now × IsTree e k pages now (slice_set xs i entry)
IsReplaced e k pages reveals b xs entry false = NoneOf k xs (take k entry) × reveals b

-- the last record of this leaf that has the key
pub record IsLastHere (e k : ℕ) (page key : List ℕ) (place : ℕ) : Type 0 where
  pub below : place < filled page
  pub holds : take k (record_at e page place) ≡ key
  pub next : place + 1 < filled page → at_most (take k (record_at e page (place + 1))) key ≡ false

-- the first c records of this leaf have a key that is at most this one, and the next has not; the last of them has another key
pub record IsNotHere (e k : ℕ) (page key : List ℕ) : Type 0 where
  pub c : ℕ
  pub most : c ≤ filled page
  pub low : 0 < c → at_most (take k (record_at e page (c - 1))) key ≡ true
  pub other : 0 < c → take k (record_at e page (c - 1)) ≢ key
  pub next : c < filled page → at_most (take k (record_at e page c)) key ≡ false

abbrev pub IsSought : ℕ → ℕ → List ℕ → List ℕ → Option ℕ → Type 0
IsSought e k page key (Some place) = IsLastHere e k page key place
IsSought e k page key None = IsNotHere e k page key
