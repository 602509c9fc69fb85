-- Runs of sectors of which a map says the opposite of what is right.
use Rattle.std.specs.Prelude.{◌≡◌, ◌≢◌, ℕ, ◌+◌, ◌<◌, ◌≤◌, Bool, List, [], ◌∷◌, slice_get, Some}
use Rattle.volume_view.specs.declared.bit_runs.BitRun.{BitRun}

-- the sector is one of the run
abbrev pub IsIn : BitRun → ℕ → Type 0
IsIn r i = (r.first ≤ i) × (i < r.first + r.sectors)

abbrev pub IsInSome : List BitRun → ℕ → Type 0
IsInSome runs i = (k : ℕ) × (r : BitRun) × (slice_get runs k ≡ Some r) × IsIn r i

-- the map has the sector as revealed, and it is the other way round
pub record IsWrong (says right : ℕ → Bool) (used : Bool) (i : ℕ) : Type 0 where
  pub map_says : says i ≡ used
  pub other : right i ≢ used

-- the run is of such sectors, one at least
pub record IsWrongRun (says right : ℕ → Bool) (r : BitRun) : Type 0 where
  pub some : 1 ≤ r.sectors
  pub each : (i : ℕ) → IsIn r i → IsWrong says right r.used i

-- the second run begins after the end of the first, and where it begins there, the map says the other of it
abbrev pub IsAfter : BitRun → BitRun → Type 0
IsAfter a b = (a.first + a.sectors ≤ b.first) × (a.first + a.sectors ≡ b.first → a.used ≢ b.used)

-- the runs rise, and each is as long as it can be
abbrev pub AreBitsApart : List BitRun → Type 0
AreBitsApart [] = Unit {0}
AreBitsApart (a ∷ []) = Unit {0}
AreBitsApart (a ∷ b ∷ runs) = IsAfter a b × AreBitsApart (b ∷ runs)

-- of the first n sectors, these are exactly those of which the map says the opposite of what is right
pub record AreCompared (says right : ℕ → Bool) (n : ℕ) (runs : List BitRun) : Type 0 where
  pub each : (k : ℕ) (r : BitRun) → slice_get runs k ≡ Some r → IsWrongRun says right r
  pub all : (i : ℕ) → i < n → says i ≢ right i → IsInSome runs i
  pub apart : AreBitsApart runs
  pub below : (k : ℕ) (r : BitRun) → slice_get runs k ≡ Some r → r.first + r.sectors ≤ n
