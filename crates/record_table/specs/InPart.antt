-- What a change of a table in some pages of a memory makes of the whole memory.
use Rattle.std.specs.Prelude.{◌≡◌, ℕ, ◌+◌, ◌-◌, ◌*◌, List}
use Rattle.flat_mem.specs.Memory.{part}
use Rattle.flat_mem.specs.Part.{IsSameBeside}
use Rattle.record_table.specs.Table.{entries}
use Rattle.record_table.specs.Edits.{IsInserted, IsReplaced, IsRemoved}

-- the first n entries in some pages of these bytes
abbrev pub entries_in : ℕ → ℕ → ℕ → ℕ → List ℕ → List (List ℕ)
entries_in e first pages n w = entries e (part w (512 * first) (512 * pages)) n

-- the first n entries in these pages are the list
abbrev pub ListsIn : ℕ → ℕ → ℕ → ℕ → List ℕ → List (List ℕ) → Type 0
ListsIn e first pages n w xs = entries_in e first pages n w ≡ xs

-- the memory reveals bytes with the same pages around some, and this holds of the bytes
pub record RevealsBeside (first pages : ℕ) (reveals : List ℕ → Type 0) (w : List ℕ) (Then : List ℕ → Type 0) : Type 0 where
  pub whole : List ℕ
  pub revealed : reveals whole
  pub others : IsSameBeside first pages w whole
  pub table : Then whole

-- the pages beside are the same, and the table in these has one entry more
abbrev pub IsInsertedIn : ℕ → ℕ → ℕ → ℕ → (List ℕ → Type 0) → List ℕ → ℕ → List ℕ → Type 0
IsInsertedIn e k first pages reveals w n new = RevealsBeside first pages reveals w (λ v. IsInserted k (ListsIn e first pages (n + 1) v) (entries_in e first pages n w) new)

-- the pages beside are the same, and the table in these has another entry in the place of one
abbrev pub IsReplacedIn : ℕ → ℕ → ℕ → ℕ → (List ℕ → Type 0) → List ℕ → ℕ → ℕ → List ℕ → Type 0
IsReplacedIn e k first pages reveals w n at new = RevealsBeside first pages reveals w (λ v. IsReplaced k (ListsIn e first pages n v) (entries_in e first pages n w) at new)

-- the pages beside are the same, and the table in these has one entry fewer
abbrev pub IsRemovedIn : ℕ → ℕ → ℕ → ℕ → (List ℕ → Type 0) → List ℕ → ℕ → ℕ → Type 0
IsRemovedIn e k first pages reveals w n at = RevealsBeside first pages reveals w (λ v. IsRemoved k (ListsIn e first pages (n - 1) v) (entries_in e first pages n w) at)
