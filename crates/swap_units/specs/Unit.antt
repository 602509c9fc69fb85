-- The swap unit of a page: the pages of its interval that lie in the same block.
use Rattle.std.specs.Prelude.{◌≡◌, ◌<◌, ◌≤◌, ◌+◌, ◌-◌, ◌/◌, ◌↔◌, ℕ, Bool, ◌&&◌, nat_le, nat_lt}
use Rattle.swap_units.specs.declared.interval.Interval.{Interval}

-- the page is one of the interval's
abbrev pub Holds : Interval → ℕ → Type 0
Holds interval page = (interval.first ≤ page) × (page < interval.first + interval.pages)

-- the same as a test
abbrev pub has_page : ℕ → Interval → Bool
has_page page interval = nat_le interval.first page && nat_lt page (interval.first + interval.pages)

-- the number of the page's block, counted in unit sizes from the first page of the innermost space
abbrev pub block_of : Interval → ℕ → ℕ
block_of interval page = (page - interval.start) / interval.unit

-- the page is among those of a run, given by its first page and its number of pages
abbrev pub IsAmong : ℕ × ℕ → ℕ → Type 0
IsAmong run page = (run.0 ≤ page) × (page < run.0 + run.1)

-- the run has exactly the pages of the interval that are in the same block as this page
pub record IsUnit (interval : Interval) (page : ℕ) (run : ℕ × ℕ) : Type 0 where
  pub same_block : (other : ℕ) → IsAmong run other ↔ (Holds interval other × (block_of interval other ≡ block_of interval page))

-- the run lies in the interval
abbrev pub LiesIn : Interval → ℕ × ℕ → Type 0
LiesIn interval run = (interval.first ≤ run.0) × (run.0 + run.1 ≤ interval.first + interval.pages)
