-- What a change of a space makes of the intervals.
use Rattle.std.specs.Prelude.{◌≡◌, ℕ, zero, suc, ◌+◌, ◌^◌, ◌<◌, ◌≤◌, Bool, true, ◌==◌, List, ◌++◌, map, take, drop, Option, Some, None, slice_get}
use Rattle.std.specs.Option.{option_map_or}
use Rattle.flat_machine.specs.declared.space.Space.{Space}
use Rattle.flat_machine.specs.Space.{end, holds}
use Rattle.projection_laws.specs.Sight.{Interval}
use Rattle.projection_laws.specs.Edits.{reshown_in, refitted, through}
use Rattle.space_tables.specs.Stored.{IsReadable}
use Rattle.space_tables.specs.declared.change.Change.{Change}
use Rattle.space_tables.specs.declared.change.Change.TheVariants.{Unit as Fit, Window as Show}

-- the interval is changed
abbrev pub touches : Change → Interval → Bool
touches (Fit handle unit) i = i.space == handle
touches (Show x window) i = holds x i.first

-- the interval after the change
abbrev pub changed : Change → Interval → Interval
changed (Fit handle unit) i = refitted handle unit i
changed (Show x window) i = reshown_in x (through x window) i

-- the intervals before an index are changed
abbrev pub changed_before : Change → ℕ → List Interval → List Interval
changed_before change n xs = map (changed change) (take n xs) ++ drop n xs

-- each record of an interval reads back
abbrev pub AreAllReadable : List Interval → Type 0
AreAllReadable xs = (k : ℕ) (x : Interval) → slice_get xs k ≡ Some x → IsReadable x

-- the intervals that are changed begin inside the space
abbrev pub LiesInside : Change → Space → List Interval → Type 0
LiesInside change s xs = (k : ℕ) (x : Interval) → slice_get xs k ≡ Some x → touches change x ≡ true → (s.first ≤ x.first) × (x.first < end s)

-- the pages that a window shows are counted in 32 bits
abbrev pub Counts : Change → Type 0
Counts (Fit handle unit) = Unit {0}
Counts (Show x None) = Unit {0}
Counts (Show x (Some w)) = w.first + x.pages ≤ 2 ^ 32

-- the handle fits its field
abbrev pub HasSmallHandle : Change → Type 0
HasSmallHandle (Fit handle unit) = Unit {0}
HasSmallHandle (Show x window) = x.handle ≤ 511

-- these come in at an index
abbrev pub put_in : List Interval → ℕ → List Interval → List Interval
put_in xs at new = take at xs ++ (new ++ drop at xs)

-- the interval before an index, or none
abbrev pub one_before : List Interval → ℕ → Option Interval
one_before xs zero = None
one_before xs (suc k) = slice_get xs k

-- how many pages an interval has, or 0 where there is none
abbrev pub pages_in : Option Interval → ℕ
pages_in x = option_map_or (λ i. i.pages) x 0
