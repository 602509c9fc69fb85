-- Which handles the intervals name, and where the intervals of a space stand.
use Rattle.std.specs.Prelude.{◌≡◌, ℕ, ◌≤◌, ◌<◌, Bool, not, ◌&&◌, ◌==◌, nat_lt, List, Option, Some, None, slice_get, if◌then◌else◌}
use Rattle.flat_machine.specs.declared.space.Space.{Space}
use Rattle.flat_machine.specs.Space.{end}
use Rattle.projection_laws.specs.Sight.{Interval, end_of}
use Rattle.projection_laws.specs.Stored.{interval_in}
use Rattle.space_tables.specs.Form.{interval_record}
use Rattle.space_tables.specs.declared.handles.Handles.{Handles}
use Rattle.space_tables.specs.declared.handles.Sought.{Sought}
use Rattle.space_tables.specs.declared.handles.Sought.TheVariants.{Mapped, Showing}

-- the interval is one that is asked for
abbrev pub is_sought : Sought → Interval → Bool
is_sought Mapped x = not (x.mapped == 0)
is_sought (Showing id) x = x.id == id

-- the handle of the mapped space, where the interval is one that is asked for, and a space may have the handle
abbrev pub handle_for : Sought → Interval → Option ℕ
handle_for sought x = if is_sought sought x && nat_lt x.mapped 512 then Some x.mapped else None

-- the handle is one of these
abbrev pub IsOneOf : Handles → ℕ → Type 0
IsOneOf handles h = (handles.low ≤ h) × (h < handles.end)

-- the first are among the second
abbrev pub Widens : Handles → Handles → Type 0
Widens fewer more = (more.low ≤ fewer.low) × (fewer.end ≤ more.end)

-- the records of intervals from an index on, before another, name these handles alone
abbrev pub NameOnly : Sought → List ℕ → ℕ → ℕ → Handles → Type 0
NameOnly sought b from end handles = (k h : ℕ) → from ≤ k → k < end → handle_for sought (interval_in (interval_record b k)) ≡ Some h → IsOneOf handles h

-- the intervals that share a page with the space are among those from one index on, before another
pub record AreWithin (xs : List Interval) (s : Space) (at : ℕ × ℕ) : Type 0 where
  pub all : (k : ℕ) (x : Interval) → slice_get xs k ≡ Some x → x.first < end s → s.first < end_of x → (at.0 ≤ k) × (k < at.1)
