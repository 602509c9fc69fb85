-- What of a range is brought in before it is asked for.
use Rattle.std.specs.Prelude.{◌≡◌, ◌≢◌, ◌⊎◌, true, ℕ, zero, suc, ◌+◌, ◌-◌, ◌<◌, ◌≤◌, List, Some, None}
use Rattle.frame_pool.specs.Frames.{Slots, IsEmpty}
use Rattle.flat_machine.specs.declared.space.Space.{Space}
use Rattle.flat_machine.specs.declared.space.FilePage.{FilePage}
use Rattle.flat_machine.specs.At.{shown_at}
use Rattle.swap_units.specs.declared.interval.Interval.{Interval}
use Rattle.swap_units.specs.Mode.{is_mapped}
use Rattle.swap_units.specs.Unit.{IsUnit}
use Rattle.space_tables.specs.SpaceTables.{IsIntervalAt}
use Rattle.fault_core.specs.declared.activate.Progress.{Progress}
use Rattle.fault_core.specs.Range.{IsNextPart}
use Rattle.fault_core.specs.Unit.{IsReady, IsWhole}

-- ---- The units of a range.

-- a window shows the page
abbrev pub IsShownAt : List Space → ℕ → Type 0
IsShownAt spaces page = (shown : FilePage) × (shown_at spaces page ≡ Some shown)

-- no window shows any page from the one up to the other
abbrev pub AreBare : List Space → ℕ → ℕ → Type 0
AreBare spaces from to = (page : ℕ) → from ≤ page → page < to → shown_at spaces page ≡ None

-- the swap unit of a page that a window shows: the page after it, and how many pages it has
pub record IsUnitAt (spaces : List Space) (page after pages : ℕ) : Type 0 where
  pub interval : Interval
  pub projected : IsIntervalAt spaces page interval
  pub mapped : is_mapped interval.mode ≡ true
  pub first : ℕ
  pub unit : IsUnit interval page (first, pages)
  pub ends : after ≡ first + pages

-- that of the first page from the one up to the other that a window shows
pub record IsNextUnit (spaces : List Space) (from to page after pages : ℕ) : Type 0 where
  pub above : from ≤ page
  pub below : page < to
  pub bare : AreBare spaces from page
  pub unit : IsUnitAt spaces page after pages

-- one more unit was brought in
abbrev pub with_unit : Progress → ℕ → ℕ → ℕ → Progress
with_unit so_far page after pages = record { page = after; last = page; units = so_far.units + 1; left = so_far.left - pages }

-- So many units are to be brought in yet, one after the other, and the last one is that of this page: the first unit of all is
-- brought in whatever its size, and each next one if its pages are not more than may still be. Then none is left, or the next
-- one has more.
abbrev pub AreUnits : List Space → ℕ → Progress → ℕ → ℕ → Type 0
AreUnits spaces to so_far zero last =
    (last ≡ so_far.last) × (AreBare spaces so_far.page to ⊎ ((so_far.units ≢ 0) × (page : ℕ) × (after : ℕ) × (pages : ℕ) × IsNextUnit spaces so_far.page to page after pages × (so_far.left < pages)))
AreUnits spaces to so_far (suc n) last =
    (page : ℕ) × (after : ℕ) × (pages : ℕ) × IsNextUnit spaces so_far.page to page after pages × (so_far.units ≢ 0 → pages ≤ so_far.left) × AreUnits spaces to (with_unit so_far page after pages) n last

-- no unit was brought in yet
abbrev pub start_at : ℕ → ℕ → Progress
start_at first left = record { page = first; last = first; units = 0; left = left }

-- ---- What is resident of them.

-- the whole swap unit of the page is resident, by the interval of the projection, which is kept
pub record IsWholeAt (spaces : List Space) (kept : List Interval) (slots : Slots) (page : ℕ) : Type 0 where
  pub ready : IsReady kept slots page
  pub projected : IsIntervalAt spaces page ready.interval

-- each page from the one up to the other that a window shows is resident, with its whole swap unit
abbrev pub AreWhole : List Space → Slots → ℕ → ℕ → Type 0
AreWhole spaces slots from to = (page : ℕ) (x : Interval) → from ≤ page → page < to → IsIntervalAt spaces page x → is_mapped x.mode ≡ true → IsWhole slots x page

-- so it is of some page from the one up to the other
pub record HasWholeUnit (spaces : List Space) (kept : List Interval) (slots : Slots) (from to : ℕ) : Type 0 where
  pub page : ℕ
  pub above : from ≤ page
  pub below : page < to
  pub whole : IsWholeAt spaces kept slots page

-- where a window shows some page from the one up to the other
abbrev pub IsActive : List Space → List Interval → Slots → ℕ → ℕ → Type 0
IsActive spaces kept slots from to = (page : ℕ) → from ≤ page → page < to → IsShownAt spaces page → HasWholeUnit spaces kept slots from to

-- So many units were brought in, where so many pages may be, and the last one is resident, all of it. While a slot is empty each
-- of them is: no page that was brought in left.
pub record AreBrought (spaces : List Space) (kept : List Interval) (slots : Slots) (from to most units : ℕ) : Type 0 where
  pub last : ℕ
  pub are : AreUnits spaces to (start_at from most) units last
  pub whole : units ≢ 0 → IsWholeAt spaces kept slots last
  pub all : (slot : ℕ) → IsEmpty slots slot → units ≢ 0 → AreWhole spaces slots from (last + 1)

-- ---- One turn.

-- From there on the page was brought in with its swap unit, or the pages of its interval, which no window shows, were passed.
abbrev pub IsFurther : List Space → ℕ → Progress → Progress → Type 0
IsFurther spaces end was now =
    ((pages : ℕ) × (now ≡ with_unit was was.page now.page pages) × IsUnitAt spaces was.page now.page pages × (was.units ≢ 0 → pages ≤ was.left))
    ⊎ ((now ≡ record was { page = now.page }) × AreBare spaces was.page now.page × IsNextPart spaces was.page end now.page)

-- the page's unit is not the first one, and has more pages than may still be brought in
abbrev pub IsTooLong : List Space → Progress → Type 0
IsTooLong spaces was = (was.units ≢ 0) × (after : ℕ) × (pages : ℕ) × IsUnitAt spaces was.page after pages × (was.left < pages)

-- in a turn over any contents
pub record IsTurn (was now : Progress) : Type 0 where
  pub further : was.page < now.page
  pub one : now.units ≤ was.units + 1
  pub some : 1 ≤ now.units + now.left
  pub fewer : now.units + now.left ≤ was.units + was.left
  pub last : ((now.units ≡ was.units) × (now.last ≡ was.last)) ⊎ (now.last ≡ was.page)
