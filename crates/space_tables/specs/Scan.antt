-- What a pass over the tables finds.
use Rattle.std.specs.Prelude.{◌≡◌, ◌≢◌, ℕ, ◌+◌, ◌-◌, ◌%◌, nat_le, ◌≤◌, ◌<◌, Bool, true, false, not, ◌&&◌, ◌||◌, ◌==◌, List, Option, Some, None, slice_get, find, if◌then◌else◌}
use Rattle.projection_laws.specs.Laws.{is_gap}
use Rattle.projection_laws.specs.Sight.{Interval, end_of}
use Rattle.flat_machine.specs.declared.space.Space.{Space}
use Rattle.flat_machine.specs.Space.{overlap, is_child_of, is_mapped, has_window}
use Rattle.space_tables.specs.declared.handles.Handles.{Handles}
use Rattle.space_tables.specs.declared.rooms.Room.{Room}
use Rattle.space_tables.specs.declared.scan.Test.{Test}
use Rattle.space_tables.specs.declared.scan.Test.TheVariants.{ChildOf, OnPath, Shows}
use Rattle.space_tables.specs.Handles.{IsOneOf}

-- the space is one that is looked for
abbrev pub passes : Test → Space → Bool
passes (ChildOf parent) s = is_child_of parent s
passes (OnPath t) s = is_mapped s && overlap t s
passes (Shows id writable_only) s = has_window (λ w. w.file == id && (not writable_only || w.writable)) s

-- what stands in a slot, if it is one that is looked for
abbrev pub kept : (Space → Bool) → Option Space → Option Space
kept test None = None
kept test (Some s) = if test s then Some s else None

-- no space from a handle on, before another, is one that is looked for
abbrev pub NonePasses : (Space → Bool) → List (Option Space) → ℕ → ℕ → Type 0
NonePasses test slots from end = (h : ℕ) (s : Space) → from ≤ h → h < end → slice_get slots h ≡ Some (Some s) → test s ≡ false

-- a space that was found is the first one that is looked for, from a handle on; else there is none before another handle
abbrev pub IsFirstFrom : (Space → Bool) → List (Option Space) → ℕ → ℕ → Option Space → Type 0
IsFirstFrom test slots from end (Some s) = (slice_get slots s.handle ≡ Some (Some s)) × (test s ≡ true) × NonePasses test slots from s.handle
IsFirstFrom test slots from end None = NonePasses test slots from end

-- the handles of all spaces that are looked for are among these
abbrev pub HaveAll : (Space → Bool) → List (Option Space) → Handles → Type 0
HaveAll test slots handles = (h : ℕ) (s : Space) → slice_get slots h ≡ Some (Some s) → test s ≡ true → IsOneOf handles h

-- the handle after those whose records stand in one page with this one's
abbrev pub end_on : ℕ → ℕ
end_on handle = handle - handle % 16 + 16

-- from one handle to the one before another a space stands at each
abbrev pub AreTakenFrom : List (Option Space) → ℕ → ℕ → Type 0
AreTakenFrom slots from end = (j : ℕ) → from ≤ j → j < end → slice_get slots j ≢ Some None

-- the lowest handle from one on, before another, where no space stands, or none
abbrev pub IsLowestFrom : List (Option Space) → ℕ → ℕ → Option ℕ → Type 0
IsLowestFrom slots from end (Some h) = (from ≤ h) × (h < end) × (slice_get slots h ≡ Some None) × AreTakenFrom slots from h
IsLowestFrom slots from end None = AreTakenFrom slots from end

-- from handle 1 to the one before this a space stands at each
abbrev pub AreTaken : List (Option Space) → ℕ → Type 0
AreTaken slots end = AreTakenFrom slots 1 end

-- the lowest handle from 1 on where no space stands, or none
abbrev pub IsLowestFree : List (Option Space) → Option ℕ → Type 0
IsLowestFree slots (Some h) = (1 ≤ h) × (slice_get slots h ≡ Some None) × AreTaken slots h
IsLowestFree slots None = AreTaken slots 512

-- the interval is one of the space, and so many pages from the first one on end in it
abbrev pub ends_in : ℕ → ℕ → ℕ → Interval → Bool
ends_in parent pages first x = x.space == parent && nat_le (first + pages) (end_of x)

-- the first interval of a space that has so many pages, from its first page on, or none
abbrev pub IsFirstGap : ℕ → ℕ → List Interval → Option Room → Type 0
IsFirstGap parent pages xs None = find (is_gap parent pages) xs ≡ None
IsFirstGap parent pages xs (Some r) = (slice_get xs r.index ≡ Some r.interval) × (find (is_gap parent pages) xs ≡ Some r.interval) × (r.first ≡ r.interval.first)
