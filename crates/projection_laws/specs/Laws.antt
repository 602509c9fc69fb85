-- What is proved of the intervals.
use Rattle.std.specs.Prelude.{IfSome, true, false, ◌^◌, ◌≡◌, ◌≢◌, ℕ, suc, ◌*◌, ◌+◌, ◌≤◌, ◌<◌, List, length, map, Option, Some, None, slice_get, slice_set, find, option_map, nat_le, ◌==◌, ◌&&◌, ◌-◌, Bool, [], ◌∷◌, if◌then◌else◌}
use Rattle.std.specs.List.{AllByRecursion, insert, remove}
use Rattle.flat_machine.specs.declared.space.Window.{Window}
use Rattle.flat_machine.specs.declared.space.Space.{Space}
use Rattle.flat_machine.specs.Space.{root, root_pages, end, space_at, innermost, mapped_at}
use Rattle.flat_machine.specs.Refusal.{fits, lowest_gap, is_read_only}
use Rattle.flat_machine.specs.At.{shown_at}
use Rattle.flat_machine.specs.Projection.{unit}
use Rattle.swap_units.specs.Mode as mode
use Rattle.swap_units.specs.Unit.{Holds, IsUnit}
use Rattle.flat_machine.specs.Next.{put_space, without_space, change_space, set_window}
use Rattle.projection_laws.specs.Spaces.{AreSpaces, MayBeAdded, MayBeRemoved, MayHaveWindow}
use Rattle.projection_laws.specs.Sight.{Interval, AreIntervals, end_of, interval_of, span_of, inner_of}
use Rattle.projection_laws.specs.Edits.{replaced, pieces, rejoined, inside, reshown_in, refitted, through, alike, longer, paired, paired_before}

-- the spaces have a machine's form again, and these intervals
pub record IsKept (ss : List Space) (xs : List Interval) : Type 0 where
  pub spaces : AreSpaces ss
  pub intervals : AreIntervals ss xs

-- a space more: the interval that holds its first page holds all of it, and is split at both ends
pub record IsSplit (ss : List Space) (x : Space) (xs : List Interval) (k : ℕ) (i : Interval) : Type 0 where
  pub holds : end x ≤ end_of i
  pub new : IsKept (put_space x ss) (replaced xs k (pieces x i))

abbrev pub AddedSplits : Type 0
AddedSplits = (ss : List Space) (x p : Space) (xs : List Interval) (k : ℕ) (i : Interval) → AreSpaces ss → MayBeAdded ss x p → AreIntervals ss xs
    → slice_get xs k ≡ Some i → i.first ≤ x.first → x.first < end_of i → IsSplit ss x xs k i

-- a space fewer: the interval that holds its first page is the space's, and is joined with those beside it that are then alike
pub record IsJoined (ss : List Space) (x p : Space) (xs : List Interval) (k : ℕ) (i : Interval) : Type 0 where
  pub begins : i.first ≡ x.first
  pub pages : i.pages ≡ x.pages
  pub new : IsKept (without_space x.handle ss) (rejoined xs k (inside p i))

abbrev pub RemovedJoins : Type 0
RemovedJoins = (ss : List Space) (x p : Space) (xs : List Interval) (k : ℕ) (i : Interval) → AreSpaces ss → MayBeRemoved ss x p → AreIntervals ss xs
    → slice_get xs k ≡ Some i → i.first ≤ x.first → x.first < end_of i → IsJoined ss x p xs k i

-- another window of a space: the intervals stay, and those in the space show it
abbrev pub WindowReshows : Type 0
WindowReshows = (ss : List Space) (x : Space) (window : Option Window) (xs : List Interval) → AreSpaces ss → MayHaveWindow ss x → AreIntervals ss xs
    → IsKept (set_window x.handle window ss) (map (reshown_in x (through x window)) xs)

-- another unit of a space: the intervals stay, and those whose innermost space it is have the unit
abbrev pub UnitRefits : Type 0
UnitRefits = (ss : List Space) (handle unit : ℕ) (xs : List Interval) → AreSpaces ss → handle ≢ 0 → 1 ≤ unit → unit ≤ 16 → AreIntervals ss xs
    → IsKept (change_space handle (λ s. record s { unit = unit }) ss) (map (refitted handle unit) xs)

-- where the last interval that begins at or before a page stands, the page is in it
abbrev pub LastHolds : Type 0
LastHolds = (ss : List Space) (xs : List Interval) (k page : ℕ) (i : Interval) → AreIntervals ss xs → page < root_pages
    → slice_get xs k ≡ Some i → i.first ≤ page → ((j : Interval) → slice_get xs (suc k) ≡ Some j → page < j.first) → page < end_of i

-- the first pages rise, from 0 on
pub record FirstsRise (xs : List Interval) : Type 0 where
  pub begins : (i : Interval) → slice_get xs 0 ≡ Some i → i.first ≡ 0
  pub filled : (k : ℕ) (i : Interval) → slice_get xs k ≡ Some i → 1 ≤ i.pages
  pub rises : (k l : ℕ) (i j : Interval) → k < l → slice_get xs k ≡ Some i → slice_get xs l ≡ Some j → end_of i ≤ j.first

abbrev pub FirstsAreAscending : Type 0
FirstsAreAscending = (ss : List Space) (xs : List Interval) → AreIntervals ss xs → FirstsRise xs

-- there are at most two intervals for each space, less one
abbrev pub FewIntervals : Type 0
FewIntervals = (ss : List Space) (xs : List Interval) → AreSpaces ss → AreIntervals ss xs → length xs + 1 ≤ 2 * length ss

-- Which writes of a table make these lists.

-- one, two or three in the place of one: a write, and one insertion or two
pub record IsPut (xs : List Interval) (k : ℕ) (a b c : Interval) : Type 0 where
  pub one : replaced xs k (a ∷ []) ≡ slice_set xs k a
  pub two : replaced xs k (a ∷ b ∷ []) ≡ insert (slice_set xs k a) (suc k) b
  pub three : replaced xs k (a ∷ b ∷ c ∷ []) ≡ insert (insert (slice_set xs k a) (suc k) b) (suc (suc k)) c

abbrev pub PutInSteps : Type 0
PutInSteps = (xs : List Interval) (k : ℕ) (i a b c : Interval) → slice_get xs k ≡ Some i → IsPut xs k a b c

-- a write, and then the pair with the next and the pair with the one before
abbrev pub JoinedInSteps : Type 0
JoinedInSteps = (xs : List Interval) (k : ℕ) (i new : Interval) → slice_get xs k ≡ Some i → rejoined xs k new ≡ paired_before (paired (slice_set xs k new) k) k

-- a pair that is alike: a write and a removal
abbrev pub PairedInSteps : Type 0
PairedInSteps = (xs : List Interval) (k : ℕ) (i j : Interval) → slice_get xs k ≡ Some i → slice_get xs (suc k) ≡ Some j
    → paired xs k ≡ (if alike i j then remove (slice_set xs k (longer i j)) (suc k) else xs)

-- What each interval says.

-- the form that a stored interval has
pub record IsFormed (x : Interval) : Type 0 where
  pub some_pages : 1 ≤ x.pages
  pub in_root : end_of x ≤ root_pages
  pub starts : x.start ≤ x.first
  pub unit_fits : (1 ≤ x.unit) × (x.unit ≤ 16)
  pub handle_fits : x.space ≤ 511
  pub mapped_fits : x.mapped ≤ 511

abbrev pub IntervalsAreFormed : Type 0
IntervalsAreFormed = (ss : List Space) (xs : List Interval) (k : ℕ) (x : Interval) → AreSpaces ss → AreIntervals ss xs → slice_get xs k ≡ Some x → IsFormed x

-- the window of so many pages has an identifier that a file may have, and page numbers below 2 ^ 32
pub record WindowFits (pages : ℕ) (w : Window) : Type 0 where
  pub above_reserved : 16 ≤ w.file
  pub small : w.file < 2 ^ 64
  pub pages_fit : w.first + pages ≤ 2 ^ 32

-- so has each window
abbrev pub WindowsFit : List Space → Type 0
WindowsFit ss = AllByRecursion (λ s. IfSome s.window (WindowFits s.pages)) ss

-- what is shown has such numbers too, and where nothing is shown they are 0
pub record ShowsInForm (x : Interval) : Type 0 where
  pub shown : mode.is_mapped x.mode ≡ true → (16 ≤ x.id) × (x.page + x.pages ≤ 2 ^ 32)
  pub bare : mode.is_mapped x.mode ≡ false → (x.id ≡ 0) × (x.page ≡ 0)
  pub small : x.id < 2 ^ 64

abbrev pub WindowsAreFormed : Type 0
WindowsAreFormed = (ss : List Space) (xs : List Interval) (k : ℕ) (x : Interval) → AreSpaces ss → WindowsFit ss → AreIntervals ss xs → slice_get xs k ≡ Some x
    → ShowsInForm x

-- the unit of a page by its innermost space is the unit by its interval
abbrev pub UnitsAgree : Type 0
UnitsAgree = (ss : List Space) (xs : List Interval) (k page : ℕ) (x : Interval) (s : Space) → AreSpaces ss → AreIntervals ss xs → slice_get xs k ≡ Some x
    → Holds x page → innermost ss page ≡ Some s → IsUnit x page (unit s (span_of x) page)

-- Places, by the intervals.

-- so many pages fit at a place exactly where they lie in one interval of the parent
abbrev pub FitsInOne : Type 0
FitsInOne = (ss : List Space) (xs : List Interval) (k : ℕ) (i : Interval) (p : Space) (pages first : ℕ) → AreSpaces ss → AreIntervals ss xs → space_at ss p.handle ≡ Some p
    → slice_get xs k ≡ Some i → i.first ≤ first → first < end_of i → 1 ≤ pages
    → fits ss p pages first ≡ (i.space == p.handle && nat_le (first + pages) (end_of i))

-- an interval of the parent with so many pages
abbrev pub is_gap : ℕ → ℕ → Interval → Bool
is_gap parent pages i = i.space == parent && nat_le pages i.pages

-- the lowest gap is the first such interval
abbrev pub GapIsFirst : Type 0
GapIsFirst = (ss : List Space) (xs : List Interval) (p : Space) (pages : ℕ) → AreSpaces ss → AreIntervals ss xs → space_at ss p.handle ≡ Some p → 1 ≤ pages
    → lowest_gap ss p pages ≡ option_map (λ i. i.first) (find (is_gap p.handle pages) xs)

-- the root alone is one interval
abbrev pub RootIsOne : Type 0
RootIsOne = IsKept (root ∷ []) (interval_of (record { inner = Some (inner_of root); shown = None }) 0 root_pages ∷ [])

-- what an interval reveals of each of its pages
pub record Reveals (ss : List Space) (x : Interval) (page : ℕ) : Type 0 where
  pub innermost_is : (s : Space) × (innermost ss page ≡ Some s) × (x.space ≡ s.handle) × (x.unit ≡ s.unit) × (x.start ≡ s.first)
  pub mapped_is : option_map (λ (s : Space). s.handle) (mapped_at ss page) ≡ (if x.mapped == 0 then None else Some x.mapped)
  pub shown : shown_at ss page ≡ (if mode.is_mapped x.mode then Some (record { file = x.id; page = x.page + (page - x.first) }) else None)
  pub read_only : is_read_only ss page ≡ mode.is_read_only x.mode

abbrev pub IntervalsReveal : Type 0
IntervalsReveal = (ss : List Space) (xs : List Interval) (k page : ℕ) (x : Interval) → AreSpaces ss → AreIntervals ss xs → slice_get xs k ≡ Some x → Holds x page → Reveals ss x page
