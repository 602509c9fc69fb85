-- The form of the records of the tables, and when a page breaks it.
use Rattle.std.specs.Prelude.{◌≡◌, ◌⊎◌, ℕ, ◌+◌, ◌*◌, ◌/◌, ◌^◌, ◌<◌, ◌≤◌, Bool, true, false, not, ◌&&◌, ◌||◌, ◌==◌, nat_le, List, length, Option, None, Some, is_some}
use Rattle.std.specs.Option.{option_map_or}
use Rattle.flat_machine.specs.declared.space.Space.{Space}
use Rattle.flat_machine.specs.declared.space.Window.{Window}
use Rattle.flat_machine.specs.Space.{root_pages, end}
use Rattle.std.specs.Int.{w32, to_be_bytes}
use Rattle.flat_mem.specs.Memory.{part}
use Rattle.flat_mem.specs.Order.{at_most}
use Rattle.record_table.specs.Field.{field}
use Rattle.swap_units.specs.Mode.{is_mapped, mode_in}
use Rattle.swap_units.specs.Unit.{has_page}
use Rattle.projection_laws.specs.Sight.{Interval, end_of}
use Rattle.projection_laws.specs.Edits.{pieces}
use Rattle.projection_laws.specs.Stored.{interval_in, space_in}

-- record h of the hierarchy
abbrev pub slot_record : List ℕ → ℕ → List ℕ
slot_record b h = part b (32 * h) 32

-- the page of the hierarchy that has record h
abbrev pub slot_page : List ℕ → ℕ → List ℕ
slot_page b h = part b (512 * (h / 16)) 512

-- record k of the projection
abbrev pub interval_record : List ℕ → ℕ → List ℕ
interval_record b k = part b (32 * (512 + k)) 32

-- the page of the projection that has record k
abbrev pub interval_page : List ℕ → ℕ → List ℕ
interval_page b k = part b (512 * (32 + k / 16)) 512

-- the first page of the space in the record of a handle
abbrev pub first_in_slot : List ℕ → ℕ → ℕ
first_in_slot b h = (space_in h (slot_record b h)).first

-- the key of interval k: the bytes of its first page
abbrev pub key_in : List ℕ → ℕ → List ℕ
key_in b k = part b (32 * (512 + k)) 4

-- the interval is one that stands in a record of a projection with so many
abbrev pub IsRecorded : ℕ → List ℕ → Interval → Type 0
IsRecorded count b x = (k : ℕ) × (k < count) × (x ≡ interval_in (interval_record b k))

-- a run of pages has a page, and lies in the root
abbrev pub lies_in_root : ℕ → ℕ → Bool
lies_in_root first pages = nat_le 1 pages && nat_le (first + pages) root_pages

-- a unit size
abbrev pub is_unit : ℕ → Bool
is_unit unit = nat_le 1 unit && nat_le unit 16

-- the file may be shown, and so may that many of its pages from this one on
abbrev pub may_be_shown : ℕ → ℕ → ℕ → Bool
may_be_shown id page pages = nat_le 16 id && nat_le (page + pages) (2 ^ 32)

-- the numbers of an interval are in form
abbrev pub in_form : Interval → Bool
in_form x =
    lies_in_root x.first x.pages && is_unit x.unit && (not (is_mapped x.mode) || may_be_shown x.id x.page x.pages)
    && nat_le x.space 511 && nat_le x.mapped 511 && nat_le x.start x.first

-- so is a record of the projection, and its mode's byte is that of one
abbrev pub is_interval_record : List ℕ → Bool
is_interval_record r = is_some (mode_in (field 1 11 r)) && in_form (interval_in r) && field 2 30 r == 0

abbrev pub window_in_form : ℕ → Option Window → Bool
window_in_form pages None = true
window_in_form pages (Some w) = may_be_shown w.file w.first pages

-- the numbers of a space are in form
abbrev pub space_in_form : Space → Bool
space_in_form s = lies_in_root s.first s.pages && is_unit s.unit && nat_le s.parent 511 && window_in_form s.pages s.window

-- the bytes of a record that may have one value only
abbrev pub has_plain_bytes : List ℕ → Bool
has_plain_bytes r = field 1 0 r == 1 && field 1 3 r == 0 && field 2 6 r == 0 && field 4 28 r == 0

-- a record of the hierarchy is in form, and its mode's byte is that of one; one whose first byte is 0 is tested no further
abbrev pub is_slot_record : List ℕ → Bool
is_slot_record r = field 1 0 r == 0 || (is_some (mode_in (field 1 2 r)) && has_plain_bytes r && space_in_form (space_in 0 r))

-- The page of the hierarchy that has the record of this handle breaks its form there.
pub record BreaksSlot (b : List ℕ) (page h : ℕ) : Type 0 where
  pub handle : h < 512
  pub on : page ≡ h / 16
  pub breaks : is_slot_record (slot_record b h) ≡ false

-- The page that has this record, one of so many of the projection, breaks its form there.
pub record BreaksInterval (count : ℕ) (b : List ℕ) (page k : ℕ) : Type 0 where
  pub counted : k < count
  pub on : page ≡ 32 + k / 16
  pub breaks : is_interval_record (interval_record b k) ≡ false

-- The page has the record where the search for a page of the root ended: its key is at most that page, and the next one's, if there
-- is one, is above it. It is no interval that has the page.
pub record Misses (count : ℕ) (b : List ℕ) (page k asked : ℕ) : Type 0 where
  pub counted : k < count
  pub on : page ≡ 32 + k / 16
  pub begins : at_most (key_in b k) (to_be_bytes w32 asked) ≡ true
  pub ends : k + 1 < count → at_most (key_in b (k + 1)) (to_be_bytes w32 asked) ≡ false
  pub misses : has_page asked (interval_in (interval_record b k)) ≡ false

-- The page has the first record, whose key is above the page that was looked up.
pub record BeginsAfter (b : List ℕ) (page asked : ℕ) : Type 0 where
  pub on : page ≡ 32
  pub after : at_most (key_in b 0) (to_be_bytes w32 asked) ≡ false

-- a page of the hierarchy breaks its form
abbrev pub BreaksHierarchy : List ℕ → ℕ → Type 0
BreaksHierarchy b page = (h : ℕ) × BreaksSlot b page h

-- a page of a projection of so many records breaks its form
abbrev pub BreaksProjection : ℕ → List ℕ → ℕ → Type 0
BreaksProjection count b page = (k : ℕ) × BreaksInterval count b page k

-- a page of either breaks its form
abbrev pub Breaks : ℕ → List ℕ → ℕ → Type 0
Breaks count b page = BreaksHierarchy b page ⊎ BreaksProjection count b page

-- a page of the projection breaks its form, or has no interval for the page that was looked up
abbrev pub BreaksLookUp : ℕ → ℕ → List ℕ → ℕ → Type 0
BreaksLookUp asked count b page = BreaksProjection count b page ⊎ (((k : ℕ) × Misses count b page k asked) ⊎ BeginsAfter b page asked)

-- so does a page of either
abbrev pub BreaksFor : ℕ → ℕ → List ℕ → ℕ → Type 0
BreaksFor asked count b page = BreaksHierarchy b page ⊎ BreaksLookUp asked count b page

-- a page of the projection breaks its form, or has no interval for the page that is given, if one is
abbrev pub BreaksAt : Option ℕ → ℕ → List ℕ → ℕ → Type 0
BreaksAt None count b page = BreaksProjection count b page
BreaksAt (Some asked) count b page = BreaksLookUp asked count b page

-- The page is the first of the projection: the parts of an interval around a space, in the place of the interval itself, would
-- make more than 1,023 intervals of so many.
abbrev pub IsOverfull : ℕ → Space → Interval → ℕ → Type 0
IsOverfull count x i page = (page ≡ 32) × (1024 < count + length (pieces x i))

-- an interval in form has all pages of a space that is to come into it
pub record MaySplit (i : Interval) (x : Space) : Type 0 where
  pub form : in_form i ≡ true
  pub handle : x.handle ≤ 511
  pub some : 1 ≤ x.pages
  pub inside : (i.first ≤ x.first) × (end x ≤ end_of i)

-- A space of so many pages, at the given first page or at the first one of a gap, would come into an interval of its parent, one
-- of so many that were read, and make too many of them.
pub record MakesTooMany (count : ℕ) (b : List ℕ) (parent pages : ℕ) (first : Option ℕ) (page : ℕ) : Type 0 where
  pub space : Space
  pub interval : Interval
  pub recorded : IsRecorded count b interval
  pub own : interval.space ≡ parent
  pub long : space.pages ≡ pages
  pub placed : space.first ≡ option_map_or (λ p. p) first interval.first
  pub inside : (interval.first ≤ space.first) × (end space ≤ end_of interval)
  pub overfull : IsOverfull count space interval page
