-- Intervals as the entries of a table: their keys are their first pages.
use Rattle.std.specs.Prelude.{◌≡◌, ℕ, suc, ◌^◌, ◌<◌, ◌≤◌, ◌==◌, if◌then◌else◌, unwrap_or, List, [], ◌∷◌, ◌++◌, length, map, replicate, Option, Some, None, IfSome, slice_get}
use Rattle.std.specs.Option.{option_map_or}
use Rattle.byteorder.specs.Endian.{big_bytes}
use Rattle.flat_mem.specs.Order.{IsInKeyOrder, IsLastAtMost, NoneAtMost, IsAfter}
use Rattle.flat_machine.specs.declared.space.Space.{Space}
use Rattle.flat_machine.specs.Space.{root_pages}
use Rattle.flat_machine.specs.declared.space.Window.{Window}
use Rattle.record_table.specs.Field.{field}
use Rattle.swap_units.specs.declared.mode.Mode.{Mode}
use Rattle.swap_units.specs.declared.mode.Mode.TheVariants.{Unmapped, Mapped}
use Rattle.swap_units.specs.Mode.{code_of, mode_in}
use Rattle.projection_laws.specs.Sight.{Interval, AreIntervals, end_of, mode_through}

-- the 32 bytes of an interval
abbrev pub bytes_of : Interval → List ℕ
bytes_of x =
    big_bytes 4 x.first ++ (big_bytes 4 x.pages ++ (big_bytes 2 x.space ++ (x.unit ∷ code_of x.mode ∷ (big_bytes 4 x.start ++ (big_bytes 8 x.id ++ (big_bytes 4 x.page ++ (big_bytes 2 x.mapped ++ (0 ∷ 0 ∷ []))))))))

-- the mode of a byte; a record with a byte that is that of no mode is out of form
abbrev pub mode_at : ℕ → Mode
mode_at code = unwrap_or (mode_in code) Unmapped

-- the interval in 32 bytes
abbrev pub interval_in : List ℕ → Interval
interval_in b = record {
  first = field 4 0 b;
  pages = field 4 4 b;
  space = field 2 8 b;
  unit = field 1 10 b;
  mode = mode_at (field 1 11 b);
  start = field 4 12 b;
  id = field 8 16 b;
  page = field 4 24 b;
  mapped = field 2 28 b;
}

-- the numbers of an interval fit their fields
pub record IsTyped (x : Interval) : Type 0 where
  pub first : x.first < 2 ^ 32
  pub pages : x.pages < 2 ^ 32
  pub space : x.space < 2 ^ 16
  pub unit : x.unit < 256
  pub start : x.start < 2 ^ 32
  pub id : x.id < 2 ^ 64
  pub page : x.page < 2 ^ 32
  pub mapped : x.mapped < 2 ^ 16

abbrev pub IntervalReadsBack : Type 0
IntervalReadsBack = (x : Interval) → IsTyped x → (interval_in (bytes_of x) ≡ x) × (length (bytes_of x) ≡ 32)

-- Records of the hierarchy.

-- the byte of a window's mode, or of none
abbrev pub mode_number : Option Window → ℕ
mode_number w = code_of (mode_through w)

-- the 32 bytes of a handle's record
abbrev pub slot_bytes : Option Space → List ℕ
slot_bytes None = replicate 32 0
slot_bytes (Some s) =
    1 ∷ s.unit ∷ mode_number s.window ∷ 0 ∷ (big_bytes 2 s.parent ++ (0 ∷ 0 ∷ (big_bytes 4 s.first ++ (big_bytes 4 s.pages
    ++ (big_bytes 8 (option_map_or (λ w. w.file) s.window 0) ++ (big_bytes 4 (option_map_or (λ w. w.first) s.window 0) ++ (0 ∷ 0 ∷ 0 ∷ 0 ∷ [])))))))

-- the window of a mode, an identifier and a first file page
abbrev pub window_in : Mode → ℕ → ℕ → Option Window
window_in Unmapped file first = None
window_in (Mapped writable anonymous) file first = Some (record { file = file; first = first; writable = writable; anonymous = anonymous })

-- the space in a handle's record
abbrev pub space_in : ℕ → List ℕ → Space
space_in handle b = record {
  handle = handle;
  parent = field 2 4 b;
  first = field 4 8 b;
  pages = field 4 12 b;
  unit = field 1 1 b;
  window = window_in (mode_at (field 1 2 b)) (field 8 16 b) (field 4 24 b);
}

-- the space of a handle, or none
abbrev pub slot_in : ℕ → List ℕ → Option Space
slot_in handle b = if field 1 0 b == 0 then None else Some (space_in handle b)

-- the numbers of a space fit their fields
pub record IsTypedSpace (s : Space) : Type 0 where
  pub parent : s.parent < 2 ^ 16
  pub first : s.first < 2 ^ 32
  pub pages : s.pages < 2 ^ 32
  pub unit : s.unit < 256
  pub window : IfSome s.window (λ w. (w.file < 2 ^ 64) × (w.first < 2 ^ 32))

abbrev pub SlotReadsBack : Type 0
SlotReadsBack = (s : Space) → IsTypedSpace s → (slot_in s.handle (slot_bytes (Some s)) ≡ Some s) × (slot_in s.handle (slot_bytes None) ≡ None)

-- the entries rise
abbrev pub EntriesRise : Type 0
EntriesRise = (ss : List Space) (xs : List Interval) → AreIntervals ss xs → IsInKeyOrder 4 (map bytes_of xs)

-- the interval at an index holds the page
abbrev pub HoldsAt : List Interval → ℕ → ℕ → Type 0
HoldsAt xs k page = (x : Interval) × (slice_get xs k ≡ Some x) × (x.first ≤ page) × (page < end_of x)

-- the last entry whose key is at most a page of the root is the interval that holds the page
abbrev pub LookedUpHolds : Type 0
LookedUpHolds = (ss : List Space) (xs : List Interval) (page k : ℕ) → AreIntervals ss xs → page < root_pages
    → IsLastAtMost 4 (map bytes_of xs) (big_bytes 4 page) k → HoldsAt xs k page

-- and there is one
abbrev pub SomeIsLookedUp : Type 0
SomeIsLookedUp = (ss : List Space) (xs : List Interval) (page : ℕ) → AreIntervals ss xs → page < root_pages → NoneAtMost 4 (map bytes_of xs) (big_bytes 4 page) → ⊥

-- An entry goes directly after the one at k, where its first page lies between that one's and the next one's.
abbrev pub PlacedAfter : Type 0
PlacedAfter = (xs : List Interval) (k at : ℕ) (i new : Interval) → ((j : ℕ) (x : Interval) → slice_get xs j ≡ Some x → x.first < 2 ^ 32) → new.first < 2 ^ 32
    → slice_get xs k ≡ Some i → i.first ≤ new.first → ((x : Interval) → slice_get xs (suc k) ≡ Some x → new.first < x.first)
    → at ≤ length (map bytes_of xs) → IsAfter 4 (map bytes_of xs) (big_bytes 4 new.first) at → at ≡ suc k
