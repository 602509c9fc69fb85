-- The slots of a pool: each is empty or has a frame.
use Rattle.std.specs.Prelude.{◌≡◌, ◌<◌, ◌≤◌, ◌+◌, ◌-◌, nat_le, nat_lt, ◌==◌, ◌&&◌, ℕ, Bool, true, false, List, length, Option, Some, None, slice_get, slice_index_or, slice_set, option_map, All}
use Rattle.flat_mem.specs.Memory.{overwritten}
use Rattle.frame_pool.specs.declared.home.Home.{Home}

-- a page of a file, its home, and whether the home may have other bytes
pub record Frame : Type 0 where
  pub home : Home
  pub dirty : Bool
  pub bytes : List ℕ

abbrev pub Slots : Type 0
Slots = List (Option Frame)

-- the slot has this frame
pub record Has (slots : Slots) (slot : ℕ) (frame : Frame) : Type 0 where
  pub is : slice_get slots slot ≡ Some (Some frame)

-- 512 bytes
abbrev pub IsPageBytes : List ℕ → Type 0
IsPageBytes page = (length page ≡ 512) × All (λ b. b < 256) page

-- the bytes of each frame are those of a page
abbrev pub ArePages : Slots → Type 0
ArePages slots = (slot : ℕ) (frame : Frame) → Has slots slot frame → IsPageBytes frame.bytes

-- the frame of the slot, or none
abbrev pub frame_at : Slots → ℕ → Option Frame
frame_at slots slot = slice_index_or slots slot None

-- what is shown of a frame: its home, and whether it is dirty
abbrev pub shown : Frame → Home × Bool
shown frame = (frame.home, frame.dirty)

-- the frame of a page that was just read
abbrev pub new_frame : Home → List ℕ → Frame
new_frame home bytes = record { home = home; dirty = false; bytes = bytes }

-- the frame with these bytes over those from `at` on, dirty
abbrev pub changed : Frame → ℕ → List ℕ → Frame
changed frame at bytes = record frame { dirty = true; bytes = overwritten frame.bytes at bytes }

-- the frame, whose home has the same bytes
abbrev pub clean : Frame → Frame
clean frame = record frame { dirty = false }

-- the slots with these bytes over those of one slot's frame from `at` on
abbrev pub changed_at : Slots → ℕ → ℕ → List ℕ → Slots
changed_at slots slot at bytes = slice_set slots slot (option_map (λ frame. changed frame at bytes) (frame_at slots slot))

-- the slots with one slot's frame clean
abbrev pub cleaned_at : Slots → ℕ → Slots
cleaned_at slots slot = slice_set slots slot (option_map clean (frame_at slots slot))

-- the slot is there and has no frame
abbrev pub IsEmpty : Slots → ℕ → Type 0
IsEmpty slots slot = slice_get slots slot ≡ Some None

-- the frame is that of this page of this file
abbrev pub IsOf : Frame → ℕ → ℕ → Type 0
IsOf frame id page = (frame.home.id ≡ id) × (frame.home.page ≡ page)

-- whether the slot has the frame of this page of this file
abbrev pub is_of : ℕ → ℕ → Option Frame → Bool
is_of id page None = false
is_of id page (Some frame) = (frame.home.id == id) && (frame.home.page == page)

-- the slot has the frame of the page
abbrev pub HasPage : Slots → ℕ → ℕ → ℕ → Type 0
HasPage slots slot id page = (frame : Frame) × Has slots slot frame × IsOf frame id page

-- no slot has the page
abbrev pub IsNowhere : Slots → ℕ → ℕ → Type 0
IsNowhere slots id page = (slot : ℕ) (frame : Frame) → Has slots slot frame → frame.home.id ≡ id → frame.home.page ≡ page → ⊥

-- no page is in two slots
abbrev pub HasDistinct : Slots → Type 0
HasDistinct slots =
    (i j : ℕ) (f g : Frame) → Has slots i f → Has slots j g → f.home.id ≡ g.home.id → f.home.page ≡ g.home.page → i ≡ j

-- the home is that of one of so many pages of the file, from the first one on
abbrev pub IsWithin : ℕ → ℕ → ℕ → Home → Type 0
IsWithin id first pages home = (home.id ≡ id) × (first ≤ home.page) × (home.page < first + pages)

-- whether the slot has one of so many pages of the file, from the first one on
abbrev pub is_kept : ℕ → ℕ → ℕ → Option Frame → Bool
is_kept id first pages None = false
is_kept id first pages (Some frame) = (frame.home.id == id) && nat_le first frame.home.page && nat_lt (frame.home.page - first) pages

-- the slot has no page of the run
abbrev pub IsOutside : Slots → ℕ → ℕ → ℕ → ℕ → Type 0
IsOutside slots slot id first pages = (frame : Frame) → Has slots slot frame → IsWithin id first pages frame.home → ⊥
