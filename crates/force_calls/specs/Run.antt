-- Frames of a run of a file's pages.
use Rattle.std.specs.Prelude.{◌≡◌, ◌+◌, ◌-◌, ◌&&◌, ◌==◌, nat_le, nat_lt, ℕ, Bool, false, if◌then◌else◌, [], ◌∷◌, Option, Some, None, slice_get}
use Rattle.labelled_disk.specs.State.{DiskState}
use Rattle.frame_pool.specs.declared.home.Home.{Home}
use Rattle.frame_pool.specs.Frames.{Frame, Slots, Has, IsOutside, IsWithin, is_kept}
use Rattle.swapper_kernel.specs.Homes.{no_home}
use Rattle.swapper_kernel.specs.Steps.{Steps}

-- whether the home is that of a page of the run
abbrev pub is_within : ℕ → ℕ → ℕ → Home → Bool
is_within id first pages home = (home.id == id) && nat_le first home.page && nat_lt (home.page - first) pages

-- where the frame is of the run, whether it is dirty
abbrev pub dirty_within : ℕ → ℕ → ℕ → Option Frame → Option Bool
dirty_within id first pages None = None
dirty_within id first pages (Some f) = if is_kept id first pages (Some f) then Some f.dirty else None

-- whether it is a dirty frame of the run
abbrev pub is_dirty_in : ℕ → ℕ → ℕ → Option Frame → Bool
is_dirty_in id first pages None = false
is_dirty_in id first pages (Some f) = f.dirty && is_kept id first pages (Some f)

-- how many dirty frames of the run there are
abbrev pub dirty_count : ℕ → ℕ → ℕ → Slots → ℕ
dirty_count id first pages [] = 0
dirty_count id first pages (x ∷ s) = (if is_dirty_in id first pages x then 1 else 0) + dirty_count id first pages s

-- how many looks find all frames of so many pages: one at each page, or one at each slot
abbrev pub looks_of : Bool → ℕ → ℕ → ℕ
looks_of by_page pages slots = if by_page then pages else slots

-- the look that finds the frame in this slot, among those for a run from the first page on
abbrev pub look_at : Bool → ℕ → ℕ → Home → ℕ
look_at by_page first slot home = if by_page then home.page - first else slot

-- each slot without a page of the run has what it had, and each frame the home and bytes of one that was there
pub record OnlyRun (id first pages : ℕ) (before after : Slots) : Type 0 where
  pub others : (i : ℕ) → IsOutside before i id first pages → slice_get after i ≡ slice_get before i
  pub frames : (i : ℕ) (f : Frame) → Has after i f → (g : Frame) × Has before i g × (g.home ≡ f.home) × (g.bytes ≡ f.bytes)

-- each frame stays where it is, with its bytes
abbrev pub Stay : Slots → Slots → Type 0
Stay before after = (i : ℕ) (f : Frame) → Has before i f → (g : Frame) × Has after i g × (g.home ≡ f.home) × (g.bytes ≡ f.bytes)

-- Frames of the run were written to their homes until none was dirty. Only then were frames of the run given up.
pub record Evicts (id first pages : ℕ) (old : DiskState) (before : Slots) (new : DiskState) (after : Slots) : Type 0 where
  pub middle : Slots
  pub steps : Steps no_home no_home old before new middle
  pub clean : (i : ℕ) (f : Frame) → Has middle i f → IsWithin id first pages f.home → f.dirty ≡ false
  pub run : OnlyRun id first pages middle after
