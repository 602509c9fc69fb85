-- What moves between disk and slots, and what stays.
use Rattle.std.specs.Prelude.{◌≡◌, ◌≢◌, ℕ, false}
use Rattle.labelled_disk.specs.State.{DiskState}
use Rattle.frame_pool.specs.Frames.{Frame, Slots, Has, IsEmpty}
use Rattle.swapper_kernel.specs.Homes.{Homes, Brings, no_home}
use Rattle.swapper_kernel.specs.Goes.{Swaps}
use Rattle.swapper_kernel.specs.Steps.{Steps}

-- pages of these homes may come into slots, pages of dirty frames are written out, and the memory stays
pub record SwapsFor (come : Homes) (old : DiskState) (before : Slots) (new : DiskState) (after : Slots) : Type 0 where
  pub swaps : Swaps old before new after
  pub steps : Steps come no_home old before new after
  pub brings : Brings come before after

-- each frame had its home and its bytes before, no slot is emptied, and the frames of all slots but this one stay
pub record KeepsFrames (slot : ℕ) (before after : Slots) : Type 0 where
  pub frames : (i : ℕ) (f : Frame) → Has after i f → (g : Frame) × Has before i g × (g.home ≡ f.home) × (g.bytes ≡ f.bytes)
  pub empties : (i : ℕ) → IsEmpty after i → IsEmpty before i
  pub others : (i : ℕ) (f : Frame) → i ≢ slot → Has before i f → Has after i f

-- the slot is empty, or its frame is clean and no slot is empty: a page may be put there
pub record MayBeFilled (slots : Slots) (slot : ℕ) : Type 0 where
  pub clean : (f : Frame) → Has slots slot f → f.dirty ≡ false
  pub full : (f : Frame) → Has slots slot f → (j : ℕ) → IsEmpty slots j → ⊥
