-- Pages that stay in the frames.
use Rattle.std.specs.Prelude.{◌⊎◌, ℕ}
use Rattle.frame_pool.specs.Frames.{Frame, Slots, Has, HasPage, IsEmpty}
use Rattle.fault_core.specs.Reach.{IsManagersPage}
use Rattle.fault_core.specs.Unit.{KeepsResident}

-- each page that is resident stays in its slot
abbrev pub KeepsSlots : Slots → Slots → Type 0
KeepsSlots before after = (i id page : ℕ) → HasPage before i id page → HasPage after i id page

-- While a slot is empty no page leaves: each slot that is empty afterwards was so before, and where there is one, each page
-- that was resident is so still.
pub record KeepsWhileEmpty (before after : Slots) : Type 0 where
  pub empty : (slot : ℕ) → IsEmpty after slot → IsEmpty before slot
  pub resident : (slot : ℕ) → IsEmpty after slot → KeepsResident before after

-- each page stays in its slot, or that slot has a page of the file map or of the space tables afterwards
abbrev pub PagesStayOrYield : Slots → Slots → Type 0
PagesStayOrYield before after = (i id page : ℕ) → HasPage before i id page → HasPage after i id page ⊎ ((g : Frame) × Has after i g × IsManagersPage g.home)
