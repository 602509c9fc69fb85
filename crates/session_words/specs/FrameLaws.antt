-- Which pages have frames: a fact of the slots and the spaces alone.
use Rattle.std.specs.Prelude.{◌≡◌, ◌≢◌, ◌⊎◌, ℕ, ◌≤◌, Bool, true, false, List, Some, slice_get}
use Rattle.std.specs.List.{list_any}
use Rattle.labelled_disk.specs.Sectors.{Sector}
use Rattle.frame_pool.specs.Frames.{Frame, Slots, Has}
use Rattle.flat_machine.specs.declared.space.Space.{Space}
use Rattle.flat_machine.specs.Space.{shows}
use Rattle.swapper_kernel.specs.Homes.{Brings}
use Rattle.swapper_kernel.specs.Stands.{IsMerged}

-- a frame has the page
pub record IsThere (slots : Slots) (id page : ℕ) : Type 0 where
  pub slot : ℕ
  pub frame : Frame
  pub has : Has slots slot frame
  pub same_id : frame.home.id ≡ id
  pub same_page : frame.home.page ≡ page

-- some window shows the page
abbrev pub is_shown : List Space → ℕ → ℕ → Bool
is_shown spaces id page = list_any (shows id page) spaces

-- the page is one of a map or of the space tables, or a window shows it
abbrev pub IsKnown : List Space → ℕ → ℕ → Type 0
IsKnown spaces id page = ((1 ≤ id) × (id ≤ 3)) ⊎ (is_shown spaces id page ≡ true)

-- each frame's page is known
pub record HasFrames (slots : Slots) (spaces : List Space) : Type 0 where
  pub known : (id page : ℕ) → IsThere slots id page → IsKnown spaces id page

-- known pages alone came into frames
abbrev pub BringsKnown : List Space → Slots → Slots → Type 0
BringsKnown spaces before after = Brings (λ home. IsKnown spaces home.id home.page) before after

pub record FrameLaws : Type 0 where
  -- known pages came
  pub brought : (before after : Slots) (spaces : List Space) → BringsKnown spaces before after → HasFrames before spaces → HasFrames after spaces
  -- other windows, that show what has frames
  pub mapped : (slots : Slots) (spaces others : List Space) → ((id page : ℕ) → IsThere slots id page → is_shown spaces id page ≡ true → is_shown others id page ≡ true)
      → HasFrames slots spaces → HasFrames slots others
  -- no frame is over a free sector, nor over one of a page that no window shows: such a sector may be labelled anew
  pub none_over : (sectors : List Sector) (slots : Slots) (memory : List Sector) (spaces : List Space) (k : ℕ) (s : Sector) → IsMerged sectors slots memory → HasFrames slots spaces
      → slice_get memory k ≡ Some s → is_shown spaces s.0.id s.0.page ≡ false → (s.0.id ≡ 0) ⊎ (16 ≤ s.0.id) → (i : ℕ) (f : Frame) → Has slots i f → f.home.sector ≢ k
