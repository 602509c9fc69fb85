-- The memory that a disk and the frames over it make together.
use Rattle.std.specs.Prelude.{◌≡◌, ◌≢◌, ℕ, true, List, map, Some, slice_get}
use Rattle.labelled_disk.specs.declared.label.Label.{Label}
use Rattle.labelled_disk.specs.Label.{names}
use Rattle.labelled_disk.specs.Sectors.{Sector}
use Rattle.labelled_disk.specs.State.{DiskState}
use Rattle.frame_pool.specs.Frames.{Frame, Slots, Has}
use Rattle.swapper_kernel.specs.Homes.{wanted_at}

-- the labels of sectors, in order
abbrev pub labels_of : List Sector → List Label
labels_of sectors = map (λ s. s.0) sectors

-- a frame stands in the memory at its home, whose label names its page
pub record IsHome (memory : List Sector) (f : Frame) : Type 0 where
  pub label : Label
  pub keeps : slice_get memory f.home.sector ≡ Some (label, f.bytes)
  pub named : names label (wanted_at f.home) ≡ true

-- no dirty frame is over the sector
abbrev pub IsClean : Slots → ℕ → Type 0
IsClean slots sector = (i : ℕ) (f : Frame) → Has slots i f → f.dirty ≡ true → f.home.sector ≢ sector

-- With each frame laid over its home, the sectors of the disk are this memory.
pub record IsMerged (sectors : List Sector) (slots : Slots) (memory : List Sector) : Type 0 where
  pub labels : labels_of memory ≡ labels_of sectors
  pub frames : (i : ℕ) (f : Frame) → Has slots i f → IsHome memory f
  pub clean : (k : ℕ) → IsClean slots k → slice_get memory k ≡ slice_get sectors k

-- the disk reveals its contents, and with the frames these are this memory
pub record Stands (disk : DiskState) (slots : Slots) (memory : List Sector) : Type 0 where
  pub sectors : List Sector
  pub revealed : disk.contents ≡ Some sectors
  pub merged : IsMerged sectors slots memory
