-- Pages that are brought in together.
use Rattle.std.specs.Prelude.{◌≡◌, ℕ, ◌<◌, ◌≤◌, List, length, Some, slice_get}
use Rattle.labelled_disk.specs.declared.layout.Layout.{Layout}
use Rattle.labelled_disk.specs.Sectors.{Sector}
use Rattle.frame_pool.specs.declared.home.Home.{Home}
use Rattle.frame_pool.specs.Frames.{Slots, Frame, Has, HasPage, IsOf, IsWithin}
use Rattle.swapper_kernel.specs.Homes.{AreFileHomes, IsRow}
use Rattle.swapper_kernel.specs.Stands.{IsHome}

-- homes of 1 to 16 pages in a row of one file, on data sectors
pub record IsFileRun (list : List Home) (layout : Layout) : Type 0 where
  pub some : 1 ≤ length list
  pub few : length list ≤ 16
  pub row : IsRow list
  pub homes : AreFileHomes list layout

-- the pages of the first n homes are in slots
abbrev pub AreThere : Slots → List Home → ℕ → Type 0
AreThere slots homes n = (k : ℕ) (h : Home) → k < n → slice_get homes k ≡ Some h → (i : ℕ) × HasPage slots i h.id h.page

-- a slot has the page of the home, as the memory has it
pub record IsShown (slots : Slots) (memory : List Sector) (home : Home) : Type 0 where
  pub slot : ℕ
  pub frame : Frame
  pub has : Has slots slot frame
  pub is : IsOf frame home.id home.page
  pub at : IsHome memory frame

-- each frame of the run is where it was, dirty or clean
abbrev pub KeepsRun : Slots → Slots → ℕ → ℕ → ℕ → Type 0
KeepsRun before after id first pages = (i : ℕ) (f : Frame) → Has before i f → IsWithin id first pages f.home → Has after i f
