-- Homes of frames, and where a layout lets them be.
use Rattle.std.specs.Prelude.{◌≡◌, ◌≢◌, ◌⊎◌, ◌<◌, ◌≤◌, ◌+◌, ℕ, true, List, Some, slice_get}
use Rattle.labelled_disk.specs.declared.label.Wanted.{Wanted}
use Rattle.labelled_disk.specs.declared.layout.Layout.{Layout}
use Rattle.labelled_disk.specs.Label.{names}
use Rattle.labelled_disk.specs.Layout.{IsCount, layout_of}
use Rattle.labelled_disk.specs.Sectors.{Sector}
use Rattle.frame_pool.specs.declared.home.Home.{Home}
use Rattle.frame_pool.specs.Frames.{Slots, Frame, Has}
use Rattle.swapper_kernel.specs.declared.manager.Manager.{Manager}
use Rattle.swapper_kernel.specs.Maps.{id_of, pages_of, start_of}

-- the page of a file that the home is of
abbrev pub wanted_at : Home → Wanted
wanted_at home = record { id = home.id; page = home.page }

-- the wanted page's home, where it is this sector
abbrev pub home_at : ℕ → Wanted → Home
home_at sector wanted = record { sector = sector; id = wanted.id; page = wanted.page }

-- some homes
abbrev pub Homes : Type 1
Homes = Home → Type 0

-- no home
abbrev pub no_home : Homes
no_home home = ⊥

-- one of the homes of the list
abbrev pub IsAmong : List Home → Homes
IsAmong homes home = (k : ℕ) × (slice_get homes k ≡ Some home)

-- the layout is that of its number of sectors
abbrev pub IsLayout : Layout → Type 0
IsLayout layout = IsCount layout.sectors × (layout ≡ layout_of layout.sectors)

-- a page of a map is at home where the layout has it, and each other page on a data sector
pub record IsPlaced (layout : Layout) (home : Home) : Type 0 where
  pub of_map : (which : Manager) → home.id ≡ id_of which → (home.page < pages_of which layout) × (home.sector ≡ start_of which layout + home.page)
  pub of_file : ((which : Manager) → home.id ≢ id_of which) → (layout.first ≤ home.sector) × (home.sector < layout.sectors)

-- each frame's home is placed so
abbrev pub ArePlaced : Slots → Layout → Type 0
ArePlaced slots layout = (i : ℕ) (f : Frame) → Has slots i f → IsPlaced layout f.home

-- a page of a file, or of the space tables, on a data sector
pub record IsFileHome (layout : Layout) (home : Home) : Type 0 where
  pub id : (home.id ≡ 3) ⊎ (16 ≤ home.id)
  pub from : layout.first ≤ home.sector
  pub below : home.sector < layout.sectors

-- each is so
abbrev pub AreFileHomes : List Home → Layout → Type 0
AreFileHomes homes layout = (k : ℕ) (h : Home) → slice_get homes k ≡ Some h → IsFileHome layout h

-- homes of pages in a row of one file
abbrev pub IsRow : List Home → Type 0
IsRow homes = (j k : ℕ) (g h : Home) → slice_get homes j ≡ Some g → slice_get homes k ≡ Some h → (h.id ≡ g.id) × (h.page + j ≡ g.page + k)

-- a frame has this home
pub record IsHeld (slots : Slots) (home : Home) : Type 0 where
  pub slot : ℕ
  pub frame : Frame
  pub has : Has slots slot frame
  pub at : frame.home ≡ home

-- each frame's home is one that a frame had before, or one of these
pub record Brings (come : Homes) (before after : Slots) : Type 0 where
  pub homes : (home : Home) → IsHeld after home → IsHeld before home ⊎ come home

-- the label of the home's sector names its page
pub record IsNamed (memory : List Sector) (home : Home) : Type 0 where
  pub sector : Sector
  pub here : slice_get memory home.sector ≡ Some sector
  pub named : names sector.0 (wanted_at home) ≡ true

-- each of these is named so
abbrev pub AreNamed : List Sector → Homes → Type 0
AreNamed memory homes = (home : Home) → homes home → IsNamed memory home
