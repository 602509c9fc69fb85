-- Homes of pages in a row.
use Rattle.std.specs.Prelude.{◌≡◌, ℕ, ◌+◌, ◌<◌, true, List, length, Some, slice_get, take}
use Rattle.frame_pool.specs.declared.home.Home.{Home}
use Rattle.file_map.specs.FileMap.{Triples}
use Rattle.fault_core.specs.declared.homes.Homes.{Homes}

abbrev pub homes_in : Homes → List Home
homes_in h = take h.count h.homes

-- so many homes, of the pages of a file from the first one on
pub record AreHomesOf (id first pages : ℕ) (homes : List Home) : Type 0 where
  pub count : length homes ≡ pages
  pub each : (j : ℕ) (h : Home) → slice_get homes j ≡ Some h → (h.id ≡ id) × (h.page ≡ first + j)

-- each of these pages has a sector
abbrev pub HaveSectors : Triples → ℕ → ℕ → ℕ → Type 0
HaveSectors named id first pages = (j : ℕ) → j < pages → (sector : ℕ) × (named id (first + j) sector ≡ true)
