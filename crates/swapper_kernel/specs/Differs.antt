-- Memories that differ in the pages of some sectors.
use Rattle.std.specs.Prelude.{◌≡◌, ℕ, ◌+◌, ◌&&◌, Bool, true, false, ◌==◌, nat_le, nat_lt, List, Some, slice_get, slice_set}
use Rattle.labelled_disk.specs.declared.label.Label.{Label}
use Rattle.labelled_disk.specs.Label.{names}
use Rattle.labelled_disk.specs.Sectors.{Sector}
use Rattle.frame_pool.specs.declared.home.Home.{Home}
use Rattle.flat_mem.specs.Memory.{overwritten}
use Rattle.swapper_kernel.specs.Homes.{wanted_at}
use Rattle.swapper_kernel.specs.Stands.{labels_of}

-- the labels are the same, and so are the pages of the sectors that don't pass
pub record Differs (test : ℕ → Label → Bool) (m n : List Sector) : Type 0 where
  pub labels : labels_of n ≡ labels_of m
  pub pages : (k : ℕ) (s : Sector) → slice_get m k ≡ Some s → test k s.0 ≡ false → slice_get n k ≡ Some s

-- whether a sector's label is that of one of so many pages of a file, from the first one on
abbrev pub of_run : ℕ → ℕ → ℕ → ℕ → Label → Bool
of_run id first pages place label = (label.id == id) && nat_le first label.page && nat_lt label.page (first + pages)

-- in the sector of a home, whose label names its page, there are these bytes from one on
pub record ChangesAt (home : Home) (at : ℕ) (bytes : List ℕ) (m n : List Sector) : Type 0 where
  pub s : Sector
  pub here : slice_get m home.sector ≡ Some s
  pub named : names s.0 (wanted_at home) ≡ true
  pub is : n ≡ slice_set m home.sector (s.0, overwritten s.1 at bytes)
