-- What the allocation map of a memory says: which sectors are used.
use Rattle.std.specs.Prelude.{◌≡◌, ℕ, ◌+◌, ◌-◌, ◌≤◌, ◌<◌, Bool, true, false, not, ◌&&◌, nat_le, nat_lt, if◌then◌else◌, List, count_by}
use Rattle.std.specs.List.{range_with_len}
use Rattle.labelled_disk.specs.declared.layout.Layout.{Layout}
use Rattle.labelled_disk.specs.Sectors.{Sector}
use Rattle.alloc_map.specs.Bits.{is_used}
use Rattle.swapper_kernel.specs.declared.manager.Manager.TheVariants.{AllocationMap}
use Rattle.swapper_kernel.specs.Window.{Shows}

-- which sectors are used
abbrev pub Marks : Type 0
Marks = ℕ → Bool

-- the map's bits are these
pub record BitsAre (layout : Layout) (marks : Marks) (memory : List Sector) : Type 0 where
  pub bytes : List ℕ
  pub shows : Shows AllocationMap memory layout bytes
  pub are : (sector : ℕ) → marks sector ≡ is_used bytes sector

-- so many sectors from one on are used, or are free, and the others are as they were
abbrev pub marked : Bool → ℕ → ℕ → Marks → Marks
marked used first count marks sector = if nat_le first sector && nat_lt sector (first + count) then used else marks sector

-- all sectors from one up to another are so
abbrev pub AreAll : Bool → Marks → ℕ → ℕ → Type 0
AreAll used marks from end = (sector : ℕ) → from ≤ sector → sector < end → marks sector ≡ used

-- no data sector below this one is free
abbrev pub NoneFreeBelow : Layout → Marks → ℕ → Type 0
NoneFreeBelow layout marks sector = AreAll true marks layout.first sector

-- The sectors of the run are free, and there are no more in a row but for a most.
pub record IsFreeRun (layout : Layout) (marks : Marks) (most : ℕ) (run : ℕ × ℕ) : Type 0 where
  pub free : AreAll false marks run.0 (run.0 + run.1)
  pub longest : run.1 < most → run.0 + run.1 < layout.sectors → marks (run.0 + run.1) ≡ true

-- No data sector below the run is free, and where the run is marked none below `now`.
pub record IsLowestRun (layout : Layout) (marks : Marks) (now : ℕ) (run : ℕ × ℕ) : Type 0 where
  pub before : NoneFreeBelow layout marks run.0
  pub after : NoneFreeBelow layout (marked true run.0 run.1 marks) now

-- how many data sectors are free
abbrev pub free_sectors : Layout → Marks → ℕ
free_sectors layout marks = count_by (λ sector. not (marks sector)) (range_with_len layout.first (layout.sectors - layout.first))
