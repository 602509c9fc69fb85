-- The pages of a map, as the disk and the frames over it show them.
use Rattle.std.specs.Prelude.{◌≡◌, ℕ, ◌<◌, ◌+◌, ◌*◌, ◌==◌, ◌&&◌, Bool, nat_le, nat_lt, if◌then◌else◌, List, [], length, take, drop, Some, slice_get}
use Rattle.std.specs.List.{flat_map}
use Rattle.labelled_disk.specs.declared.label.Label.{Label}
use Rattle.labelled_disk.specs.declared.layout.Layout.{Layout}
use Rattle.labelled_disk.specs.declared.evidence.Halt.{Halt}
use Rattle.labelled_disk.specs.declared.evidence.Halt.TheVariants.{Disk}
use Rattle.labelled_disk.specs.Sectors.{Sector}
use Rattle.labelled_disk.specs.State.{DiskState}
use Rattle.frame_pool.specs.Frames.{Slots}
use Rattle.flat_mem.specs.Memory.{part}
use Rattle.swapper_kernel.specs.declared.manager.Manager.{Manager}
use Rattle.swapper_kernel.specs.Maps.{id_of, pages_of, start_of, IsMapHome}
use Rattle.swapper_kernel.specs.Homes.{AreNamed, Brings, no_home}
use Rattle.swapper_kernel.specs.Stands.{Stands}
use Rattle.swapper_kernel.specs.Differs.{Differs}
use Rattle.swapper_kernel.specs.Goes.{Goes, Pages, Swaps}
use Rattle.swapper_kernel.specs.Steps.{Steps}
use Rattle.swapper_kernel.specs.Halts.{Halts}

-- the sector has this page
pub record IsPage (memory : List Sector) (sector : ℕ) (page : List ℕ) : Type 0 where
  pub label : Label
  pub keeps : slice_get memory sector ≡ Some (label, page)

-- the pages of the map are these bytes
pub record Shows (which : Manager) (memory : List Sector) (layout : Layout) (b : List ℕ) : Type 0 where
  pub count : length b ≡ 512 * pages_of which layout
  pub page : (k : ℕ) → k < pages_of which layout → IsPage memory (start_of which layout + k) (part b (512 * k) 512)

-- the pages of sectors, one after the other
abbrev pub bytes_of : List Sector → List ℕ
bytes_of sectors = flat_map (λ (s : Sector). s.1) sectors

-- those of the map's sectors
abbrev pub map_bytes : Manager → Layout → List Sector → List ℕ
map_bytes which layout memory = bytes_of (take (pages_of which layout) (drop (start_of which layout) memory))

-- how many bytes they are, on a disk of this many sectors
abbrev pub size_in : Manager → ℕ → Layout → ℕ
size_in which sectors layout = if sectors == layout.sectors then 512 * pages_of which layout else 0

-- the disk reveals its contents, and with the frames over it the pages of the map are these bytes
pub record Reveals (which : Manager) (disk : DiskState) (slots : Slots) (layout : Layout) (b : List ℕ) : Type 0 where
  pub memory : List Sector
  pub stands : Stands disk slots memory
  pub shows : Shows which memory layout b
  pub size : disk.sectors ≡ layout.sectors

-- whether the sector is one of the map's
abbrev pub in_map : Manager → Layout → ℕ → Label → Bool
in_map which layout place label = nat_le (start_of which layout) place && nat_lt place (start_of which layout + pages_of which layout)

-- the pages of the map
abbrev pub map_pages : Manager → Pages
map_pages which id page = id ≡ id_of which

-- What accesses to a map's pages do to all else: nothing of it changes, but for what swapping is.
pub record Beside (which : Manager) (old : DiskState) (before : Slots) (place : Layout) (new : DiskState) (after : Slots) (later : Layout) : Type 0 where
  pub goes : Goes (Differs (in_map which place)) (map_pages which) [] old before new after
  pub brings : Brings (IsMapHome which place) before after
  pub steps : Steps (IsMapHome which place) (IsMapHome which place) old before new after
  pub layout : later ≡ place

-- What looks at a map's pages do: some of them may have come into frames, and the memory is the same. No frame is dirty
-- that was clean, and nothing is written but pages of frames that were dirty.
pub record Looked (which : Manager) (old : DiskState) (before : Slots) (place : Layout) (new : DiskState) (after : Slots) (later : Layout) : Type 0 where
  pub swaps : Swaps old before new after
  pub brings : Brings (IsMapHome which place) before after
  pub steps : Steps (IsMapHome which place) no_home old before new after
  pub layout : later ≡ place

-- A halt has its cause, and where the labels of the map's sectors name its pages it is a fault of the disk.
pub record IsAccounted (which : Manager) (old : DiskState) (before : Slots) (layout : Layout) (new : DiskState) (halt : Halt) : Type 0 where
  pub cause : Halts (IsMapHome which layout) old before new halt
  pub sound : (m : List Sector) → Stands old before m → AreNamed m (IsMapHome which layout) → halt ≡ Disk
