-- The two maps of a volume: their identifiers, their pages, and where the layout has these.
use Rattle.std.specs.Prelude.{◌≡◌, ◌+◌, ◌<◌, ℕ}
use Rattle.labelled_disk.specs.declared.layout.Layout.{Layout}
use Rattle.frame_pool.specs.declared.home.Home.{Home}
use Rattle.swapper_kernel.specs.declared.manager.Manager.{Manager}
use Rattle.swapper_kernel.specs.declared.manager.Manager.TheVariants.{AllocationMap, FileMap}

-- the identifier of a map
abbrev pub id_of : Manager → ℕ
id_of AllocationMap = 1
id_of FileMap = 2

-- how many pages it has
abbrev pub pages_of : Manager → Layout → ℕ
pages_of AllocationMap layout = layout.vam
pages_of FileMap layout = layout.vfm

-- the sector of its first page
abbrev pub start_of : Manager → Layout → ℕ
start_of AllocationMap layout = 1
start_of FileMap layout = 1 + layout.vam

-- the home of one of its pages
abbrev pub map_home : Manager → Layout → ℕ → Home
map_home which layout page = record { sector = start_of which layout + page; id = id_of which; page = page }

-- the home is that which the layout gives to a page of the map
abbrev pub IsMapHome : Manager → Layout → Home → Type 0
IsMapHome which layout home = (page : ℕ) × (page < pages_of which layout) × (home ≡ map_home which layout page)
