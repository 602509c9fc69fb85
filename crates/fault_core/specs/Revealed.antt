-- What a session knows of a filer whose disk reveals its contents.
use Rattle.std.specs.Prelude.{◌≡◌, ℕ, ◌*◌, ◌<◌, ◌≤◌, true, List, length, Some, slice_get}
use Rattle.labelled_disk.specs.declared.layout.Layout.{Layout}
use Rattle.labelled_disk.specs.Label.{is_file_id}
use Rattle.labelled_disk.specs.Sectors.{Sector, AreSectors}
use Rattle.flat_mem.specs.Memory.{part}
use Rattle.file_map.specs.FileMap.{Triples}
use Rattle.flat_machine.specs.declared.space.Space.{Space}
use Rattle.flat_machine.specs.declared.space.FilePage.{FilePage}
use Rattle.flat_machine.specs.At.{shown_at}
use Rattle.flat_machine.specs.Space.{root_pages}
use Rattle.swap_units.specs.declared.interval.Interval.{Interval}
use Rattle.projection_laws.specs.Sight.{AreIntervals}
use Rattle.space_tables.specs.Form.{BreaksLookUp}
use Rattle.space_tables.specs.Stored.{RevealSpaces}
use Rattle.swapper_kernel.specs.declared.manager.Manager.TheVariants.{FileMap}
use Rattle.swapper_kernel.specs.Maps.{IsMapHome}
use Rattle.swapper_kernel.specs.Homes.{AreNamed, IsNamed}
use Rattle.swapper_kernel.specs.Stands.{Stands}
use Rattle.filer_kernel.specs.Triples.{MapIs, AreOf}
use Rattle.filer_kernel.specs.Tables.{AreOverTables, IsTablePage}
use Rattle.fault_core.specs.Kept.{IsKept}
use Rattle.filer_kernel.specs.View.{View, kept_by, TablesAre}

-- each data sector whose label has the identifier of the space tables is where the file map has one of their pages
abbrev pub IsTabled : Layout → Triples → List Sector → Type 0
IsTabled layout named memory = (k : ℕ) (s : Sector) → layout.first ≤ k → slice_get memory k ≡ Some s → s.0.id ≡ 3 → (s.0.page < 96) × (named 3 s.0.page k ≡ true)

-- Disk and frames make this memory of whole sectors. Its file map is in form and names these triples, the labels of the map's
-- sectors name its pages, the runs that are kept are the map's, the space tables are these bytes, and frames of their pages are
-- where the map has them.
pub record Known (v : View) (memory : List Sector) (named : Triples) (b : List ℕ) : Type 0 where
  pub stands : Stands v.disk v.slots memory
  pub size : v.disk.sectors ≡ v.layout.sectors
  pub long : length memory ≡ v.layout.sectors
  pub sectors : AreSectors memory
  pub map : MapIs v.layout named memory
  pub map_labels : AreNamed memory (IsMapHome FileMap v.layout)
  pub runs : AreOf named (kept_by v)
  pub tabled : IsTabled v.layout named memory
  pub count : length b ≡ 512 * 96
  pub page : (k : ℕ) → k < 96 → IsTablePage v.layout named memory k (part b (512 * k) 512)
  pub held : AreOverTables v.slots named

-- the page is one of a file, and has a sector, whose label names it
pub record IsStored (named : Triples) (memory : List Sector) (page : FilePage) : Type 0 where
  pub sector : ℕ
  pub found : named page.file page.page sector ≡ true
  pub is_named : IsNamed memory (record { sector = sector; id = page.file; page = page.page })
  pub of_file : is_file_id page.file ≡ true

-- each page that a window shows has one
abbrev pub AreStored : Triples → List Sector → List Space → Type 0
AreStored named memory spaces = (p : ℕ) (page : FilePage) → shown_at spaces p ≡ Some page → IsStored named memory page

-- one of the intervals of the spaces
pub record IsIntervalOf (spaces : List Space) (x : Interval) : Type 0 where
  pub xs : List Interval
  pub projection : AreIntervals spaces xs
  pub index : ℕ
  pub there : slice_get xs index ≡ Some x

-- That, and the space tables are those of these spaces, with so many intervals; the intervals that are kept are among them,
-- and each page that a window shows has its sector.
pub record Revealed (v : View) (kept : List Interval) (count : ℕ) (memory : List Sector) (named : Triples) (spaces : List Space) : Type 0 where
  pub bytes : List ℕ
  pub known : Known v memory named bytes
  pub tables : RevealSpaces (λ b. b ≡ bytes) count spaces
  pub cached : (x : Interval) → IsKept kept x → IsIntervalOf spaces x
  pub stored : AreStored named memory spaces

-- a page of the root was looked up, and where the tables are revealed, a page of them breaks its form for that
pub record BreaksTables (v : View) (count asked page : ℕ) : Type 0 where
  pub in_root : asked < root_pages
  pub breaks : (b : List ℕ) → TablesAre v b → BreaksLookUp asked count b page
