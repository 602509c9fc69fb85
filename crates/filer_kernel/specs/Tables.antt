-- The pages of the space tables, as the file map finds them.
use Rattle.std.specs.Prelude.{◌≡◌, ◌⊎◌, ℕ, ◌*◌, ◌<◌, ◌≤◌, ◌==◌, ◌&&◌, Bool, true, nat_le, if◌then◌else◌, List, [], length, Some, slice_get}
use Rattle.labelled_disk.specs.declared.label.Label.{Label}
use Rattle.labelled_disk.specs.declared.layout.Layout.{Layout}
use Rattle.labelled_disk.specs.declared.evidence.Evidence.{Evidence}
use Rattle.labelled_disk.specs.declared.evidence.Evidence.TheVariants.{Mismatch, Malformed, Missing}
use Rattle.labelled_disk.specs.Structure.{IsOfFileMap}
use Rattle.labelled_disk.specs.declared.evidence.Halt.{Halt}
use Rattle.labelled_disk.specs.declared.evidence.Halt.TheVariants.{Disk, Damaged}
use Rattle.labelled_disk.specs.Label.{names}
use Rattle.labelled_disk.specs.Sectors.{Sector}
use Rattle.labelled_disk.specs.State.{DiskState}
use Rattle.flat_mem.specs.Memory.{part}
use Rattle.frame_pool.specs.declared.home.Home.{Home}
use Rattle.frame_pool.specs.Frames.{Slots}
use Rattle.file_map.specs.declared.run.Run.{Run}
use Rattle.file_map.specs.FileMap.{Triples, IsNowhere}
use Rattle.file_map.specs.Cause.{IsBroken}
use Rattle.swapper_kernel.specs.declared.manager.Manager.TheVariants.{FileMap}
use Rattle.swapper_kernel.specs.Maps.{IsMapHome}
use Rattle.swapper_kernel.specs.Homes.{Homes, IsFileHome, IsHeld, AreNamed, Brings, no_home}
use Rattle.swapper_kernel.specs.Stands.{Stands}
use Rattle.swapper_kernel.specs.Differs.{Differs}
use Rattle.swapper_kernel.specs.Goes.{Goes, Pages, Swaps}
use Rattle.swapper_kernel.specs.Halts.{IsOther, HasCause, held_or}
use Rattle.swapper_kernel.specs.Steps.{Steps}
use Rattle.swapper_kernel.specs.Window.{map_pages}
use Rattle.filer_kernel.specs.declared.cached.CachedRuns.{CachedRuns}
use Rattle.filer_kernel.specs.Cached.{runs_of}
use Rattle.filer_kernel.specs.Triples.{MapIs, AreOf, IsOneOf}
use Rattle.filer_kernel.specs.Causes.{MapShows, IsGiven, IsRunHome}

-- whether a sector is one of the space tables'
abbrev pub in_tables : Layout → ℕ → Label → Bool
in_tables layout place label = nat_le layout.first place && (label.id == 3)

-- the pages of the space tables, and those of the file map, which is searched for them
abbrev pub table_pages : Pages
table_pages id page = (id ≡ 3) ⊎ map_pages FileMap id page

-- a page of the space tables, on a data sector
pub record IsTableHome (layout : Layout) (home : Home) : Type 0 where
  pub of_tables : home.id ≡ 3
  pub on_data : IsFileHome layout home

-- a page of the space tables, where a run of file 3 that was kept, or was read from the map, has it
pub record IsFoundHome (layout : Layout) (disk : DiskState) (slots : Slots) (kept : List Run) (home : Home) : Type 0 where
  pub table : IsTableHome layout home
  pub by_run : IsRunHome layout disk slots kept home

-- a label is another than that of a home of the map, of a frame, or of a page of the space tables where a run has it; or a
-- page of the map breaks its form; or the map has no sector for a page of the space tables
abbrev pub FoundEvidence : Layout → DiskState → Slots → List Run → Evidence → Type 0
FoundEvidence layout disk slots kept (Mismatch sector wanted found) = IsOther (λ home. held_or slots (IsMapHome FileMap layout) home ⊎ IsFoundHome layout disk slots kept home) disk sector wanted found
FoundEvidence layout disk slots kept (Malformed structure page) = IsOfFileMap structure × IsBroken layout.sectors (MapShows layout disk slots) page
FoundEvidence layout disk slots kept (Missing id page) = (id ≡ 3) × (page < 96) × ((m : List Sector) (named : Triples) → Stands disk slots m → MapIs layout named m → IsNowhere named id page)

-- the halt of a call that touches a page where the map says that it stands
abbrev pub FoundHalts : Layout → DiskState → Slots → List Run → DiskState → Halt → Type 0
FoundHalts layout old before kept new halt = HasCause (FoundEvidence layout old before kept) old new halt

-- where the halt is that the map has no sector for a page, it is this page of the space tables
abbrev pub IfMissing : ℕ → Halt → Type 0
IfMissing page Disk = Unit {0}
IfMissing page (Damaged (Mismatch sector wanted found)) = Unit {0}
IfMissing page (Damaged (Malformed structure broken)) = Unit {0}
IfMissing page (Damaged (Missing id missing)) = (id ≡ 3) × (missing ≡ page)

-- such a page, or one of the file map at its home
abbrev pub IsComing : Layout → DiskState → Slots → List Run → Homes
IsComing layout disk slots kept home = IsMapHome FileMap layout home ⊎ IsFoundHome layout disk slots kept home

-- a page of the space tables, or one of the file map at its home
abbrev pub IsChanging : Layout → Homes
IsChanging layout home = IsMapHome FileMap layout home ⊎ IsTableHome layout home

-- in this sector, as the map says, stands page k with these bytes, and its label names it
pub record IsTablePage (layout : Layout) (named : Triples) (memory : List Sector) (k : ℕ) (page : List ℕ) : Type 0 where
  pub sector : ℕ
  pub label : Label
  pub found : named 3 k sector ≡ true
  pub keeps : slice_get memory sector ≡ Some (label, page)
  pub named_so : names label (record { id = 3; page = k }) ≡ true

-- each frame of one of the pages of the space tables is over the sector where the map has that page
abbrev pub AreOverTables : Slots → Triples → Type 0
AreOverTables slots named = (home : Home) → IsHeld slots home → home.id ≡ 3 → home.page < 96 → named 3 home.page home.sector ≡ true

-- The disk reveals its contents, and with the frames over it the pages of the space tables are these bytes; the runs that
-- are kept are the map's, and frames of these pages are where the map has them.
pub record TablesReveal (disk : DiskState) (slots : Slots) (layout : Layout) (runs : CachedRuns) (b : List ℕ) : Type 0 where
  pub memory : List Sector
  pub stands : Stands disk slots memory
  pub triples : Triples
  pub map : MapIs layout triples memory
  pub kept : AreOf triples (runs_of layout.sectors runs)
  pub size : disk.sectors ≡ layout.sectors
  pub count : length b ≡ 512 * 96
  pub page : (k : ℕ) → k < 96 → IsTablePage layout triples memory k (part b (512 * k) 512)
  pub held : AreOverTables slots triples

-- how many bytes they are, on a disk of this many sectors
abbrev pub tables_size : ℕ → Layout → ℕ
tables_size sectors layout = if sectors == layout.sectors then 512 * 96 else 0

-- What accesses to the pages of the space tables do to all else: nothing of it changes, but for what swapping is. Runs that
-- are kept were kept before or were read from the map, and are the map's afterwards where they were before. Where the
-- tables were revealed, some bytes are revealed of them afterwards.
pub record BesideTables (old : DiskState) (before : Slots) (place : Layout) (kept : CachedRuns) (new : DiskState) (after : Slots) (later : Layout) (runs : CachedRuns) : Type 0 where
  pub goes : Goes (Differs (in_tables place)) table_pages [] old before new after
  pub brings : Brings (IsComing place old before (runs_of place.sectors kept)) before after
  pub steps : Steps (IsComing place old before (runs_of place.sectors kept)) (IsChanging place) old before new after
  pub layout : later ≡ place
  pub given : (r : Run) → IsOneOf r (runs_of place.sectors runs) → IsGiven place old before (runs_of place.sectors kept) r
  pub runs_are : (m : List Sector) (named : Triples) → Stands old before m → MapIs place named m → AreOf named (runs_of place.sectors kept) → AreOf named (runs_of place.sectors runs)
  pub revealed : (b : List ℕ) → TablesReveal old before place kept b → (c : List ℕ) × TablesReveal new after later runs c

-- What looks at the pages of the space tables do: some of them, and pages of the file map, may have come into frames, and the
-- memory is the same. No frame is dirty that was clean, and nothing is written but pages of frames that were dirty. Runs that
-- are kept may be others, as in an access, and the tables reveal what they revealed.
pub record LookedTables (old : DiskState) (before : Slots) (place : Layout) (kept : CachedRuns) (new : DiskState) (after : Slots) (later : Layout) (runs : CachedRuns) : Type 0 where
  pub swaps : Swaps old before new after
  pub brings : Brings (IsComing place old before (runs_of place.sectors kept)) before after
  pub steps : Steps (IsComing place old before (runs_of place.sectors kept)) no_home old before new after
  pub layout : later ≡ place
  pub given : (r : Run) → IsOneOf r (runs_of place.sectors runs) → IsGiven place old before (runs_of place.sectors kept) r
  pub runs_are : (m : List Sector) (named : Triples) → Stands old before m → MapIs place named m → AreOf named (runs_of place.sectors kept) → AreOf named (runs_of place.sectors runs)
  pub revealed : (b : List ℕ) → TablesReveal old before place kept b → TablesReveal new after later runs b

-- A halt has its cause, and where the labels of the map's sectors name its pages, and the tables are revealed, it is a fault of
-- the disk.
pub record IsTableAccounted (old : DiskState) (before : Slots) (layout : Layout) (kept : CachedRuns) (new : DiskState) (halt : Halt) : Type 0 where
  pub cause : FoundHalts layout old before (runs_of layout.sectors kept) new halt
  pub sound : (m : List Sector) (b : List ℕ) → Stands old before m → AreNamed m (IsMapHome FileMap layout) → TablesReveal old before layout kept b → halt ≡ Disk
