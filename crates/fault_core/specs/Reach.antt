-- What it does to disk and frames, and why it may fail, to find pages through both the space tables and the file map.
use Rattle.std.specs.Prelude.{◌≡◌, ◌⊎◌, ℕ, ◌<◌, ◌≤◌, List, []}
use Rattle.labelled_disk.specs.declared.evidence.Evidence.{Evidence}
use Rattle.labelled_disk.specs.declared.evidence.Evidence.TheVariants.{Mismatch, Malformed, Missing}
use Rattle.labelled_disk.specs.Structure.{IsOfFileMap, IsOfTables}
use Rattle.labelled_disk.specs.declared.evidence.Halt.{Halt}
use Rattle.labelled_disk.specs.Sectors.{Sector}
use Rattle.frame_pool.specs.declared.home.Home.{Home}
use Rattle.frame_pool.specs.Frames.{Frame, Slots, Has}
use Rattle.file_map.specs.declared.run.Run.{Run}
use Rattle.file_map.specs.FileMap.{Triples, IsNowhere}
use Rattle.file_map.specs.Cause.{IsBroken}
use Rattle.swapper_kernel.specs.declared.manager.Manager.TheVariants.{FileMap}
use Rattle.swapper_kernel.specs.Maps.{IsMapHome}
use Rattle.swapper_kernel.specs.Homes.{IsFileHome, Brings}
use Rattle.swapper_kernel.specs.Stands.{Stands}
use Rattle.swapper_kernel.specs.Differs.{Differs}
use Rattle.swapper_kernel.specs.Goes.{Goes, Pages}
use Rattle.swapper_kernel.specs.Halts.{IsOther, HasCause, held_or}
use Rattle.filer_kernel.specs.Triples.{MapIs, AreOf, IsOneOf}
use Rattle.filer_kernel.specs.Causes.{MapShows, IsGiven, IsRunHome}
use Rattle.filer_kernel.specs.Evidence.{MayBeMissing}
use Rattle.filer_kernel.specs.Tables.{in_tables, table_pages}
use Rattle.filer_kernel.specs.View.{View, kept_by, TablesAre}

-- a page on a data sector, where a run that was kept, or was read from the map, has it
pub record IsReachedHome (v : View) (home : Home) : Type 0 where
  pub on_data : IsFileHome v.layout home
  pub by_run : IsRunHome v.layout v.disk v.slots (kept_by v) home

-- such a page, or one of the file map at its home
abbrev pub IsReached : View → Home → Type 0
IsReached v home = IsMapHome FileMap v.layout home ⊎ IsReachedHome v home

-- Pages were found and brought in: each frame's home was there before or was found so. Only pages of the space tables and of
-- the file map may have become dirty, and the bytes of the space tables alone may differ; where they are revealed they don't.
-- Runs that are kept were kept before or were read from the map, and are the map's afterwards where they were before.
pub record Reaches (v w : View) : Type 0 where
  pub goes : Goes (Differs (in_tables v.layout)) table_pages [] v.disk v.slots w.disk w.slots
  pub brings : Brings (IsReached v) v.slots w.slots
  pub layout : w.layout ≡ v.layout
  pub given : (r : Run) → IsOneOf r (kept_by w) → IsGiven v.layout v.disk v.slots (kept_by v) r
  pub runs_are : (m : List Sector) (named : Triples) → Stands v.disk v.slots m → MapIs v.layout named m → AreOf named (kept_by v) → AreOf named (kept_by w)
  pub revealed : (b : List ℕ) → TablesAre v b → TablesAre w b

-- A label is another than that of a home of the map, of a frame, or of a page where a run has it; or a page of the map, or
-- of the space tables, breaks its form; or the map has no sector for a page that may be missing.
abbrev pub FindEvidence : (ℕ → Type 0) → Pages → View → Evidence → Type 0
FindEvidence breaks may v (Mismatch sector wanted found) = IsOther (λ home. held_or v.slots (IsMapHome FileMap v.layout) home ⊎ IsReachedHome v home) v.disk sector wanted found
FindEvidence breaks may v (Malformed structure page) = (IsOfFileMap structure × IsBroken v.layout.sectors (MapShows v.layout v.disk v.slots) page) ⊎ (IsOfTables structure × breaks page)
FindEvidence breaks may v (Missing id page) = may id page × ((m : List Sector) (named : Triples) → Stands v.disk v.slots m → MapIs v.layout named m → IsNowhere named id page)

-- the halt of a call from the one state to the other
abbrev pub FindHalts : (ℕ → Type 0) → Pages → View → View → Halt → Type 0
FindHalts breaks may v w halt = HasCause (FindEvidence breaks may v) v.disk w.disk halt

-- a page of the space tables
abbrev pub table_page : Pages
table_page id page = (id ≡ 3) × (page < 96)

-- the halt of a call that looks for pages of the space tables alone
abbrev pub ReachHalts : (ℕ → Type 0) → View → View → Halt → Type 0
ReachHalts breaks v w halt = FindHalts breaks table_page v w halt

-- the halt of one that looks for pages of clients' files as well
abbrev pub TouchHalts : (ℕ → Type 0) → View → View → Halt → Type 0
TouchHalts breaks v w halt = FindHalts breaks MayBeMissing v w halt

-- no page of the space tables was tested
abbrev pub no_break : ℕ → Type 0
no_break page = ⊥

-- pages of the maps and of the space tables alone came into frames
abbrev pub BringsOwn : Slots → Slots → Type 0
BringsOwn before after = Brings (λ home. (1 ≤ home.id) × (home.id ≤ 3)) before after

-- a page of the file map, or of the space tables
abbrev pub IsManagersPage : Home → Type 0
IsManagersPage home = (home.id ≡ 2) ⊎ (home.id ≡ 3)

-- each frame stays where it is, with its bytes, or its slot has a page of the file map or of the space tables afterwards
abbrev pub StayOrYield : Slots → Slots → Type 0
StayOrYield before after = (i : ℕ) (f : Frame) → Has before i f → (g : Frame) × Has after i g × (((g.home ≡ f.home) × (g.bytes ≡ f.bytes)) ⊎ IsManagersPage g.home)
