-- What it does to disk and frames, to bring pages in and to change the bytes of some of them.
use Rattle.std.specs.Prelude.{◌≡◌, ◌⊎◌, ℕ, Bool, nat_le, List, []}
use Rattle.labelled_disk.specs.declared.label.Label.{Label}
use Rattle.labelled_disk.specs.declared.layout.Layout.{Layout}
use Rattle.labelled_disk.specs.Sectors.{Sector}
use Rattle.file_map.specs.declared.run.Run.{Run}
use Rattle.file_map.specs.FileMap.{Triples}
use Rattle.swapper_kernel.specs.Homes.{Brings}
use Rattle.swapper_kernel.specs.Stands.{Stands}
use Rattle.swapper_kernel.specs.Differs.{Differs}
use Rattle.swapper_kernel.specs.Goes.{Goes, Pages}
use Rattle.filer_kernel.specs.Triples.{MapIs, AreOf, IsOneOf}
use Rattle.filer_kernel.specs.Causes.{IsGiven}
use Rattle.filer_kernel.specs.Tables.{table_pages}
use Rattle.filer_kernel.specs.View.{View, kept_by, TablesAre}
use Rattle.fault_core.specs.Reach.{IsReached}

-- whether a sector is a data sector
abbrev pub on_data : Layout → ℕ → Label → Bool
on_data layout place label = nat_le layout.first place

-- some pages, and those of the space tables and of the file map
abbrev pub and_own : Pages → Pages
and_own pages id page = table_pages id page ⊎ pages id page

-- Pages were found and brought in, and the bytes of some changed: each frame's home was there before or was found so. Only
-- these pages, and pages of the space tables and of the file map, may have become dirty, and bytes on data sectors alone
-- may differ; where the space tables are revealed, theirs don't.
pub record Touches (pages : Pages) (v w : View) : Type 0 where
  pub goes : Goes (Differs (on_data v.layout)) (and_own pages) [] v.disk v.slots w.disk w.slots
  pub brings : Brings (IsReached v) v.slots w.slots
  pub layout : w.layout ≡ v.layout
  pub given : (r : Run) → IsOneOf r (kept_by w) → IsGiven v.layout v.disk v.slots (kept_by v) r
  pub runs_are : (m : List Sector) (named : Triples) → Stands v.disk v.slots m → MapIs v.layout named m → AreOf named (kept_by v) → AreOf named (kept_by w)
  pub revealed : (b : List ℕ) → TablesAre v b → TablesAre w b
