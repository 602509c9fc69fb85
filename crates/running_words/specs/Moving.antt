-- What a call does that writes no label: pages are brought in and changed, and both maps stay.
use Rattle.std.specs.Prelude.{◌≡◌, List, []}
use Rattle.labelled_disk.specs.Sectors.{Sector}
use Rattle.file_map.specs.declared.run.Run.{Run}
use Rattle.file_map.specs.FileMap.{Triples}
use Rattle.swapper_kernel.specs.Homes.{Brings}
use Rattle.swapper_kernel.specs.Stands.{Stands}
use Rattle.swapper_kernel.specs.Differs.{Differs}
use Rattle.swapper_kernel.specs.Goes.{Goes, Pages}
use Rattle.filer_kernel.specs.Causes.{IsGiven}
use Rattle.filer_kernel.specs.Triples.{MapIs, AreOf, IsOneOf}
use Rattle.file_manager.specs.Reasons.{InitialState, HasTables, KeepsTo}
use Rattle.fault_core.specs.Reach.{IsReached}
use Rattle.fault_core.specs.Touch.{on_data}
use Rattle.filer_kernel.specs.View.{View, kept_by}

-- every page
abbrev pub any_page : Pages
any_page id page = Unit {0}

-- Each frame's home was there before or was found through the file map, and bytes on data sectors alone may differ. Runs that
-- are kept were kept before or were read from the map, and are the map's afterwards where they were before.
pub record Moves (v w : View) : Type 0 where
  pub goes : Goes (Differs (on_data v.layout)) any_page [] v.disk v.slots w.disk w.slots
  pub brings : Brings (IsReached v) v.slots w.slots
  pub layout : w.layout ≡ v.layout
  pub given : (r : Run) → IsOneOf r (kept_by w) → IsGiven v.layout v.disk v.slots (kept_by v) r
  pub runs_are : (m : List Sector) (named : Triples) → Stands v.disk v.slots m → MapIs v.layout named m → AreOf named (kept_by v) → AreOf named (kept_by w)

-- what is seen keeps to the initial state, the file map naming these triples, all pages of the space tables among them, whose bytes are not revealed
abbrev pub ViewKeepsTo : InitialState → View → Triples → Type 0
ViewKeepsTo o v named = KeepsTo o v.layout (kept_by v) v.disk v.slots named × HasTables o named
