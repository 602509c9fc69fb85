-- Which page of a client's file was found to have no sector.
use Rattle.std.specs.Prelude.{◌≡◌, ◌⊎◌, ℕ, ◌+◌, ◌/◌, ◌<◌, ◌≤◌, List, Some}
use Rattle.labelled_disk.specs.declared.evidence.Evidence.TheVariants.{Mismatch, Malformed, Missing}
use Rattle.labelled_disk.specs.declared.evidence.Halt.{Halt}
use Rattle.labelled_disk.specs.declared.evidence.Halt.TheVariants.{Disk, Damaged}
use Rattle.flat_machine.specs.declared.space.Space.{Space}
use Rattle.flat_machine.specs.At.{shown_at}
use Rattle.swap_units.specs.declared.interval.Interval.{Interval}
use Rattle.swapper_kernel.specs.Goes.{Pages}
use Rattle.space_tables.specs.SpaceTables.{IsIntervalAt}
use Rattle.space_tables.specs.Stored.{RevealSpaces}
use Rattle.fault_core.specs.Access.{Shows, last_page}
use Rattle.fault_core.specs.Kept.{IsKept}
use Rattle.fault_core.specs.Revealed.{IsIntervalOf}
use Rattle.fault_core.specs.Unit.{InUnit, file_page}
use Rattle.filer_kernel.specs.View.{View, TablesAre}

-- where the halt is that the map has no sector for a page, it is a page of the space tables or one of these
abbrev pub MissesPage : Pages → Halt → Type 0
MissesPage pages Disk = Unit {0}
MissesPage pages (Damaged (Mismatch sector wanted found)) = Unit {0}
MissesPage pages (Damaged (Malformed structure broken)) = Unit {0}
MissesPage pages (Damaged (Missing id page)) = (id ≡ 3) ⊎ pages id page

-- so many pages of a file, from the first one on
abbrev pub run_pages : ℕ → ℕ → ℕ → Pages
run_pages id first pages i p = (i ≡ id) × (first ≤ p) × (p < first + pages)

-- what an interval shows of the swap unit of a page
abbrev pub unit_pages : Interval → ℕ → Pages
unit_pages x page i p = (other : ℕ) × InUnit x page other × (i ≡ x.id) × (p ≡ file_page x other)

-- that, by two intervals, of the first and of the last page of a reference
abbrev pub both_units : Interval → Interval → ℕ → ℕ → Pages
both_units first last address count i p = unit_pages first (address / 512) i p ⊎ unit_pages last (last_page address count) i p

-- what a kept interval that shows the page shows of its swap unit
abbrev pub kept_unit : List Interval → ℕ → Pages
kept_unit kept page i p = (x : Interval) × IsKept kept x × Shows x page × unit_pages x page i p

-- what the windows show of the swap unit of the page, by the interval of the projection
abbrev pub shown_unit : List Space → ℕ → Pages
shown_unit spaces page i p = (x : Interval) × IsIntervalAt spaces page x × ((other : ℕ) × InUnit x page other × (shown_at spaces other ≡ Some (record { file = i; page = p })))

-- of the swap units of the pages of a reference
abbrev pub shown_units : List Space → ℕ → ℕ → Pages
shown_units spaces address count i p = shown_unit spaces (address / 512) i p ⊎ shown_unit spaces (last_page address count) i p

-- of the swap unit of some page from the one up to the other
abbrev pub range_units : List Space → ℕ → ℕ → Pages
range_units spaces from to i p = (page : ℕ) × (from ≤ page) × (page < to) × shown_unit spaces page i p

-- The space tables are revealed, and in form: they are those of these spaces, with so many intervals; and the intervals that are
-- kept are among them.
pub record Sees (v : View) (kept : List Interval) (count : ℕ) (spaces : List Space) : Type 0 where
  pub bytes : List ℕ
  pub revealed : TablesAre v bytes
  pub tables : RevealSpaces (λ b. b ≡ bytes) count spaces
  pub cached : (x : Interval) → IsKept kept x → IsIntervalOf spaces x
