-- What is given up of a range of pages of the root.
use Rattle.std.specs.Prelude.{◌≡◌, ℕ, ◌+◌, ◌-◌, ◌<◌, ◌≤◌, ◌&&◌, Bool, false, nat_le, List, Some}
use Rattle.labelled_disk.specs.declared.label.Label.{Label}
use Rattle.labelled_disk.specs.Label.{names}
use Rattle.labelled_disk.specs.Sectors.{Sector}
use Rattle.file_map.specs.FileMap.{Triples}
use Rattle.flat_machine.specs.declared.space.Space.{Space}
use Rattle.flat_machine.specs.declared.space.FilePage.{FilePage}
use Rattle.flat_machine.specs.At.{shown_at}
use Rattle.flat_machine.specs.Refusal.{is_read_only}
use Rattle.frame_pool.specs.Frames.{Slots}
use Rattle.swap_units.specs.declared.interval.Interval.{Interval}
use Rattle.swap_units.specs.Mode.{is_writable}
use Rattle.swapper_kernel.specs.Differs.{of_run}
use Rattle.swapper_kernel.specs.Goes.{Change, Pages}
use Rattle.fault_core.specs.Access.{Shows}
use Rattle.fault_core.specs.Revealed.{BreaksTables, Revealed}
use Rattle.fault_core.specs.Unit.{IsResident, file_page}
use Rattle.filer_kernel.specs.View.{View}

-- the page has no frame
abbrev pub is_absent : Slots → Pages
is_absent slots id page = IsResident slots id page → ⊥

-- the pages from one on up to another are pages of an interval that they begin in
pub record IsPart (x : Interval) (page to next : ℕ) : Type 0 where
  pub some : page < next
  pub inside : next ≤ x.first + x.pages
  pub within : next ≤ to

-- that, and a window shows them
pub record ShowsPart (x : Interval) (page next : ℕ) : Type 0 where
  pub shows : Shows x page
  pub some : page < next
  pub inside : next ≤ x.first + x.pages

-- a page of the tables breaks its form for the look-up of a page of the range
pub record BreaksWithin (v : View) (count first to page : ℕ) : Type 0 where
  pub asked : ℕ
  pub from : first ≤ asked
  pub below : asked < to
  pub breaks : BreaksTables v count asked page

-- of the pages from one on up to another, each page of a file that a window shows there and lets stores through is so
abbrev pub AreWritableSo : Pages → List Space → ℕ → ℕ → Type 0
AreWritableSo evidence_seen spaces from to = (p : ℕ) → from ≤ p → p < to → (u : FilePage) → shown_at spaces p ≡ Some u → is_read_only spaces p ≡ false → evidence_seen u.file u.page

-- whether the interval's pages may be stored to
abbrev pub may_store : Interval → Bool
may_store x = is_writable x.mode

-- whether a data sector's label names one of the pages that the interval shows from one page on up to another
abbrev pub of_part : ℕ → Interval → ℕ → ℕ → ℕ → Label → Bool
of_part first x page next place l = nat_le first place && of_run x.id (file_page x page) (next - page) place l && names l (record { id = l.id; page = l.page })

-- a memory that is known of the core is left, so changed
pub record LeavesCore (P : Change) (m : List Sector) (named : Triples) (spaces : List Space) (w : View) (kept : List Interval) (count : ℕ) : Type 0 where
  pub memory : List Sector
  pub changed : P m memory
  pub revealed : Revealed w kept count memory named spaces
