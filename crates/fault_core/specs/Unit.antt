-- The swap unit of a page, as pages of the file that an interval shows.
use Rattle.std.specs.Prelude.{◌≡◌, ◌⊎◌, true, ℕ, ◌+◌, ◌-◌, ◌<◌, ◌≤◌, ◌^◌, List, Some}
use Rattle.labelled_disk.specs.Sectors.{Sector}
use Rattle.frame_pool.specs.declared.home.Home.{Home}
use Rattle.frame_pool.specs.Frames.{Slots, HasPage, IsWithin}
use Rattle.frame_pool.specs.Runs.{IsThere, HasRun}
use Rattle.file_map.specs.FileMap.{Triples}
use Rattle.flat_machine.specs.declared.space.Space.{Space}
use Rattle.flat_machine.specs.declared.space.FilePage.{FilePage}
use Rattle.flat_machine.specs.At.{shown_at}
use Rattle.swap_units.specs.declared.interval.Interval.{Interval}
use Rattle.swap_units.specs.Mode.{is_mapped}
use Rattle.swap_units.specs.Unit.{Holds, block_of}
use Rattle.swapper_kernel.specs.Goes.{IsDirty}
use Rattle.swapper_kernel.specs.Homes.{Brings}
use Rattle.fault_core.specs.Kept.{IsKept}
use Rattle.fault_core.specs.Revealed.{IsStored}

-- the page of the file that the interval shows at one of its pages
abbrev pub file_page : Interval → ℕ → ℕ
file_page x page = x.page + (page - x.first)

-- the page is in the swap unit of another
abbrev pub InUnit : Interval → ℕ → ℕ → Type 0
InUnit x page other = Holds x other × (block_of x other ≡ block_of x page)

-- a slot has the file's page
abbrev pub IsResident : Slots → ℕ → ℕ → Type 0
IsResident slots id page = IsThere slots id page

-- each page that is resident stays so
abbrev pub KeepsResident : Slots → Slots → Type 0
KeepsResident before after = (id page : ℕ) → IsResident before id page → IsResident after id page

-- so many pages of the file, from the first one on, are resident
abbrev pub AreResident : Slots → ℕ → ℕ → ℕ → Type 0
AreResident slots id first pages = HasRun slots id first pages

-- the whole swap unit of the page is resident
abbrev pub IsWhole : Slots → Interval → ℕ → Type 0
IsWhole slots x page = (other : ℕ) → InUnit x page other → IsResident slots x.id (file_page x other)

-- the run of the file's pages, given by the first one and how many, is that of the swap unit
pub record IsUnitRun (x : Interval) (page : ℕ) (run : ℕ × ℕ) : Type 0 where
  pub some : 1 ≤ run.1
  pub few : run.1 ≤ 16
  pub fits : run.0 + run.1 ≤ 2 ^ 32
  pub each : (j : ℕ) → j < run.1 → (other : ℕ) × InUnit x page other × (file_page x other ≡ run.0 + j)
  pub all : (other : ℕ) → InUnit x page other → (j : ℕ) × (j < run.1) × (file_page x other ≡ run.0 + j)

-- each page of the interval has a sector
abbrev pub AreShownStored : Triples → List Sector → Interval → Type 0
AreShownStored named memory x = (other : ℕ) → Holds x other → IsStored named memory (record { file = x.id; page = file_page x other })

-- each of so many pages of the file has one
abbrev pub AreRunStored : Triples → List Sector → ℕ → ℕ → ℕ → Type 0
AreRunStored named memory id first pages = (j : ℕ) → j < pages → IsStored named memory (record { file = id; page = first + j })

-- pages of the maps and of the space tables, and of this run of a file, came into frames
abbrev pub BringsRun : ℕ → ℕ → ℕ → Slots → Slots → Type 0
BringsRun id first pages before after = Brings (λ home. ((1 ≤ home.id) × (home.id ≤ 3)) ⊎ IsWithin id first pages home) before after

-- the home of a page that the interval shows
pub record IsOfInterval (x : Interval) (home : Home) : Type 0 where
  pub page : ℕ
  pub holds : Holds x page
  pub same_id : home.id ≡ x.id
  pub same_page : home.page ≡ file_page x page

-- pages of the maps and of the space tables, and of this interval, came into frames
abbrev pub BringsShown : Interval → Slots → Slots → Type 0
BringsShown x before after = Brings (λ home. ((1 ≤ home.id) × (home.id ≤ 3)) ⊎ IsOfInterval x home) before after

-- pages of the maps and of the space tables, and of either interval, came into frames
abbrev pub BringsBoth : Interval → Interval → Slots → Slots → Type 0
BringsBoth x y before after = Brings (λ home. ((1 ≤ home.id) × (home.id ≤ 3)) ⊎ (IsOfInterval x home ⊎ IsOfInterval y home)) before after

-- A kept interval that is mapped has the page, and its swap unit there is resident.
pub record IsReady (kept : List Interval) (slots : Slots) (page : ℕ) : Type 0 where
  pub interval : Interval
  pub is_kept : IsKept kept interval
  pub holds : Holds interval page
  pub mapped : is_mapped interval.mode ≡ true
  pub whole : IsWhole slots interval page

-- that, and the slot has the page
pub record IsTouched (kept : List Interval) (slots : Slots) (page slot : ℕ) : Type 0 where
  pub ready : IsReady kept slots page
  pub has : HasPage slots slot ready.interval.id (file_page ready.interval page)

-- the slot has the page of a file that is shown there
pub record IsSlotOf (spaces : List Space) (slots : Slots) (page slot : ℕ) : Type 0 where
  pub shown : FilePage
  pub is_shown : shown_at spaces page ≡ Some shown
  pub has : HasPage slots slot shown.file shown.page

-- the frame of the page of a file that is shown there is dirty
pub record IsShownDirty (spaces : List Space) (slots : Slots) (page : ℕ) : Type 0 where
  pub shown : FilePage
  pub is_shown : shown_at spaces page ≡ Some shown
  pub dirty : IsDirty slots shown.file shown.page
