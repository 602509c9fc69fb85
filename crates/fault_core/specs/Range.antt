-- Pages of a range whose frames are flushed or evicted.
use Rattle.std.specs.Prelude.{◌≡◌, ◌⊎◌, ℕ, ◌+◌, ◌<◌, ◌≤◌, List, Some}
use Rattle.force_calls.specs.Run.{OnlyRun, Stay}
use Rattle.frame_pool.specs.Frames.{Slots}
use Rattle.flat_machine.specs.declared.space.Space.{Space}
use Rattle.flat_machine.specs.declared.space.FilePage.{FilePage}
use Rattle.flat_machine.specs.At.{shown_at}
use Rattle.swap_units.specs.declared.interval.Interval.{Interval}
use Rattle.swapper_kernel.specs.Goes.{IsDirty}
use Rattle.projection_laws.specs.Spaces.{AreSpaces}
use Rattle.session_words.specs.CallLaws.{IsForced}
use Rattle.session_words.specs.FrameLaws.{BringsKnown}
use Rattle.space_tables.specs.SpaceTables.{IsIntervalAt}
use Rattle.fault_core.specs.declared.range.WriteBack.{WriteBack}
use Rattle.fault_core.specs.declared.range.WriteBack.TheVariants.{Flush, Evict}
use Rattle.fault_core.specs.Reach.{BringsOwn}
use Rattle.fault_core.specs.Unit.{IsResident}

-- no dirty frame has the page, or no frame at all
abbrev pub IsWrittenBack : WriteBack → Slots → ℕ → ℕ → Type 0
IsWrittenBack Flush slots id page = IsDirty slots id page → ⊥
IsWrittenBack Evict slots id page = IsResident slots id page → ⊥

-- so it is with each page of a file that is shown at a page from this one on, up to another
abbrev pub AreWrittenBack : WriteBack → List Space → Slots → ℕ → ℕ → Type 0
AreWrittenBack write_back spaces slots from to = (page : ℕ) (shown : FilePage) → from ≤ page → page < to → shown_at spaces page ≡ Some shown → IsWrittenBack write_back slots shown.file shown.page

-- each frame stays where it is, with its bytes; or each that has no page of so many of the file, from the first one on
abbrev pub LeavesFrames : WriteBack → ℕ → ℕ → ℕ → Slots → Slots → Type 0
LeavesFrames Flush id first pages before after = Stay before after
LeavesFrames Evict id first pages before after = OnlyRun id first pages before after

-- as words for other crates: no dirty frame has such a page, or no frame at all
abbrev pub AreClean : List Space → Slots → ℕ → ℕ → Type 0
AreClean spaces slots from to = AreWrittenBack Flush spaces slots from to

abbrev pub AreGone : List Space → Slots → ℕ → ℕ → Type 0
AreGone spaces slots from to = AreWrittenBack Evict spaces slots from to

-- the end of the range, or the page after the interval of the projection that has the page
abbrev pub IsNextPart : List Space → ℕ → ℕ → ℕ → Type 0
IsNextPart spaces page end next = (next ≡ end) ⊎ ((x : Interval) × IsIntervalAt spaces page x × (next ≡ x.first + x.pages))

-- where the pages of a space's range are forced, no dirty frame has a page that is shown there
abbrev pub ForcedRanges : Type 0
ForcedRanges = (spaces : List Space) (range : Space) (slots : Slots) → AreSpaces spaces → AreWrittenBack Flush spaces slots range.first (range.first + range.pages) → IsForced spaces range slots

-- pages of the maps and of the space tables are known pages
abbrev pub OwnAreKnown : Type 0
OwnAreKnown = (spaces : List Space) (before after : Slots) → BringsOwn before after → BringsKnown spaces before after
