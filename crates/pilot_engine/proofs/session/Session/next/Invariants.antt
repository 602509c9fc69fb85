use Rattle.std.proofs.Common.{◌≡◌, ◌-◌, ◌^◌}
use Rattle.fault_core.specs.Core.{state}
use Rattle.running_words.specs.Running.{Runs}
use Rattle.fault_core.specs.Reach.{BringsOwn, Reaches}
use Rattle.file_manager.specs.Reasons.{KeepsOn, InitialState}
use Rattle.space_calls.specs.Sees.{StillSees}
use Rattle.pilot_engine.specs.Reasons.{SeesHome}
use Rattle.pilot_engine.proofs.NextUpTo.{NextUpTo}
use Rattle.pilot_engine.proofs.session.Session.next.Given as goal

-- the files up to this one have no name, pages were found, and the space tables are seen
abbrev pub invariant-files : goal.invariant-files
invariant-files g l =
    NextUpTo l.fn.id l.cursor (λ m. Runs l.fn.self.core l.fn.self.volume m) (λ m. Runs l.self.core l.self.volume m) (state l.fn.self.core).disk (state l.fn.self.core).slots (state l.fn.self.core).layout l.fn.self.volume l.fn.self.running
    (state l.self.core).disk (state l.self.core).slots (state l.self.core).layout l.self.volume l.self.running
    × Reaches (state l.fn.self.core) (state l.self.core) × (l.self.core.intervals ≡ l.fn.self.core.intervals)
    × ((o : InitialState) → KeepsOn o l.fn.self.core.filer → SeesHome o l.fn.self.core → SeesHome o l.self.core)
    × ((o : InitialState) → KeepsOn o l.fn.self.core.filer → StillSees l.fn.self.core l.self.core)
    × BringsOwn (state l.fn.self.core).slots (state l.self.core).slots

abbrev pub decreases-files : goal.decreases-files
decreases-files g l = 2 ^ 64 - l.cursor
