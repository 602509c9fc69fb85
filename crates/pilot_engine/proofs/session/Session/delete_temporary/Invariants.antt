use Rattle.std.proofs.Common.{◌-◌, ◌^◌}
use Rattle.file_manager.specs.Reasons.{KeepsOn, InitialState}
use Rattle.pilot_engine.specs.Reasons.{SeesHome}
use Rattle.pilot_engine.specs.Writing.{Clears}
use Rattle.pilot_engine.proofs.ClearedUpTo.{ClearedUpTo}
use Rattle.pilot_engine.proofs.session.Session.delete_temporary.Given as goal
use Rattle.fault_core.specs.Core.{state}

-- the temporary files up to this one are gone, the space tables are seen where they were, and permanent files are spared
abbrev pub invariant-files : goal.invariant-files
invariant-files g l =
    ClearedUpTo l.cursor (state l.fn.self.core).disk (state l.fn.self.core).slots (state l.fn.self.core).layout l.fn.self.core.filer.runs l.fn.self.volume
    (state l.self.core).disk (state l.self.core).slots (state l.self.core).layout l.self.core.filer.runs l.self.volume
    × ((o : InitialState) → KeepsOn o l.fn.self.core.filer → SeesHome o l.fn.self.core → SeesHome o l.self.core)
    × Clears l.fn.self l.self

abbrev pub decreases-files : goal.decreases-files
decreases-files g l = 2 ^ 64 - l.cursor
