use Rattle.fault_core.specs.Core.{kept, state}
use Rattle.fault_core.proofs.KillLemmas.{IsKilling}
use Rattle.fault_core.proofs.core_over.Core.kill.Given as goal

-- the pages up to this one are given up
abbrev pub invariant-loop-part : goal.invariant-loop-part
invariant-loop-part g l = IsKilling (state l.fn.self) (kept l.fn.self) l.fn.self.intervals l.fn.first l.fn.pages l.end (state l.self) (kept l.self) l.self.intervals l.page l._part
