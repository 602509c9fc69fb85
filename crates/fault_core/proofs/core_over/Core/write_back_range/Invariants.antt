use Rattle.fault_core.specs.Core.{kept, state}
use Rattle.fault_core.proofs.RangeLemmas.{IsWritingBack}
use Rattle.fault_core.proofs.core_over.Core.write_back_range.Given as goal

-- the pages up to this one are flushed or evicted
abbrev pub invariant-loop-part : goal.invariant-loop-part
invariant-loop-part g l = IsWritingBack (state l.fn.self) (kept l.fn.self) l.fn.self.intervals l.fn.write_back l.fn.first l.end (state l.self) (kept l.self) l.self.intervals l.page l._part
