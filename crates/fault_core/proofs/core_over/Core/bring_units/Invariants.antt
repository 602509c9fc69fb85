use Rattle.std.proofs.Common.{◌+◌}
use Rattle.fault_core.specs.Core.{kept, state}
use Rattle.fault_core.proofs.ActivateLemmas.{IsActivating}
use Rattle.fault_core.proofs.core_over.Core.bring_units.Given as goal

-- the range was brought in so far
abbrev pub invariant-loop-turn : goal.invariant-loop-turn
invariant-loop-turn g l =
    IsActivating (state l.fn.self) (kept l.fn.self) l.fn.self.intervals l.fn.first (l.fn.first + l.fn.pages) l.end l.half (state l.self) (kept l.self) l.self.intervals l.so_far l._turn
