use Rattle.std.proofs.Common.{◌≢◌, ℕ, ◌<◌, get_or}
use Rattle.trace_io.proofs.adapters.length_before.Given as goal

-- the byte does not stand before the place
abbrev pub invariant-loop-place : goal.invariant-loop-place
invariant-loop-place l = (k : ℕ) → k < l.place → get_or l.bytes k 0 ≢ l.stop
