use Rattle.std.proofs.Common.{◌≡◌, ◌++◌, take, drop}
use Rattle.trace_io.specs.Stream.{Misses}
use Rattle.trace_io.proofs.adapters.copy_near.Given as goal

-- the bytes before the place are copied, and none of them is the one
abbrev pub invariant-loop-place : goal.invariant-loop-place
invariant-loop-place l = Misses l.stop (take l.place l.bytes) × (l.room ≡ take l.place l.bytes ++ drop l.place l.fn.room)
