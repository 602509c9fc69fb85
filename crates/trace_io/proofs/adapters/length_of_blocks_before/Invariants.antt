use Rattle.std.proofs.Common.{◌≤◌, ◌-◌, length, take}
use Rattle.trace_io.specs.Stream.{Misses}
use Rattle.trace_io.proofs.adapters.length_of_blocks_before.Given as goal

-- the byte is in none of the blocks so far
abbrev pub invariant-loop-length : goal.invariant-loop-length
invariant-loop-length l = (l.length ≤ length l.bytes) × Misses l.stop (take l.length l.bytes)

abbrev pub decreases-loop-length : goal.decreases-loop-length
decreases-loop-length l = length l.bytes - l.length
