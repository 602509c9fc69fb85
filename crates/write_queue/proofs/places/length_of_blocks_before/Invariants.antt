use Rattle.std.proofs.Common.{◌≤◌, ◌-◌, length, take}
use Rattle.write_queue.specs.Finding.{Misses}
use Rattle.write_queue.proofs.places.length_of_blocks_before.Given as goal

-- the sector is in none of the blocks so far
abbrev pub invariant-loop-length : goal.invariant-loop-length
invariant-loop-length l = (l.length ≤ length l.sectors) × Misses l.sector (take l.length l.sectors)

abbrev pub decreases-loop-length : goal.decreases-loop-length
decreases-loop-length l = length l.sectors - l.length
