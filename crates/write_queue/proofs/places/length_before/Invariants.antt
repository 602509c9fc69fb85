use Rattle.std.proofs.Common.{◌≢◌, ℕ, ◌<◌, get_or}
use Rattle.write_queue.proofs.places.length_before.Given as goal

-- the sector does not stand before the place
abbrev pub invariant-loop-place : goal.invariant-loop-place
invariant-loop-place l = (k : ℕ) → k < l.place → get_or l.sectors k 0 ≢ l.sector
