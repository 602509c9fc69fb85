use Rattle.write_queue.proofs.PlaceLemmas.{LeastSoFar}
use Rattle.write_queue.proofs.places.first_of_sweep.Given as goal

abbrev pub invariant-loop-sector : goal.invariant-loop-sector
invariant-loop-sector l = LeastSoFar l.head l.least l.sector-index l.sectors
