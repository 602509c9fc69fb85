use Rattle.write_queue.proofs.FilterLemmas.{TakesPrefix}
use Rattle.write_queue.proofs.filter.Filter.of.Given as goal

abbrev pub invariant-loop-sector : goal.invariant-loop-sector
invariant-loop-sector l = TakesPrefix l.sectors l.sector-index l.taken
