use Rattle.std.proofs.Common.{◌≡◌, length-set, set, true, ◌%◌, get_or, length}
use Rattle.write_queue.proofs.FilterLemmas.{takes_next, misses_taken}
use Rattle.write_queue.proofs.filter.Filter.of.Goals as goal

pub loop-sector-preserved : goal.loop-sector-preserved
loop-sector-preserved c =
    takes_next c.args.sectors.now c.loop-sector.sector-index c.loop-sector.taken c.loop-sector.invariant (length-set c.loop-sector.taken (get_or c.args.sectors.now c.loop-sector.sector-index 0 % 512) true)

pub returns : goal.returns
returns c = misses_taken c.args.sectors.now c.loop-sector.sector-index c.loop-sector.taken c.loop-sector.invariant c.loop-sector-test.false
