use Rattle.std.proofs.Common.{◌<◌, ◌^◌, get_or, arith}
use Rattle.write_queue.proofs.PlaceLemmas.{least_first, least_next, least_of_all}
use Rattle.write_queue.proofs.places.first_of_sweep.Goals as goal

pub loop-sector-init : goal.loop-sector-init
loop-sector-init c =
    let short : get_or c.args.sectors.now 0 0 < 2 ^ 32 = omega (arith, c.type_inv.sectors 0) in
    least_first c.args.head c.ahead-least.result c.args.sectors.now c.requires short c.ahead-least.ensures

pub loop-sector-preserved : goal.loop-sector-preserved
loop-sector-preserved c =
    let n = c.loop-sector.sector-index in
    let short : get_or c.args.sectors.now n 0 < 2 ^ 32 = omega (arith, c.type_inv.sectors n) in
    rw c.min-least.ensures
    (least_next c.args.head c.loop-sector.least n c.ahead.result c.args.sectors.now c.loop-sector.invariant c.loop-sector-test.true short c.ahead.ensures)

pub returns : goal.returns
returns c = least_of_all c.args.head c.loop-sector.least c.loop-sector.sector-index c.args.sectors.now c.loop-sector.invariant c.loop-sector-test.false
