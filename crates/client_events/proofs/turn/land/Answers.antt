use Rattle.client_events.specs.Outcome as outcome
use Rattle.client_events.proofs.turn.land.Goals as goal

pub returns-in-Ok-write_landed-clause-answered : goal.returns-in-Ok-write_landed-clause-answered
returns-in-Ok-write_landed-clause-answered g c =
    let old = c.args.flights.now in
    let led = c.complete.ensures.led in
    (outcome.Landed c.in-Ok.landed, tt, c.in-Ok.ensures.completed, (led.0, (old.begun, old.waiting.items, old.in_order, led.1), led.2), c.in-Ok-write_landed.ensures.ok)

pub returns-in-Err-write_landed-clause-answered : goal.returns-in-Err-write_landed-clause-answered
returns-in-Err-write_landed-clause-answered g c =
    let old = c.args.flights.now in
    let led = c.complete.ensures.led in
    (outcome.Landed c.in-Ok.landed, tt, c.in-Ok.ensures.completed, (led.0, (old.begun, old.waiting.items, old.in_order, led.1), led.2), c.in-Err-write_landed.ensures.err)
