use Rattle.std.proofs.Common.{refl}
use Rattle.client_events.specs.Outcome as outcome
use Rattle.client_events.proofs.TurnLemmas.{keeps_cut_short, keeps_written, steps_asked}
use Rattle.client_events.proofs.turn.ask.Goals as goal

pub returns-in-Ok-write_revealed-clause-answered : goal.returns-in-Ok-write_revealed-clause-answered
returns-in-Ok-write_revealed-clause-answered g c = (
  outcome.Revealed c.args.client c.in-Ok.revealed,
  refl,
  steps_asked c.args.flights.now c.ask.new.self c.ask.result c.in-Ok.revealed c.in-Ok.is c.args.client c.args.call.now c.ask.ensures.asked,
  c.ask.ensures.led,
  c.in-Ok-write_revealed.ensures.ok,
)

pub returns-in-Ok-write_revealed-clause-keeps : goal.returns-in-Ok-write_revealed-clause-keeps
returns-in-Ok-write_revealed-clause-keeps g c = keeps_written c.args.flights.now c.ask.new.self c.ask.result c.in-Ok.revealed c.in-Ok.is c.ask.ensures.ends.goes_on c.ask.ensures.ends.later c.ask.ensures.few

pub returns-in-Err-write_revealed-clause-answered : goal.returns-in-Err-write_revealed-clause-answered
returns-in-Err-write_revealed-clause-answered g c = (
  outcome.Revealed c.args.client c.in-Ok.revealed,
  refl,
  steps_asked c.args.flights.now c.ask.new.self c.ask.result c.in-Ok.revealed c.in-Ok.is c.args.client c.args.call.now c.ask.ensures.asked,
  c.ask.ensures.led,
  c.in-Err-write_revealed.ensures.err,
)

pub returns-in-Err-write_revealed-clause-keeps : goal.returns-in-Err-write_revealed-clause-keeps
returns-in-Err-write_revealed-clause-keeps g c = keeps_cut_short c.args.flights.now c.ask.new.self c.ask.result c.in-Ok.revealed c.in-Ok.is c.ask.ensures.ends.goes_on c.ask.ensures.ends.later c.ask.ensures.few
