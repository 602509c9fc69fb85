-- The calls before that index were drawn.
use Rattle.trace_maker.specs.Maker.{IsAt}
use Rattle.trace_maker.proofs.maker.call_at.Given as goal

abbrev pub invariant-loop : goal.invariant-loop
invariant-loop l = IsAt l.maker l.seed l.counter
