use Rattle.std.proofs.Common.{}
use Rattle.tests_of_the_flights.proofs.drawn.report.Given as goal

-- no event has halted what is stepped
abbrev pub invariant-loop : goal.invariant-loop
invariant-loop g l = g.S.Stepped.runs l.flights.stepped
