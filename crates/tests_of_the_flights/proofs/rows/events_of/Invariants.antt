use Rattle.std.specs.List.{All}
use Rattle.tests_of_the_flights.specs.Happening.{MayHappen}
use Rattle.tests_of_the_flights.proofs.rows.events_of.Given as goal

-- each of the events may happen
abbrev pub invariant-loop-row : goal.invariant-loop-row
invariant-loop-row l = All MayHappen l.events.items
