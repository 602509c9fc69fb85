use Rattle.std.proofs.Common.{◌≤◌, ◌+◌, ◌*◌, take}
use Rattle.flat_machine.specs.Machine.{Machine}
use Rattle.flight_core.specs.Flights.{crowd_of, LeadsTo}
use Rattle.tests_of_the_flights.specs.Happening.{HappenAll}
use Rattle.tests_of_the_flights.proofs.happen.happen_in_a_row.Given as goal

-- the first events have happened
abbrev pub invariant-loop-event : goal.invariant-loop-event
invariant-loop-event g l = record {
  runs : g.S.Stepped.runs l.flights.stepped;
  few : l.flights.begun ≤ l.fn.flights.begun + 16 * l.event-index;
  happened : (m : Machine) → g.S.Stepped.stands l.fn.flights.stepped m
      → LeadsTo (λ n. crowd_of n l.flights) (g.S.Stepped.stands l.flights.stepped) (HappenAll (crowd_of m l.fn.flights) (take l.event-index l.events) l.outcomes.items);
}
