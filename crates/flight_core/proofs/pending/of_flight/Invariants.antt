use Rattle.std.proofs.Common.{◌≡◌, ◌≤◌, length, take}
use Rattle.flight_core.specs.Crowd.{of_flight}
use Rattle.flight_core.proofs.pending.of_flight.Given as goal

abbrev pub invariant-loop-p : goal.invariant-loop-p
invariant-loop-p l = record {
  found : l.found.items ≡ of_flight (take l.p-index l.pending) l.flight;
  few : length l.found.items ≤ l.p-index;
}
