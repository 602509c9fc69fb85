use Rattle.std.proofs.Common.{◌≡◌, ◌+◌, ◌-◌, ◌≤◌, length}
use Rattle.std.specs.List.{range_with_len}
use Rattle.client_events.specs.Dropped.{those_that_wait}
use Rattle.client_events.proofs.dropped.waiting_clients.Given as goal

-- those below this one that wait
abbrev pub invariant-loop-client : goal.invariant-loop-client
invariant-loop-client g l = record {
  are : l.clients.items ≡ those_that_wait l.flights.waiting.items (range_with_len 1 (l.client - 1));
  few : length l.clients.items + 1 ≤ l.client;
}
