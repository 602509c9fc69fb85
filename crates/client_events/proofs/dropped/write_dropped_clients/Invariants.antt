use Rattle.std.proofs.Common.{◌≡◌, ◌++◌, ◌≤◌}
use Rattle.std.specs.Prelude.{flat_map}
use Rattle.std.specs.Io.KnownBytes.{Appends}
use Rattle.client_events.specs.Dropped.{dropped_line}
use Rattle.client_events.proofs.dropped.write_dropped_clients.Given as goal

-- the lines of the first clients are put
abbrev pub invariant-loop-client : goal.invariant-loop-client
invariant-loop-client g l = record {
  all : l.yielded ++ l.client-iterator ≡ l.fn.clients.items;
  put : Appends (g.K.Sink.took l.fn.sink) (g.K.Sink.took l.sink) (flat_map dropped_line l.yielded);
  faults : g.K.Sink.faults l.fn.sink ≤ g.K.Sink.faults l.sink;
}
