-- The clients that wait where a session ends, and their lines.
use Rattle.std.specs.Prelude.{ℕ, List, filter, flat_map, is_some}
use Rattle.std.specs.List.{range_with_len}
use Rattle.flight_core.specs.declared.pending.Pending.{Pending}
use Rattle.flight_core.specs.Flights.{flight_of}
use Rattle.trace_io.specs.ClientText.{client_line}
use Rattle.trace_io.specs.declared.client.ClientLine.TheVariants as line

-- those of these clients that wait
abbrev pub those_that_wait : List Pending → List ℕ → List ℕ
those_that_wait ps clients = filter (λ client. is_some (flight_of ps client)) clients

-- in ascending numbers
abbrev pub waiting_clients : List Pending → List ℕ
waiting_clients ps = those_that_wait ps (range_with_len 1 16)

-- the line of a client that waited
abbrev pub dropped_line : ℕ → List ℕ
dropped_line client = client_line (line.Dropped client)

-- one for each client that waits, in ascending numbers
abbrev pub dropped_lines : List Pending → List ℕ
dropped_lines ps = flat_map dropped_line (waiting_clients ps)
