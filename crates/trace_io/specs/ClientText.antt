-- The lines for clients that share a session.
use Rattle.std.specs.Prelude.{◌<◌, ◌^◌, ℕ, List, [], ◌∷◌, ◌++◌, codes}
use Rattle.std.specs.Fmt.{decimal}
use Rattle.flat_machine.specs.Laws.{IsOneLine}
use Rattle.flat_machine.specs.Text.{reply_text}
use Rattle.trace_io.specs.declared.client.ClientLine.{ClientLine}
use Rattle.trace_io.specs.declared.client.ClientLine.TheVariants as line

-- the words of a line
unfoldable pub client_text : ClientLine → List ℕ
client_text (line.Reply client reply) = decimal client ++ codes " " ++ reply_text reply
client_text (line.Busy client) = decimal client ++ codes " busy"
client_text (line.Waits client flight) = decimal client ++ codes " waits " ++ decimal flight
client_text (line.Dropped client) = decimal client ++ codes " dropped"
client_text line.NoFlight = codes "error flight"

-- the text and its line feed
abbrev pub client_line : ClientLine → List ℕ
client_line l = client_text l ++ 10 ∷ []

-- each field of the line is one of its type
abbrev pub HasClientFields : ClientLine → Type 0
HasClientFields (line.Reply client reply) = client < 2 ^ 8
HasClientFields (line.Busy client) = client < 2 ^ 8
HasClientFields (line.Waits client flight) = (client < 2 ^ 8) × (flight < 2 ^ 64)
HasClientFields (line.Dropped client) = client < 2 ^ 8
HasClientFields line.NoFlight = Unit {0}

-- each of them is one line
abbrev pub ClientLinesAreLines : Type 0
ClientLinesAreLines = (l : ClientLine) → HasClientFields l → IsOneLine (client_line l)
