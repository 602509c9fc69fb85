-- What comes of an event, and what is written of it.
use Rattle.std.specs.Prelude.{ℕ, List, flat_map}
use Rattle.flat_machine.specs.declared.call.Reply.TheVariants as reply
use Rattle.flat_machine.specs.declared.call.Refusal.TheVariants as why
use Rattle.flat_machine.specs.Text.{text}
use Rattle.flight_core.specs.declared.answers.Answer.{Answer}
use Rattle.flight_core.specs.declared.answers.Revealed as gets
use Rattle.flight_core.specs.declared.answers.Revealed.TheVariants as revealed
use Rattle.flight_core.specs.declared.answers.Landed as comes
use Rattle.flight_core.specs.declared.answers.Landed.TheVariants as landed
use Rattle.trace_io.specs.ClientText.{client_line}
use Rattle.trace_io.specs.declared.client.ClientLine.{ClientLine}
use Rattle.trace_io.specs.declared.client.ClientLine.TheVariants as line

-- What comes of a line that others may follow: it says no event; a client asked; a flight is done.
pub data Outcome : Type 0 where
  Bad : Outcome
  Revealed : ℕ → gets.Revealed → Outcome
  Landed : comes.Landed → Outcome

-- what a client that asked gets
abbrev pub asked_line : ℕ → gets.Revealed → ClientLine
asked_line client (revealed.Answered r) = line.Reply client r
asked_line client (revealed.Waits flight) = line.Waits client flight
asked_line client revealed.Busy = line.Busy client

-- the line of one answer of a landing
abbrev pub answer_line : Answer → List ℕ
answer_line a = client_line (line.Reply a.client a.reply)

-- of a flight a line for each that is answered, or `error flight`
abbrev pub landed_lines : comes.Landed → List ℕ
landed_lines landed.NoFlight = client_line line.NoFlight
landed_lines (landed.Answered answers) = flat_map answer_line answers.items

-- The lines of an outcome: `error syntax` of a bad line, one of a client that asked, and those of a flight.
abbrev pub outcome_lines : Outcome → List ℕ
outcome_lines Bad = text (reply.Refused why.Syntax)
outcome_lines (Revealed client r) = client_line (asked_line client r)
outcome_lines (Landed l) = landed_lines l
