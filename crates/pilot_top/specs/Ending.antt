-- How a trace ends.
use Rattle.std.specs.Prelude.{ℕ, Bool, true, false, List, [], Some}
use Rattle.std.specs.List.{list_any}
use Rattle.flat_machine.specs.After.{TraceLine}
use Rattle.flat_machine.specs.declared.call.Call.TheVariants.{Close, Halt}
use Rattle.flat_machine.specs.declared.call.Reply.TheVariants as reply
use Rattle.flat_machine.specs.Text.{text}
use Rattle.pilot_top.specs.declared.turn.End.{End}
use Rattle.pilot_top.specs.declared.turn.End.TheVariants as end

-- the line is `halt`
abbrev pub is_halt : TraceLine → Bool
is_halt (Some Halt) = true
is_halt line = false

-- the trace is stopped by `halt`
abbrev pub halts : List TraceLine → Bool
halts lines = list_any is_halt lines

-- the line is `close`
abbrev pub is_close : TraceLine → Bool
is_close (Some Close) = true
is_close line = false

-- the trace is ended by `close`
abbrev pub closes : List TraceLine → Bool
closes lines = list_any is_close lines

-- the trace is stopped so
abbrev pub is_halted : End → Bool
is_halted end.Halt = true
is_halted end.Close = false
is_halted end.Trace = false

-- the trace is ended so
abbrev pub is_closed : End → Bool
is_closed end.Close = true
is_closed end.Halt = false
is_closed end.Trace = false

-- the reply to the line that ends the trace, if one does
abbrev pub end_text : End → List ℕ
end_text end.Trace = []
end_text how = text reply.Done
