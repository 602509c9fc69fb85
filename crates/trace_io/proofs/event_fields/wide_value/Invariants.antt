use Rattle.std.proofs.Common.{◌≡◌, ◌<◌, ◌^◌, take, true}
use Rattle.std.specs.List.{list_all}
use Rattle.std.specs.Char.{is_ascii_digit}
use Rattle.std.specs.Str.Parse.{digits_value}
use Rattle.trace_io.proofs.event_fields.wide_value.Given as goal

-- the number of the bytes so far, which are digits
abbrev pub invariant-loop-b : goal.invariant-loop-b
invariant-loop-b l =
    (l.n ≡ digits_value 10 (take l.b-index l.word)) × (l.n < 2 ^ 64) × (list_all is_ascii_digit (take l.b-index l.word) ≡ true)
