-- Replies that suit their lines.
use Rattle.std.proofs.Common.{◌≡◌, false, List, [], ◌∷◌, ◌++◌, Some, refl}
use Rattle.std.proofs.lemmas.Bool.{true≢false}
use Rattle.flat_machine.specs.declared.call.Call.{Call}
use Rattle.flat_machine.specs.declared.call.Call.TheVariants as call
use Rattle.flat_machine.specs.declared.call.Reply.{Reply}
use Rattle.flat_machine.specs.After.{TraceLine}
use Rattle.trace_io.specs.Reading.{is_last}
use Rattle.pilot_top.specs.Replied.{AreTo, AreToFirst, Suits}

-- any reply suits a call that others may follow
pub call_suits : (c : Call) (r : Reply) → is_last (Some c) ≡ false → Suits (Some c) r
call_suits call.Close r more = absurd (true≢false more)
call_suits call.Halt r more = absurd (true≢false more)
call_suits c r more = tt

-- one reply more
pub to_more : (lines : List TraceLine) (replies : List Reply) (line : TraceLine) (r : Reply) → AreTo replies lines → Suits line r → AreTo (replies ++ r ∷ []) (lines ++ line ∷ [])
to_more [] [] line r each suits = (suits, tt)
to_more [] (s ∷ replies) line r each suits = absurd each
to_more (l ∷ lines) [] line r each suits = absurd each
to_more (l ∷ lines) (s ∷ replies) line r each suits = (each.0, to_more lines replies line r each.1 suits)

-- none was answered
pub none_first : (lines : List TraceLine) → AreToFirst [] lines
none_first lines = record { first = []; rest = lines; all = refl; each = tt; none_last = refl }
