-- Replies that are allowed, and calls that are refused.
use Rattle.std.proofs.Common.{◌≡◌, List, [], ◌∷◌, map, Option, None, Some, refl, ap, arith}
use Rattle.std.specs.Prelude.{MatchOption, unwrap_or, is_none, if◌then◌else◌}
use Rattle.std.specs.Option.{option_map_or}
use Rattle.flat_machine.specs.declared.call.Call.{Call}
use Rattle.flat_machine.specs.declared.call.Call.TheVariants.{Load}
use Rattle.flat_machine.specs.declared.call.Reply.TheVariants as reply
use Rattle.flat_machine.specs.declared.call.Refusal.{Refusal}
use Rattle.flat_machine.specs.File.{Cell}
use Rattle.flat_machine.specs.Machine.{Machine}
use Rattle.flat_machine.specs.At.{cells_at}
use Rattle.flat_machine.specs.Refusal.{refusal}
use Rattle.flat_machine.specs.Next.{change}
use Rattle.flat_machine.specs.Allows.{Answers, AgreesWithCells, plain_reply}
use Rattle.flat_machine.specs.Laws.{SomeReplyIsAllowed, RefusedChangesNothing}

-- 0 for any agrees
zeros_agree : (cells : List Cell) → AgreesWithCells cells (map (λ cell. unwrap_or cell 0) cells)
zeros_agree [] = tt
zeros_agree (None ∷ cells) = (omega arith, zeros_agree cells)
zeros_agree (Some b ∷ cells) = (refl, zeros_agree cells)

plain_answers : (m : Machine) (call : Call) → Answers m call (plain_reply m call)
plain_answers m (Load address count) = (map (λ cell. unwrap_or cell 0) (cells_at m address count), refl, zeros_agree (cells_at m address count))
plain_answers m _ = refl

allowed_at : (m : Machine) (call : Call) (o : Option Refusal)
    → let r = option_map_or reply.Refused o (plain_reply m call) in MatchOption o (Answers m call r) (λ word. r ≡ reply.Refused word)
allowed_at m call None = plain_answers m call
allowed_at m call (Some word) = refl

pub some_reply_is_allowed : SomeReplyIsAllowed
some_reply_is_allowed m call = allowed_at m call (refusal m call)

pub refused_changes_nothing : RefusedChangesNothing
refused_changes_nothing m call word e = ap (λ (o : Option Refusal). if is_none o then change m call else m) e
