-- Lines of a trace: the machine after some of them, and their replies.
use Rattle.std.specs.Prelude.{ℕ, Bool, true, false, ◌≡◌, List, [], ◌∷◌, Option, Some, None, take, fold, length, flat_map}
use Rattle.flat_machine.specs.declared.call.Call.{Call}
use Rattle.flat_machine.specs.declared.call.Call.TheVariants as call
use Rattle.flat_machine.specs.declared.call.Reply.{Reply}
use Rattle.flat_machine.specs.declared.call.Reply.TheVariants as reply
use Rattle.flat_machine.specs.declared.call.Refusal.TheVariants as why
use Rattle.flat_machine.specs.Text.{text}
use Rattle.flat_machine.specs.Machine.{Machine}
use Rattle.flat_machine.specs.Next.{next}
use Rattle.flat_machine.specs.Allows.{Allows}

-- a line is a call, or none where it is bad
abbrev pub TraceLine : Type 0
TraceLine = Option Call

-- no line is read after the call
abbrev pub ends_trace : Call → Bool
ends_trace call.Close = true
ends_trace call.Halt = true
ends_trace other = false

-- the machine after a line: a bad one changes nothing
abbrev pub next_line : Machine → TraceLine → Machine
next_line m None = m
next_line m (Some c) = next m c

-- the machine allows this reply to the line: to a bad one `syntax` alone
abbrev pub AllowsLine : Machine → TraceLine → Reply → Type 0
AllowsLine m None r = r ≡ reply.Refused why.Syntax
AllowsLine m (Some c) r = Allows m c r

-- the machine after the first k lines
abbrev pub after : Machine → List TraceLine → ℕ → Machine
after m lines k = fold next_line m (take k lines)

-- the replies are allowed one by one, each by the machine after the lines before its own
abbrev pub AllowsAll : Machine → List TraceLine → List Reply → Type 0
AllowsAll m lines [] = Unit {0}
AllowsAll m [] (r ∷ rs) = ⊥
AllowsAll m (line ∷ lines) (r ∷ rs) = AllowsLine m line r × AllowsAll (next_line m line) lines rs

-- the bytes are the text of replies to the first k lines, one after another, each allowed where it stands
pub record Transcript (m : Machine) (lines : List TraceLine) (k : ℕ) (bytes : List ℕ) : Type 0 where
  pub replies : List Reply
  pub one_a_line : length replies ≡ k
  pub allowed : AllowsAll m lines replies
  pub text_is : bytes ≡ flat_map text replies
