-- The others of a flight that lands, as they are tried.
use Rattle.std.specs.Prelude.{◌≡◌, ℕ, ◌+◌, ◌≤◌, List, [], ◌∷◌, Option, Some, None}
use Rattle.std.specs.Option.{option_map_or}
use Rattle.flat_machine.specs.declared.call.Reply.{Reply}
use Rattle.flight_core.specs.declared.pending.Pending.{Pending}
use Rattle.flight_core.specs.declared.answers.Answer.{Answer}
use Rattle.flight_core.specs.declared.answers.Revealed.{Revealed}
use Rattle.flight_core.specs.declared.answers.Revealed.TheVariants as revealed
use Rattle.flight_core.specs.Pending.{times}
use Rattle.flight_core.specs.Crowd.{Crowd, TriesEach}

-- the client is one of the others once at most, and waits for no further flight if it is one
abbrev pub IsFree : List Pending → List Pending → ℕ → Type 0
IsFree ps others client = times ps client + times others client ≤ 1

-- the owner's answer, and those of the clients that were tried
pub record HasTried (c : Crowd) (tried : List Pending) (owner : Answer) (answers : List Answer) (new : Crowd) : Type 0 where
  pub rest : List Answer
  pub answers_are : answers ≡ owner ∷ rest
  pub tries : TriesEach c tried rest new

-- the answer of one client, if it has one
abbrev pub answer_of : ℕ → Option Reply → List Answer
answer_of client r = option_map_or (λ x. (record { client = client; reply = x }) ∷ []) r []

-- the reply that a client is revealed, if it has one
abbrev pub reply_of : Revealed → Option Reply
reply_of (revealed.Answered r) = Some r
reply_of (revealed.Waits flight) = None
reply_of revealed.Busy = None
