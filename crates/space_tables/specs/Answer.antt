-- What a call of the tables answers.
use Rattle.std.specs.Prelude.{◌≡◌, ℕ, List, Option, Some, None, Result, MatchResult}
use Rattle.flat_machine.specs.declared.call.Refusal.{Refusal}
use Rattle.space_tables.specs.declared.error.SpaceError.{SpaceError}
use Rattle.space_tables.specs.declared.error.SpaceError.TheVariants.{Refused, Malformed, Mem}

module _ {X : Type 0} where
  -- the error comes from the memory
  abbrev pub FromMemory : SpaceError X → Type 0
  FromMemory (Refused word) = ⊥
  FromMemory (Malformed page) = ⊥
  FromMemory (Mem error) = Unit {0}

  -- no call is refused here
  abbrev pub NotRefused : SpaceError X → Type 0
  NotRefused (Refused word) = ⊥
  NotRefused (Malformed page) = Unit {0}
  NotRefused (Mem error) = Unit {0}

  -- a fact of the memory's error
  abbrev pub IfMem : (X → Type 0) → SpaceError X → Type 0
  IfMem P (Refused word) = Unit {0}
  IfMem P (Malformed page) = Unit {0}
  IfMem P (Mem error) = P error

  -- a fact of the page that is malformed
  abbrev pub IfMalformed : (ℕ → Type 0) → SpaceError X → Type 0
  IfMalformed P (Refused word) = Unit {0}
  IfMalformed P (Malformed page) = P page
  IfMalformed P (Mem error) = Unit {0}

  -- the error is the refusal, and this stays then; or it comes from the memory
  abbrev pub Refuses : Option Refusal → Type 0 → SpaceError X → Type 0
  Refuses refusal stays (Refused word) = (refusal ≡ Some word) × stays
  Refuses refusal stays (Malformed page) = ⊥
  Refuses refusal stays (Mem error) = Unit {0}

  -- The answer is the refusal, and this stays then; or, where there is none, it is this.
  abbrev pub Answers : {A : Type 0} → Option Refusal → (A → Type 0) → Type 0 → Result A (SpaceError X) → Type 0
  Answers refusal P stays result = MatchResult result (λ answer. (refusal ≡ None) × P answer) (Refuses refusal stays)

  -- of a call that only asks
  abbrev pub Replies : {A : Type 0} → Option Refusal → (A → Type 0) → Result A (SpaceError X) → Type 0
  Replies refusal P result = Answers refusal P (Unit {0}) result
