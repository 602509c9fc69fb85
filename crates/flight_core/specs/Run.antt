-- Events in a row.
use Rattle.std.specs.Prelude.{◌≡◌, ℕ, List, [], ◌∷◌, ◌++◌}
use Rattle.flat_machine.specs.declared.call.Call.{Call}
use Rattle.flight_core.specs.declared.answers.Revealed.{Revealed}
use Rattle.flight_core.specs.declared.answers.Landed.{Landed}
use Rattle.flight_core.specs.Crowd.{Crowd, Asks, Completes}

-- a client asks; a flight is done
pub data Happening : Type 0 where
  Ask : ℕ → Call → Happening
  Done : ℕ → Happening

-- what a client is revealed; what comes of a flight
pub data Outcome : Type 0 where
  Reveals : Revealed → Outcome
  Ends : Landed → Outcome

-- one of them
abbrev pub Happens : Crowd → Happening → Outcome → Crowd → Type 0
Happens c (Ask client call) (Reveals t) new = Asks c client call t new
Happens c (Done flight) (Ends l) new = Completes c flight l new
Happens c event outcome new = ⊥

-- all of them, one after the other
abbrev pub Runs : Crowd → List Happening → List Outcome → Crowd → Type 0
Runs c [] [] new = new ≡ c
Runs c (h ∷ hs) (o ∷ os) new = (mid : Crowd) × Happens c h o mid × Runs mid hs os new
Runs c hs os new = ⊥

-- a run and one event more
abbrev pub RunsGrow : Type 0
RunsGrow = (c : Crowd) (hs : List Happening) (os : List Outcome) (mid : Crowd) (h : Happening) (o : Outcome) (new : Crowd)
    → Runs c hs os mid → Happens mid h o new → Runs c (hs ++ h ∷ []) (os ++ o ∷ []) new
