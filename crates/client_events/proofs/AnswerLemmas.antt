-- Lines that were answered, one after the other.
use Rattle.std.proofs.Common.{List, [], ◌∷◌, ◌++◌, Some, None, refl, subst}
use Rattle.flight_core.specs.Crowd.{Crowd}
use Rattle.flight_core.specs.Run.{Happening, Runs}
use Rattle.flight_core.specs.Run as run
use Rattle.trace_io.specs.EventGrammar.{Ask, Done}
use Rattle.client_events.specs.Answers.{Item, Suits, AreTo, Answers, AnswersGrow, AnswersAreRuns, AnswersSuit, happening_of, outcome_of}
use Rattle.client_events.specs.Outcome.{Outcome}
use Rattle.client_events.specs.Outcome as outcome

-- one line more
pub grow : AnswersGrow
grow c [] [] mid item o new is step = (new, subst (λ (x : Crowd). Answers x item o new) is step, refl)
grow c [] (y ∷ os) mid item o new is step = absurd is
grow c (x ∷ items) [] mid item o new is step = absurd is
grow c (x ∷ items) (y ∷ os) mid item o new is step = (is.0, is.1, grow is.0 items os mid item o new is.2 step)

-- one line in a run
step : (c : Crowd) (item : Item) (o : Outcome) (mid new : Crowd) (hs : List Happening) (os : List run.Outcome) → Answers c item o mid → Runs mid hs os new → Runs c (happening_of item ++ hs) (outcome_of o ++ os) new
step c None outcome.Bad mid new hs os is rest = subst (λ (x : Crowd). Runs x hs os new) is rest
step c (Some (Ask client call)) (outcome.Revealed k r) mid new hs os is rest = (mid, is.1, rest)
step c (Some (Done flight)) (outcome.Landed l) mid new hs os is rest = (mid, is, rest)
step c item o mid new hs os is rest = absurd is

pub runs : AnswersAreRuns
runs c [] [] new is = is
runs c [] (o ∷ os) new is = absurd is
runs c (item ∷ items) [] new is = absurd is
runs c (item ∷ items) (o ∷ os) new is = step c item o is.0 new _ _ is.1 (runs is.0 items os new is.2)

pub suits : (c : Crowd) (item : Item) (o : Outcome) (new : Crowd) → Answers c item o new → Suits item o
suits c None outcome.Bad new is = tt
suits c (Some (Ask client call)) (outcome.Revealed k r) new is = is.0
suits c (Some (Done flight)) (outcome.Landed l) new is = tt
suits c item o new is = absurd is

pub suit : AnswersSuit
suit c [] [] new is = tt
suit c [] (o ∷ os) new is = absurd is
suit c (item ∷ items) [] new is = absurd is
suit c (item ∷ items) (o ∷ os) new is = (suits c item o is.0 is.1, suit is.0 items os new is.2)

-- one outcome more
pub to_more : (items : List Item) (os : List Outcome) (item : Item) (o : Outcome) → AreTo items os → Suits item o → AreTo (items ++ item ∷ []) (os ++ o ∷ [])
to_more [] [] item o each is = (is, tt)
to_more [] (x ∷ os) item o each is = absurd each
to_more (x ∷ items) [] item o each is = absurd each
to_more (x ∷ items) (y ∷ os) item o each is = (each.0, to_more items os item o each.1 is)
