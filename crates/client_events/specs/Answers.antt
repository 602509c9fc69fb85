-- Lines of events, one after the other, and what comes of each.
use Rattle.std.specs.Prelude.{◌≡◌, List, [], ◌∷◌, ◌++◌, flat_map, Option, Some, None}
use Rattle.std.specs.List.{AllZip}
use Rattle.flight_core.specs.Crowd.{Crowd}
use Rattle.flight_core.specs.Run.{Happens, Runs, Happening}
use Rattle.flight_core.specs.Run as run
use Rattle.trace_io.specs.EventGrammar.{EventLine, Ask, Done}
use Rattle.client_events.specs.Outcome.{Outcome}
use Rattle.client_events.specs.Outcome as outcome

-- a line says an event, or none where it is bad
abbrev pub Item : Type 0
Item = Option EventLine

-- The outcome is one of such a line: a client that asks is revealed something, a flight that is done lands or is none, and a bad line
-- is no event.
abbrev pub Suits : Item → Outcome → Type 0
Suits None outcome.Bad = Unit {0}
Suits (Some (Ask client call)) (outcome.Revealed k r) = k ≡ client
Suits (Some (Done flight)) (outcome.Landed l) = Unit {0}
Suits item o = ⊥

-- one outcome to each of these lines
abbrev pub AreTo : List Item → List Outcome → Type 0
AreTo items outcomes = AllZip Suits items outcomes

-- The crowd goes from one to the other by the line, with this outcome; a bad line changes nothing.
abbrev pub Answers : Crowd → Item → Outcome → Crowd → Type 0
Answers c None outcome.Bad new = new ≡ c
Answers c (Some (Ask client call)) (outcome.Revealed k r) new = (k ≡ client) × Happens c (run.Ask client call) (run.Reveals r) new
Answers c (Some (Done flight)) (outcome.Landed l) new = Happens c (run.Done flight) (run.Ends l) new
Answers c item o new = ⊥

-- all of them, one after the other
abbrev pub AnswersEach : Crowd → List Item → List Outcome → Crowd → Type 0
AnswersEach c [] [] new = new ≡ c
AnswersEach c (item ∷ items) (o ∷ os) new = (mid : Crowd) × Answers c item o mid × AnswersEach mid items os new
AnswersEach c items os new = ⊥

-- lines that were answered, and one more
abbrev pub AnswersGrow : Type 0
AnswersGrow = (c : Crowd) (items : List Item) (os : List Outcome) (mid : Crowd) (item : Item) (o : Outcome) (new : Crowd)
    → AnswersEach c items os mid → Answers mid item o new → AnswersEach c (items ++ item ∷ []) (os ++ o ∷ []) new

-- the event of a line in the crowd's words, if it is one that may be carried out
abbrev pub happening_of : Item → List Happening
happening_of (Some (Ask client call)) = run.Ask client call ∷ []
happening_of (Some (Done flight)) = run.Done flight ∷ []
happening_of item = []

-- and what came of it
abbrev pub outcome_of : Outcome → List run.Outcome
outcome_of outcome.Bad = []
outcome_of (outcome.Revealed client r) = run.Reveals r ∷ []
outcome_of (outcome.Landed l) = run.Ends l ∷ []

-- without the bad lines they are a run of the crowd
abbrev pub AnswersAreRuns : Type 0
AnswersAreRuns = (c : Crowd) (items : List Item) (os : List Outcome) (new : Crowd)
    → AnswersEach c items os new → Runs c (flat_map happening_of items) (flat_map outcome_of os) new

-- and each outcome suits its line
abbrev pub AnswersSuit : Type 0
AnswersSuit = (c : Crowd) (items : List Item) (os : List Outcome) (new : Crowd) → AnswersEach c items os new → AreTo items os
