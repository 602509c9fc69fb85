-- What source and sink have where events end, and what stands then.
use Rattle.std.specs.Prelude.{◌≡◌, ◌⊎◌, ◌^◌, ◌≤◌, ℕ, List, [], ◌∷◌, ◌++◌, length, flat_map, Option, Some}
use Rattle.labelled_disk.specs.declared.evidence.Halt.{Halt}
use Rattle.flat_machine.specs.Machine.{Machine}
use Rattle.flight_core.specs.Crowd.{Crowd}
use Rattle.flight_core.specs.Flights.{crowd_of, LeadsTo}
use Rattle.flight_core.specs.declared.flights.Flights.{Flights}
use Rattle.flight_core.specs.declared.stepped.Stepped.{Ghosts}
use Rattle.trace_io.specs.EventGrammar.{event_of, is_last_event}
use Rattle.trace_io.specs.EventGrammar as event
use Rattle.trace_io.specs.EventReading.{event_reading, whole_event_reading, rest_of_events}
use Rattle.trace_io.specs.Items.{FitsIn}
use Rattle.trace_io.specs.Stream.{IsPrefixOf, Rose}
use Rattle.client_events.specs.Outcome.{Outcome, outcome_lines}
use Rattle.client_events.specs.Answers.{Item, AnswersEach}
use Rattle.client_events.specs.declared.ending.Ending.{Ending}
use Rattle.client_events.specs.declared.ending.Ending.TheVariants as ending

-- A sink that had the bytes t took the lines of outcomes of which this holds, and nothing else.
pub record HasLines (t : List ℕ) (took : Option (List ℕ)) (holds : List Outcome → Type 0) : Type 0 where
  pub outcomes : List Outcome
  pub are : holds outcomes
  pub took_is : took ≡ Some (t ++ flat_map outcome_lines outcomes)

-- The same, but of the lines of the last outcome it took a prefix.
pub record IsCutShort (t : List ℕ) (took : Option (List ℕ)) (holds : List Outcome → Type 0) : Type 0 where
  pub outcomes : List Outcome
  pub last : Outcome
  pub are : holds (outcomes ++ last ∷ [])
  pub prefix : List ℕ
  pub is_prefix : IsPrefixOf prefix (outcome_lines last)
  pub took_is : took ≡ Some (t ++ flat_map outcome_lines outcomes ++ prefix)

-- Of a source with the bytes b some were taken, and the rest is left; these lines are the first ones.
pub record HasTaken (b : List ℕ) (left : Option (List ℕ)) (items : List Item) : Type 0 where
  pub bytes : List ℕ
  pub rest : List ℕ
  pub all : b ≡ bytes ++ rest
  pub left_is : left ≡ Some rest
  pub more : List Item
  pub first : event_reading b ≡ items ++ more

-- they are all that are whole in the bytes taken
abbrev pub TakesWhole : List ℕ → Option (List ℕ) → List Item → Type 0
TakesWhole b left items = (taken : HasTaken b left items) × (whole_event_reading taken.bytes ≡ items)

-- they are; or nothing is left, and they are all
abbrev pub TakesToLast : List ℕ → Option (List ℕ) → List Item → Type 0
TakesToLast b left items = (taken : HasTaken b left items) × ((whole_event_reading taken.bytes ≡ items) ⊎ ((taken.rest ≡ []) × (taken.more ≡ [])))

-- the last line of the text is this one, the others stand before it, and what stands after it is left
abbrev pub TakesUpTo : List ℕ → Option (List ℕ) → List Item → Item → Type 0
TakesUpTo b left items last = (event_reading b ≡ items ++ last ∷ []) × (left ≡ Some (rest_of_events b))

-- Events of a source with the bytes b were answered to a sink that had the bytes t. By how they ended: which lines were taken, and
-- what was written of them. `each` holds of the lines that were carried out, with what came of them; `halted` of those before one
-- that halted, and of that one.
abbrev pub Ended : Ending → List ℕ → Option (List ℕ) → List ℕ → Option (List ℕ) → (List Item → List Outcome → Type 0) → (Halt → List Item → Item → List Outcome → Type 0) → Type 0
-- all lines before the one that ends the text
Ended ending.Close b left t took each halted = (items : List Item) × TakesUpTo b left items (Some event.Close) × HasLines t took (each items)
Ended ending.Halt b left t took each halted = (items : List Item) × TakesUpTo b left items (Some event.Halt) × HasLines t took (each items)
-- all lines of the text
Ended ending.End b left t took each halted = (left ≡ Some []) × HasLines t took (each (event_reading b))
-- all that are whole in the bytes taken, which are as many as the limit
Ended ending.Long b left t took each halted =
    (items : List Item) × ((takes : TakesWhole b left items) × (length takes.0.bytes ≡ 2 ^ 32)) × HasLines t took (each items)
-- all that are whole in the bytes taken
Ended ending.ReadFault b left t took each halted = (items : List Item) × TakesWhole b left items × HasLines t took (each items)
-- the same, but of the last one a prefix of its lines
Ended ending.SinkFault b left t took each halted = (items : List Item) × TakesToLast b left items × IsCutShort t took (each items)
-- all lines before the one that halted
Ended (ending.Halted why) b left t took each halted =
    (items : List Item) × (item : Item) × TakesToLast b left (items ++ item ∷ []) × HasLines t took (halted why items item)

-- Why events ended so: whether the text fits in the limit, and whether the faults of the source or the sink rose; they never fall.
pub record HasReason (how : Ending) (left : Option (List ℕ)) (source_before source_now sink_before sink_now : ℕ) : Type 0 where
  pub short : (b : List ℕ) → left ≡ Some b → (how ≡ ending.Close) ⊎ (how ≡ ending.Halt) ⊎ (how ≡ ending.End) → FitsIn event_of is_last_event (2 ^ 32) b
  pub long : (b : List ℕ) → left ≡ Some b → how ≡ ending.Long → ¬ FitsIn event_of is_last_event (2 ^ 32) b
  pub source : how ≡ ending.ReadFault → Rose source_before source_now
  pub sink : how ≡ ending.SinkFault → Rose sink_before sink_now
  pub source_later : source_before ≤ source_now
  pub sink_later : sink_before ≤ sink_now

-- no call halted
abbrev pub IsGoing : Ending → Type 0
IsGoing (ending.Halted why) = ⊥
IsGoing other = Unit {0}

-- this holds of why it halted, if it did
abbrev pub IfHalted : Ending → (Halt → Type 0) → Type 0
IfHalted (ending.Halted why) holds = holds why
IfHalted other holds = Unit {0}

module _ {S : Type 0} {G : Ghosts S} where
  -- these lines lead from the crowd that was kept to the one that is kept now, with what came of them
  abbrev pub Leads : Machine → Flights S G → Flights S G → List Item → List Outcome → Type 0
  Leads m old new items outcomes = LeadsTo (λ n. crowd_of n new) (G.stands new.stepped) (AnswersEach (crowd_of m old) items outcomes)

  -- it halted, from a state of which this holds, and the halt is accounted for between that state and now
  abbrev pub HaltedFrom : (S → Type 0) → Flights S G → Halt → Type 0
  HaltedFrom was new why = (mid : S) × was mid × G.accounted mid new.stepped why

  -- they lead to a crowd, and it halted from a state that stood for that crowd's machine
  abbrev pub LeadsToHalt : Machine → Flights S G → Flights S G → Halt → List Item → Item → List Outcome → Type 0
  LeadsToHalt m old new why items item outcomes =
      (c : Crowd) × AnswersEach (crowd_of m old) items outcomes c × HaltedFrom (λ s. G.stands s c.machine) new why

  -- A halt is accounted for between the first state and the last one; and where no call halted, what is accounted for from the last one
  -- on is so from the first.
  pub record AccountsFor (how : Ending) (old new : Flights S G) : Type 0 where
    pub cause : IfHalted how (λ why. G.accounted old.stepped new.stepped why)
    pub later : (s : S) (e : Halt) → IsGoing how → G.accounted new.stepped s e → G.accounted old.stepped s e
