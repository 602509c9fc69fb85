-- What one line does, and what is written of it.
use Rattle.std.specs.Prelude.{◌≡◌, ◌⊎◌, ◌<◌, ◌≤◌, ◌+◌, ℕ, List, [], Option, Some, None, false}
use Rattle.std.specs.Io.KnownBytes.{Appends, Consumes, IsAtEnd}
use Rattle.labelled_disk.specs.declared.evidence.Halt.{Halt}
use Rattle.labelled_disk.specs.declared.evidence.Halt.TheVariants as why
use Rattle.labelled_disk.specs.Calls.{Rose}
use Rattle.flat_machine.specs.Machine.{Machine}
use Rattle.flight_core.specs.Flights.{crowd_of, LeadsTo}
use Rattle.flight_core.specs.declared.flights.Flights.{Flights}
use Rattle.flight_core.specs.declared.stepped.Stepped.{Ghosts}
use Rattle.trace_io.specs.EventGrammar.{is_last_event}
use Rattle.trace_io.specs.EventGrammar as event
use Rattle.trace_io.specs.Events.{TakesEvent}
use Rattle.trace_io.specs.Progress.{Progress}
use Rattle.trace_io.specs.Stream.{AppendsPrefix}
use Rattle.trace_io.specs.Taken.{TakesPart}
use Rattle.trace_io.specs.declared.progress.Stop.TheVariants as stop
use Rattle.client_events.specs.Answers.{Item, Suits, Answers}
use Rattle.client_events.specs.Ending.{IfHalted, IsGoing}
use Rattle.client_events.specs.Outcome.{Outcome, outcome_lines}
use Rattle.client_events.specs.declared.ending.Ending.{Ending}
use Rattle.client_events.specs.declared.ending.Ending.TheVariants as ending
use Rattle.client_events.specs.declared.turn.Turn.{Turn}
use Rattle.client_events.specs.declared.turn.Turn.TheVariants as turn

-- What was taken where no line follows. An event that halts is one that others may follow, and `carried` holds of it.
abbrev pub EndsSo : Ending → Option (List ℕ) → Option (List ℕ) → Progress → Progress → (Item → Type 0) → Type 0
EndsSo ending.Close b c p q carried = (p.stopped ≡ None) × TakesEvent (Some event.Close) b c p q
EndsSo ending.Halt b c p q carried = (p.stopped ≡ None) × TakesEvent (Some event.Halt) b c p q
EndsSo ending.End b c p q carried = ((p.stopped ≡ None) × Consumes b c [] × IsAtEnd c × (p.taken < p.limit)) ⊎ ((p.stopped ≡ Some stop.End) × (c ≡ b))
EndsSo ending.Long b c p q carried = (p.stopped ≡ None) × TakesPart stop.Long b c p q × (q.taken ≡ q.limit)
EndsSo ending.ReadFault b c p q carried = (p.stopped ≡ None) × TakesPart stop.ReadFault b c p q
EndsSo ending.SinkFault b c p q carried = ⊥
EndsSo (ending.Halted halt) b c p q carried = (p.stopped ≡ None) × (item : Item) × TakesEvent item b c p q × (is_last_event item ≡ false) × carried item

-- A line was taken that others may follow, and this is its outcome; `step` holds of the line and its outcome, and `carried` of the
-- line.
abbrev pub Comes : Outcome → Option (List ℕ) → Option (List ℕ) → Progress → Progress → (Item → Outcome → Type 0) → (Item → Type 0) → Type 0
Comes o b c p q step carried = (p.stopped ≡ None) × (item : Item) × TakesEvent item b c p q × (is_last_event item ≡ false) × Suits item o × step item o × carried item

-- What a turn takes from the source, and what the sink, which took t before and now u: the lines of the outcome, or a prefix of
-- them where it failed, and nothing where events end.
abbrev pub Turns : Turn → Option (List ℕ) → Option (List ℕ) → Progress → Progress → Option (List ℕ) → Option (List ℕ) → (Item → Outcome → Type 0) → (Item → Type 0) → Type 0
Turns turn.Written b c p q t u step carried = (o : Outcome) × Comes o b c p q step carried × Appends t u (outcome_lines o)
Turns turn.CutShort b c p q t u step carried = (o : Outcome) × Comes o b c p q step carried × AppendsPrefix t u (outcome_lines o)
Turns (turn.Ends how) b c p q t u step carried = EndsSo how b c p q carried × (u ≡ t)

-- What is carried out of a line, and what the sink takes of it, as in a turn; where it halts, nothing.
abbrev pub Answered : Turn → Item → Option (List ℕ) → Option (List ℕ) → (Item → Outcome → Type 0) → (Item → Type 0) → Type 0
Answered turn.Written item t u step carried = (o : Outcome) × Suits item o × step item o × carried item × Appends t u (outcome_lines o)
Answered turn.CutShort item t u step carried = (o : Outcome) × Suits item o × step item o × carried item × AppendsPrefix t u (outcome_lines o)
Answered (turn.Ends (ending.Halted halt)) item t u step carried = carried item × (u ≡ t)
Answered (turn.Ends how) item t u step carried = ⊥

-- no event was carried out
abbrev pub IsIdle : Turn → Type 0
IsIdle (turn.Ends how) = IsGoing how
IsIdle other = ⊥

-- it runs, unless it halted
abbrev pub RunsOn : Turn → Type 0 → Type 0
RunsOn (turn.Ends how) runs = IsGoing how → runs
RunsOn other runs = runs

-- this holds of why it halted, if it did
abbrev pub IfHalts : Turn → (Halt → Type 0) → Type 0
IfHalts (turn.Ends how) holds = IfHalted how holds
IfHalts other holds = Unit {0}

-- The faults never fall, and rose where it failed.
pub record FaultsIf (failed : Type 0) (before now : ℕ) : Type 0 where
  pub later : before ≤ now
  pub cause : failed → Rose before now

module _ {S : Type 0} {G : Ghosts S} where
  -- the line leads from the crowd that was kept to the one that is kept now, whatever machine is stood for
  abbrev pub Steps : Flights S G → Flights S G → Item → Outcome → Type 0
  Steps old new item o = (m : Machine) → G.stands old.stepped m → LeadsTo (λ n. crowd_of n new) (G.stands new.stepped) (Answers (crowd_of m old) item o)

  -- Unless it halted, what is stepped runs on, and what is accounted for from then on is so from before; at most 16 flights more have
  -- begun. A halt is accounted for, and is `Disk` where a machine is stood for.
  pub record Keeps (how : Turn) (old new : Flights S G) : Type 0 where
    pub goes_on : RunsOn how (G.runs new.stepped)
    pub later : (s : S) (e : Halt) → RunsOn how (G.accounted new.stepped s e → G.accounted old.stepped s e)
    pub few : new.begun ≤ old.begun + 16
    pub cause : IfHalts how (λ e. G.accounted old.stepped new.stepped e)
    pub sound : (m : Machine) → G.stands old.stepped m → IfHalts how (λ e. e ≡ why.Disk)
