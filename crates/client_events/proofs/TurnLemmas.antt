-- What one line takes, and what comes of it.
use Rattle.std.proofs.Common.{◌≡◌, inl, inr, ℕ, ◌+◌, ◌<◌, ◌≤◌, List, [], ◌∷◌, length, Option, Some, Result, Ok, refl, ap, subst, arith, length-append}
use Rattle.std.specs.Prelude.{IfOk, OnOk}
use Rattle.labelled_disk.specs.declared.evidence.Halt.{Halt}
use Rattle.flat_machine.specs.Machine.{Machine}
use Rattle.flat_machine.specs.declared.call.Call.{Call}
use Rattle.flight_core.specs.Crowd.{Asks}
use Rattle.flight_core.specs.Flights.{crowd_of, LeadsTo}
use Rattle.flight_core.specs.declared.answers.Revealed.{Revealed}
use Rattle.flight_core.specs.declared.flights.Flights.{Flights}
use Rattle.flight_core.specs.declared.stepped.Stepped.{Ghosts}
use Rattle.trace_io.specs.EventGrammar as event
use Rattle.trace_io.specs.EventGrammar.{is_last_event}
use Rattle.trace_io.specs.Events.{TakesEvent}
use Rattle.trace_io.specs.Progress.{Progress}
use Rattle.client_events.specs.Answers.{Item}
use Rattle.client_events.specs.Outcome.{Outcome}
use Rattle.client_events.specs.Outcome as outcome
use Rattle.client_events.specs.Turn.{Keeps, Steps}
use Rattle.client_events.specs.declared.turn.Turn.TheVariants as turn

-- a line has a byte
pub takes_more : (item : Item) (b c : Option (List ℕ)) (p q : Progress) → TakesEvent item b c p q → p.taken < q.taken
takes_more item b c p q takes =
    elim takes.ends [
      | inl fed ↦ omega (arith, takes.taken, ap length fed.0, length-append takes.line (10 ∷ []))
      | inr ended ↦ omega (arith, takes.taken, ap length ended.0, ended.1)
    ]

-- A client asked, and what it gets is known.
module _ {S : Type 0} {G : Ghosts S} (old new : Flights S G) (result : Result Revealed Halt) (r : Revealed) (is : result ≡ Ok r) where
  pub steps_asked : (client : ℕ) (call : Call) → ((m : Machine) → G.stands old.stepped m → IfOk result (λ t. LeadsTo (λ n. crowd_of n new) (G.stands new.stepped) (Asks (crowd_of m old) client call t)))
      → Steps old new (Some (event.Ask client call)) (outcome.Revealed client r)
  steps_asked client call asked m stands =
      let led = subst (λ (x : Result Revealed Halt). IfOk x (λ t. LeadsTo (λ n. crowd_of n new) (G.stands new.stepped) (Asks (crowd_of m old) client call t))) is (asked m stands) in
      (led.0, (refl, led.1), led.2)

  on_ok : {P : Type 0} → OnOk result P → P
  on_ok {P = P} holds = subst (λ (x : Result Revealed Halt). OnOk x P) is holds

  pub keeps_written : OnOk result (G.runs new.stepped) → ((s : S) (e : Halt) → OnOk result (G.accounted new.stepped s e → G.accounted old.stepped s e)) → new.begun ≤ old.begun + 1 → Keeps turn.Written old new
  keeps_written goes_on later few = record { goes_on = on_ok goes_on; later = λ s e. on_ok (later s e); few = omega (arith, few); cause = tt; sound = λ m stands. tt }

  pub keeps_cut_short : OnOk result (G.runs new.stepped) → ((s : S) (e : Halt) → OnOk result (G.accounted new.stepped s e → G.accounted old.stepped s e)) → new.begun ≤ old.begun + 1 → Keeps turn.CutShort old new
  keeps_cut_short goes_on later few = record { goes_on = on_ok goes_on; later = λ s e. on_ok (later s e); few = omega (arith, few); cause = tt; sound = λ m stands. tt }
