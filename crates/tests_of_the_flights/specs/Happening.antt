-- Events as they are carried out, and what comes of them, in the crowd's words.
use Rattle.std.specs.Prelude.{◌≡◌, ℕ, false, List, map, take}
use Rattle.flat_machine.specs.Form.{IsInForm}
use Rattle.flat_machine.specs.After.{ends_trace}
use Rattle.flight_core.specs.Pending.{IsClient}
use Rattle.flight_core.specs.Run.{Happening, Outcome}
use Rattle.flight_core.specs.Run as run
use Rattle.flight_core.specs.Crowd.{Crowd}
use Rattle.tests_of_the_flights.specs.declared.happen.Event.{Event}
use Rattle.tests_of_the_flights.specs.declared.happen.Event.TheVariants as event
use Rattle.tests_of_the_flights.specs.declared.happen.Outcome.{Outcome as Comes}
use Rattle.tests_of_the_flights.specs.declared.happen.Outcome.TheVariants as comes

-- the event, and what comes of one
abbrev pub happening : Event → Happening
happening (event.Ask client call) = run.Ask client call
happening (event.Done flight) = run.Done flight

abbrev pub outcome : Comes → Outcome
outcome (comes.Revealed r) = run.Reveals r
outcome (comes.Landed l) = run.Ends l

-- a client asks for a call in form that ends no session
abbrev pub MayHappen : Event → Type 0
MayHappen (event.Ask client call) = IsClient client × IsInForm call × (ends_trace call ≡ false)
MayHappen (event.Done flight) = Unit {0}

-- these events happened one after the other, with these outcomes
abbrev pub HappenAll : Crowd → List Event → List Comes → Crowd → Type 0
HappenAll before events outcomes after = run.Runs before (map happening events) (map outcome outcomes) after

-- the first of these events happened, with these outcomes
pub record Happened (before : Crowd) (events : List Event) (outcomes : List Comes) : Type 0 where
  pub count : ℕ
  pub after : Crowd
  pub happen : HappenAll before (take count events) outcomes after
