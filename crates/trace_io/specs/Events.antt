-- What one event after another takes from a source.
use Rattle.std.specs.Prelude.{◌≡◌, ◌≤◌, ℕ, List, false, Option, Some, None}
use Rattle.flat_machine.specs.After.{ends_trace}
use Rattle.flat_machine.specs.Form.{IsInForm}
use Rattle.trace_io.specs.EventGrammar.{EventLine, Ask, Done, Close, Halt, event_of}
use Rattle.trace_io.specs.Progress.{Progress}
use Rattle.trace_io.specs.Taken.{TakesSaid, StopsBy}
use Rattle.trace_io.specs.declared.progress.Stop.{Stop}
use Rattle.trace_io.specs.declared.progress.Stop.TheVariants as stop
use Rattle.trace_io.specs.declared.event.Event.{Event}
use Rattle.trace_io.specs.declared.event.Event.TheVariants as event

-- a line was taken with its line feed, or the last one without, which has a byte
abbrev pub TakesEvent : Option EventLine → Option (List ℕ) → Option (List ℕ) → Progress → Progress → Type 0
TakesEvent item left_old left_new old new = TakesSaid event_of item left_old left_new old new

-- what the next event is
abbrev pub TakesNextEvent : Event → Option (List ℕ) → Option (List ℕ) → Progress → Progress → Type 0
TakesNextEvent (event.Ask client call) left_old left_new old new = TakesEvent (Some (Ask client call)) left_old left_new old new
TakesNextEvent (event.Done flight) left_old left_new old new = TakesEvent (Some (Done flight)) left_old left_new old new
TakesNextEvent event.Close left_old left_new old new = TakesEvent (Some Close) left_old left_new old new
TakesNextEvent event.Halt left_old left_new old new = TakesEvent (Some Halt) left_old left_new old new
TakesNextEvent event.Bad left_old left_new old new = TakesEvent None left_old left_new old new
TakesNextEvent event.End left_old left_new old new = StopsBy stop.End left_old left_new old new
TakesNextEvent event.ReadFault left_old left_new old new = StopsBy stop.ReadFault left_old left_new old new
TakesNextEvent event.Long left_old left_new old new = StopsBy stop.Long left_old left_new old new

-- the answer from then on
abbrev pub event_after : Stop → Event
event_after stop.End = event.End
event_after stop.ReadFault = event.ReadFault
event_after stop.Long = event.Long

-- the event of an item
abbrev pub event_at : Option EventLine → Event
event_at (Some (Ask client call)) = event.Ask client call
event_at (Some (Done flight)) = event.Done flight
event_at (Some Close) = event.Close
event_at (Some Halt) = event.Halt
event_at None = event.Bad

-- a client from 1 to 16 asks, for a call in form that does not end the session
abbrev pub GivesEventForm : Event → Type 0
GivesEventForm (event.Ask client call) = (1 ≤ client) × (client ≤ 16) × IsInForm call × (ends_trace call ≡ false)
GivesEventForm other = Unit {0}
