-- What a text of events says: the items of its text, each an event or None where the line is bad.
use Rattle.std.specs.Prelude.{◌≡◌, ◌<◌, ℕ, if◌then◌else◌, List, [], ◌∷◌, ◌++◌, length, Option}
use Rattle.trace_io.specs.EventGrammar.{EventLine, event_of, is_last_event}
use Rattle.trace_io.specs.Items.{items_of, whole_items_of, left_after}
use Rattle.trace_io.specs.Stream.{Misses}

-- the lines of events
abbrev pub event_reading : List ℕ → List (Option EventLine)
event_reading bytes = items_of event_of is_last_event bytes

-- the same of the lines whose line feed is there
abbrev pub whole_event_reading : List ℕ → List (Option EventLine)
whole_event_reading bytes = whole_items_of event_of is_last_event bytes

-- what stands after the last line of the reading
abbrev pub rest_of_events : List ℕ → List ℕ
rest_of_events bytes = left_after event_of is_last_event bytes

-- a whole line says its event, and what follows is read after it, unless it is the last
abbrev pub EventsGoOn : Type 0
EventsGoOn = (line s : List ℕ) → Misses 10 line
    → event_reading (line ++ 10 ∷ s) ≡ event_of line ∷ (if is_last_event (event_of line) then [] else event_reading s)

-- the last line may lack its line feed
abbrev pub EventsEnd : Type 0
EventsEnd = (line : List ℕ) → Misses 10 line → 0 < length line → event_reading line ≡ event_of line ∷ []
