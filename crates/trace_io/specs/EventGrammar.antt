-- What a line of events says, by its words.
use Rattle.std.specs.Prelude.{◌≡◌, ℕ, ◌^◌, ◌&&◌, Bool, false, true, nat_lt, nat_le, if◌then◌else◌, List, [], ◌∷◌, length, codes, Option, Some, None}
use Rattle.std.specs.Str.{bytes_eq}
use Rattle.std.specs.Str.Parse.{digits_value}
use Rattle.flat_machine.specs.After.{ends_trace}
use Rattle.flat_machine.specs.declared.call.Call.{Call}
use Rattle.trace_io.specs.Grammar.{◌>>=◌, both, is_plain, number_of, nothing, words_of, call_of_words}

-- a client asks for a call; a flight is done; the session is closed; it is halted
pub data EventLine : Type 0 where
  Ask : ℕ → Call → EventLine
  Done : ℕ → EventLine
  Close : EventLine
  Halt : EventLine

-- the number of some decimal digits, if it is below 2 ^ 64
unfoldable pub wide_value_of : List ℕ → Option ℕ
wide_value_of word = if nat_lt (digits_value 10 word) (2 ^ 64) then Some (digits_value 10 word) else None

-- a flight: a number below 2 ^ 64 in decimal digits, without a leading zero
unfoldable pub flight_of : List ℕ → Option ℕ
flight_of word = if is_plain word then wide_value_of word else None

-- a client: a number from 1 to 16
unfoldable pub client_of : List ℕ → Option ℕ
client_of word = do
  n ← number_of word
  if nat_le 1 n && nat_le n 16 then Some n else None

-- a call that does not end the session
unfoldable pub unending_of : List (List ℕ) → Option Call
unending_of words = do
  c ← call_of_words words
  if ends_trace c then None else Some c

-- The fields after the first word.
unfoldable pub client_and_call : List (List ℕ) → Option (ℕ × Call)
client_and_call (c ∷ w ∷ words) = both (client_of c) (unending_of (w ∷ words))
client_and_call words = None

unfoldable pub only_flight : List (List ℕ) → Option ℕ
only_flight (f ∷ []) = flight_of f
only_flight words = None

-- the events by their first word
abbrev pub asked : List (List ℕ) → Option EventLine
asked words = do
  f ← client_and_call words
  Some (Ask f.0 f.1)

abbrev pub landed : List (List ℕ) → Option EventLine
landed words = do
  f ← only_flight words
  Some (Done f)

abbrev pub closed : List (List ℕ) → Option EventLine
closed words = do
  f ← nothing words
  Some Close

abbrev pub halted : List (List ℕ) → Option EventLine
halted words = do
  f ← nothing words
  Some Halt

-- the event of a line of these words
unfoldable pub event_of_words : List (List ℕ) → Option EventLine
event_of_words [] = None
event_of_words (word ∷ fields) =
    if bytes_eq word (codes "on") then asked fields
    else if bytes_eq word (codes "done") then landed fields
    else if bytes_eq word (codes "close") then closed fields
    else if bytes_eq word (codes "halt") then halted fields
    else None

-- the event of a line, if it is one: it has at most 255 bytes
unfoldable pub event_of : List ℕ → Option EventLine
event_of line = if nat_le (length line) 255 then event_of_words (words_of line) else None

-- a client asks by the line for the call of the other one
abbrev pub AsksFor : List ℕ → ℕ → List ℕ → Type 0
AsksFor line client rest = (word : List ℕ) × (fields : List (List ℕ)) × (words_of line ≡ word ∷ fields) × (bytes_eq word (codes "on") ≡ true)
    × (client_and_call fields ≡ both (Some client) (unending_of (words_of rest)))

-- no client asks by the line for any call, though its first word be `on`
abbrev pub AsksNothing : List ℕ → Type 0
AsksNothing line = (word : List ℕ) (fields : List (List ℕ)) → words_of line ≡ word ∷ fields → bytes_eq word (codes "on") ≡ true → client_and_call fields ≡ None

-- whether a line is the last that is read
abbrev pub is_last_event : Option EventLine → Bool
is_last_event (Some Close) = true
is_last_event (Some Halt) = true
is_last_event item = false
