-- The fields of an event, and that what is asked is in form.
use Rattle.std.proofs.Common.{◌≡◌, inl, inr, ℕ, ◌<◌, ◌≤◌, Bool, true, false, cond, nat_le, List, [], ◌∷◌, length, Option, Some, None, refl, sym, ap, ◌∙◌, subst, arith}
use Rattle.std.specs.Prelude.{◌&&◌, codes, if◌then◌else◌, IfNone, IfSome}
use Rattle.std.specs.Borrow.{Bor}
use Rattle.std.specs.Str.{bytes_eq}
use Rattle.flat_machine.specs.After.{ends_trace}
use Rattle.flat_machine.specs.Form.{IsInForm}
use Rattle.flat_machine.specs.declared.call.Call.{Call}
use Rattle.trace_io.specs.Grammar.{◌>>=◌, both, number_of, nothing, words_of, call_of, call_of_words}
use Rattle.trace_io.specs.EventGrammar.{EventLine, Ask, Done, Close, Halt, AsksFor, AsksNothing, client_of, unending_of, client_and_call, only_flight, asked, landed, closed, halted, event_of_words, event_of}
use Rattle.trace_io.specs.Events.{event_at, GivesEventForm}
use Rattle.trace_io.specs.declared.event.Event.{Event}
use Rattle.trace_io.specs.declared.event.Event.TheVariants as event
use Rattle.trace_io.proofs.WordLemmas.{words_some}
use Rattle.trace_io.proofs.LongLines.{cases_bool, some_same, then_some, cond_some, both-some}
use Rattle.trace_io.proofs.Form.{words-form}

-- a flight is the only word
pub only_flight-more : (word : List ℕ) (ws : List (List ℕ)) → 0 < length ws → None ≡ only_flight (word ∷ ws)
unfolding only_flight
only_flight-more word [] some = absurd (omega arith)
only_flight-more word (w ∷ ws) some = refl

client_and_call-pair : (a : List ℕ) (ws : List (List ℕ)) → 0 < length ws → both (client_of a) (unending_of ws) ≡ client_and_call (a ∷ ws)
unfolding client_and_call
client_and_call-pair a [] some = absurd (omega arith)
client_and_call-pair a (w ∷ ws) some = refl

-- a client and the words after it
pub client_and_call_last : (a text : List ℕ) → both (client_of a) (unending_of (words_of text)) ≡ client_and_call (a ∷ words_of text)
client_and_call_last a text = client_and_call-pair a (words_of text) (words_some text)

-- What is asked is in form.

cond_other : {A : Type 0} (b : Bool) (o : Option A) (y : A) → cond b None o ≡ Some y → (b ≡ false) × (o ≡ Some y)
cond_other true o y e = cc
cond_other false o y e = (refl, e)

client-range : (word : List ℕ) (n : ℕ) → client_of word ≡ Some n → (1 ≤ n) × (n ≤ 16)
unfolding client_of
client-range word n e =
    let got = then_some _ (number_of word) n e in
    let test = cond_some (nat_le 1 got.0 && nat_le got.0 16) (Some got.0) n got.2 in
    let same : got.0 ≡ n = some_same test.1 in
    let low : 1 ≤ got.0 = grind arith in
    let high : got.0 ≤ 16 = grind arith in
    (omega arith, omega arith)

unending-form : (ws : List (List ℕ)) (c : Call) → unending_of ws ≡ Some c → IsInForm c × (ends_trace c ≡ false)
unfolding unending_of
unending-form ws c e =
    let got = then_some _ (call_of_words ws) c e in
    let test = cond_other (ends_trace got.0) (Some got.0) c got.2 in
    let same : got.0 ≡ c = some_same test.1 in
    (subst IsInForm same (words-form ws got.0 got.1), ap ends_trace (sym same) ∙ test.0)

abbrev HasForm : ℕ × Call → Type 0
HasForm f = (1 ≤ f.0) × (f.0 ≤ 16) × IsInForm f.1 × (ends_trace f.1 ≡ false)

client_and_call-form : (ws : List (List ℕ)) (f : ℕ × Call) → client_and_call ws ≡ Some f → HasForm f
unfolding client_and_call
client_and_call-form (c ∷ w ∷ ws) f e =
    let s = both-some (client_of c) (unending_of (w ∷ ws)) f e in
    let range = client-range c s.0 s.2 in
    let form = unending-form (w ∷ ws) s.1 s.3 in
    subst HasForm s.4 (range.0, range.1, form.0, form.1)
client_and_call-form ws f e = absurd (cc)

asked-form : (o : Option (ℕ × Call)) → ((f : ℕ × Call) → o ≡ Some f → HasForm f) → GivesEventForm (event_at (o >>= (λ f. Some (Ask f.0 f.1))))
asked-form None form = tt
asked-form (Some f) form = form f refl

landed-form : (o : Option ℕ) → GivesEventForm (event_at (o >>= (λ f. Some (Done f))))
landed-form None = tt
landed-form (Some f) = tt

closed-form : (o : Option (Unit {0})) → GivesEventForm (event_at (o >>= (λ f. Some Close)))
closed-form None = tt
closed-form (Some f) = tt

halted-form : (o : Option (Unit {0})) → GivesEventForm (event_at (o >>= (λ f. Some Halt)))
halted-form None = tt
halted-form (Some f) = tt

by_word : (on done close halt : Bool) (ws : List (List ℕ)) → GivesEventForm (event_at (if on then asked ws else if done then landed ws else if close then closed ws else if halt then halted ws else None))
by_word true done close halt ws = asked-form (client_and_call ws) (client_and_call-form ws)
by_word false true close halt ws = landed-form (only_flight ws)
by_word false false true halt ws = closed-form (nothing ws)
by_word false false false true ws = halted-form (nothing ws)
by_word false false false false ws = tt

words_give_form : (ws : List (List ℕ)) → GivesEventForm (event_at (event_of_words ws))
unfolding event_of_words
words_give_form [] = tt
words_give_form (word ∷ ws) =
    by_word (bytes_eq word (codes "on")) (bytes_eq word (codes "done")) (bytes_eq word (codes "close")) (bytes_eq word (codes "halt")) ws

by_length : (short : Bool) (ws : List (List ℕ)) → GivesEventForm (event_at (if short then event_of_words ws else None))
by_length true ws = words_give_form ws
by_length false ws = tt

line_gives_form : (line : List ℕ) → GivesEventForm (event_at (event_of line))
unfolding event_of
line_gives_form line = by_length (nat_le (length line) 255) (words_of line)

pub event-form : (e : Event) (line : List ℕ) → e ≡ event_at (event_of line) → GivesEventForm e
event-form e line is = subst GivesEventForm (sym is) (line_gives_form line)

-- A line is an event only if it is held.

pub event_of-short : (line : List ℕ) → length line ≤ 255 → event_of line ≡ event_of_words (words_of line)
unfolding event_of
event_of-short line short = let fits : nat_le (length line) 255 ≡ true = grind arith in rw fits refl

pub event_of-long : (line : List ℕ) → 255 < length line → None ≡ event_of line
unfolding event_of
event_of-long line long = let past : nat_le (length line) 255 ≡ false = grind arith in rw past refl

-- Who asks, and for what.

-- the event of a client and what its line says, if that is a call
abbrev asking_item : ℕ → Option Call → Option EventLine
asking_item client None = None
asking_item client (Some c) = if ends_trace c then None else Some (Ask client c)

item_asked : (client : ℕ) (o : Option Call) → both (Some client) (o >>= (λ c. if ends_trace c then None else Some c)) >>= (λ f. Some (Ask f.0 f.1)) ≡ asking_item client o
item_asked client None = refl
item_asked client (Some c) =
    elim (cases_bool (ends_trace c)) [
      | inl ends ↦ rw ends refl
      | inr more ↦ rw more refl
    ]

asked_of : (client : ℕ) (o : Option Call) (rest : List ℕ) (fields : List (List ℕ)) → client_and_call fields ≡ both (Some client) (unending_of (words_of rest)) → call_of rest ≡ o → asked fields ≡ asking_item client o
unfolding unending_of
asked_of client o rest fields asks says =
    ap (λ (f : Option (ℕ × Call)). f >>= (λ f. Some (Ask f.0 f.1))) asks
    ∙ ap (λ (k : Option Call). both (Some client) (k >>= (λ c. if ends_trace c then None else Some c)) >>= (λ f. Some (Ask f.0 f.1))) says
    ∙ item_asked client o

module _ (line rest : List ℕ) (client : ℕ) (short : length line ≤ 255) (asks : AsksFor line client rest) where
  event_of-asked : (o : Option Call) → call_of rest ≡ o → event_of line ≡ asking_item client o
  unfolding event_of_words
  event_of-asked o says = event_of-short line short ∙ rw (asks.2, asks.3) (asked_of client o rest asks.1 asks.4 says)

  pub asks_no_call : call_of rest ≡ None → event.Bad ≡ event_at (event_of line)
  asks_no_call says = ap event_at (sym (event_of-asked None says))

  pub asks_an_end : (c : Call) → call_of rest ≡ Some c → ends_trace c ≡ true → event.Bad ≡ event_at (event_of line)
  asks_an_end c says ends =
      let none : asking_item client (Some c) ≡ None = rw ends refl in
      ap event_at (sym (event_of-asked (Some c) says ∙ none))

  pub asks_a_call : (c : Call) → call_of rest ≡ Some c → ends_trace c ≡ false → event.Ask client c ≡ event_at (event_of line)
  asks_a_call c says more =
      let some : asking_item client (Some c) ≡ Some (Ask client c) = rw more refl in
      ap event_at (sym (event_of-asked (Some c) says ∙ some))

-- the word `on` alone, or with what asks for no call, is no event
pub event_of-nothing : (line word : List ℕ) (fields : List (List ℕ)) → words_of line ≡ word ∷ fields → bytes_eq word (codes "on") ≡ true → client_and_call fields ≡ None → None ≡ event_of_words (words_of line)
unfolding event_of_words
event_of-nothing line word fields words test none = rw (words, test, none) refl

-- why no client asks: the first word is another, there is none after it, or what follows does not say so
pub asks_nothing : (line word : List ℕ) (fields : List (List ℕ)) → words_of line ≡ word ∷ fields → (bytes_eq word (codes "on") ≡ true → client_and_call fields ≡ None) → AsksNothing line
asks_nothing line word fields words none other more same test =
    let heads : (other ≡ word) × (more ≡ fields) = (cc (words, same), cc (words, same)) in
    subst (λ (fs : List (List ℕ)). client_and_call fs ≡ None) (sym heads.1) (none (ap (λ (w : List ℕ). bytes_eq w (codes "on")) (sym heads.0) ∙ test))

none_alone : client_and_call [] ≡ None
unfolding client_and_call
none_alone = refl

pub asks_alone : (line word : List ℕ) → words_of line ≡ word ∷ [] → AsksNothing line
asks_alone line word words = asks_nothing line word [] words (λ test. none_alone)

-- by what follows the word
module _ (line word text : List ℕ) (words : words_of line ≡ word ∷ words_of text) where
  pub asks_by : (o : Option (ℕ × Bor (List ℕ))) → bytes_eq word (codes "on") ≡ true
      → IfSome o (λ p. client_and_call (words_of text) ≡ both (Some p.0) (unending_of (words_of p.1.now))) → IfSome o (λ p. AsksFor line p.0 p.1.now)
  asks_by None test asks = tt
  asks_by (Some p) test asks = (word, words_of text, words, test, asks)

  pub asks_none_by : (o : Option (ℕ × Bor (List ℕ))) → IfNone o (client_and_call (words_of text) ≡ None) → IfNone o (AsksNothing line)
  asks_none_by None none = asks_nothing line word (words_of text) words (λ test. none)
  asks_none_by (Some p) none = tt
