-- Events, line by line.
use Rattle.std.proofs.Common.{◌≡◌, inl, inr, ℕ, List, [], ◌∷◌, ◌++◌, false, Option, Some, None, refl, sym, ap, ◌∙◌, subst, append-nil}
use Rattle.std.specs.Prelude.{flat_map}
use Rattle.std.specs.Io.KnownBytes.{Consumes, Appends, IsAtEnd}
use Rattle.std.proofs.KnownBytes.{Appends-trans, Appends-nil}
use Rattle.std.proofs.lemmas.List.{flat_map_more}
use Rattle.flat_machine.specs.Machine.{Machine}
use Rattle.flight_core.specs.Flights.{crowd_of}
use Rattle.flight_core.specs.declared.flights.Flights.{Flights}
use Rattle.flight_core.specs.declared.stepped.Stepped.{Ghosts}
use Rattle.trace_io.specs.EventGrammar.{event_of, is_last_event}
use Rattle.trace_io.specs.Events.{TakesEvent}
use Rattle.trace_io.specs.EventReading.{event_reading, whole_event_reading}
use Rattle.trace_io.specs.ItemCourse.{HasItems, ItemsGoOn}
use Rattle.trace_io.specs.Progress.{Progress}
use Rattle.trace_io.specs.declared.progress.Stop.{Stop}
use Rattle.trace_io.specs.declared.progress.Stop.TheVariants as stop
use Rattle.trace_io.proofs.ItemCourseLemmas.{HasItems-none, HasItems-line, HasItems-item}
use Rattle.client_events.specs.Outcome.{Outcome, outcome_lines}
use Rattle.client_events.specs.Answers.{Item, Suits, AreTo}
use Rattle.client_events.specs.Ending.{HasTaken, TakesToLast, Leads}
use Rattle.client_events.specs.Turn.{Steps}
use Rattle.client_events.proofs.AnswerLemmas.{grow, to_more}

-- So many lines are answered, and this holds of them.
pub record Going (a b t u : Option (List ℕ)) (p : Progress) (holds : List Item → List Outcome → Type 0) : Type 0 where
  pub items : List Item
  pub outcomes : List Outcome
  pub read : HasItems event_of is_last_event a b p items
  pub wrote : Appends t u (flat_map outcome_lines outcomes)
  pub suit : AreTo items outcomes
  pub are : holds items outcomes

pub Going-start : (a t : Option (List ℕ)) (p : Progress) (holds : List Item → List Outcome → Type 0) → p.taken ≡ 0 → p.stopped ≡ None → holds [] [] → Going a a t t p holds
Going-start a t p holds zero none are = record {
  items = [];
  outcomes = [];
  read = HasItems-none event_of is_last_event a p zero none;
  wrote = Appends-nil t;
  suit = tt;
  are = are;
}

module _ {a b t u : Option (List ℕ)} {p : Progress} {holds : List Item → List Outcome → Type 0} (going : Going a b t u p holds) where
  -- a line was answered, and others follow
  pub Going-more : {c v : Option (List ℕ)} {q : Progress} {item : Item} {then : List Item → List Outcome → Type 0} (o : Outcome) → p.stopped ≡ None → TakesEvent item b c p q → is_last_event item ≡ false → Suits item o
      → ((items : List Item) (os : List Outcome) → holds items os → then (items ++ item ∷ []) (os ++ o ∷ [])) → Appends u v (outcome_lines o) → Going a c t v q then
  Going-more {c = c} {v = v} {q = q} {item = item} o none takes more is grows wrote = record {
    items = going.items ++ item ∷ [];
    outcomes = going.outcomes ++ o ∷ [];
    read = HasItems-line event_of is_last_event a b c p q going.items item going.read none takes more;
    wrote = subst (λ (bytes : List ℕ). Appends t v bytes) (flat_map_more outcome_lines [] going.outcomes o) (Appends-trans t u v (flat_map outcome_lines going.outcomes) (outcome_lines o) going.wrote wrote);
    suit = to_more going.items going.outcomes item o going.suit is;
    are = grows going.items going.outcomes going.are;
  }

  -- these very lines
  pub Going-tied : Going a b t u p (λ items os. holds items os × (items ≡ going.items))
  Going-tied = record { items = going.items; outcomes = going.outcomes; read = going.read; wrote = going.wrote; suit = going.suit; are = (going.are, refl) }

  -- the sink took nothing since
  pub Going-silent : {v : Option (List ℕ)} → v ≡ u → Going a b t v p holds
  Going-silent silent = subst (λ (w : Option (List ℕ)). Going a b t w p holds) (sym silent) going

  -- where source and sink reveal their bytes
  pub Going-revealed : {x y : List ℕ} → a ≡ Some x → t ≡ Some y → Going (Some x) b (Some y) u p holds
  Going-revealed {x = x} source sink = subst (λ (s : Option (List ℕ)). Going (Some x) b s u p holds) sink (subst (λ (r : Option (List ℕ)). Going r b t u p holds) source going)

  pub Going-source : {x : List ℕ} → a ≡ Some x → Going (Some x) b t u p holds
  Going-source source = subst (λ (r : Option (List ℕ)). Going r b t u p holds) source going

-- What a source and a sink that reveal their bytes have then.

pub revealed_bytes : (t : List ℕ) (u : Option (List ℕ)) (out : List ℕ) → Appends (Some t) u out → u ≡ Some (t ++ out)
revealed_bytes t None out wrote = absurd wrote
revealed_bytes t (Some y) out wrote = ap Some wrote

pub revealed_end : (x : List ℕ) (c : Option (List ℕ)) (bytes : List ℕ) → Consumes (Some x) c bytes → IsAtEnd c → c ≡ Some []
revealed_end x None bytes took end = absurd took
revealed_end x (Some s) bytes took end = ap Some end

-- lines that were read are the first of the text's, whether or not the source is at its end
pub read_prefix : (x : List ℕ) (b : Option (List ℕ)) (p : Progress) (items : List Item) → HasItems event_of is_last_event (Some x) b p items → (more : List Item) × (event_reading x ≡ items ++ more)
read_prefix x b p items read = from b read.took p.stopped read.goes_on
  where
    from : (b : Option (List ℕ)) → Consumes (Some x) b read.bytes → (s : Option Stop) → ItemsGoOn event_of is_last_event s (Some x) b p.taken p.limit read.bytes items → (more : List Item) × (event_reading x ≡ items ++ more)
    from None took s goes = absurd took
    from (Some s) took None goes = (event_reading s, ap event_reading took ∙ goes.reads s)
    from (Some s) took (Some stop.End) goes = ([], goes.0.items_are ∙ sym (append-nil items))
    from (Some s) took (Some stop.ReadFault) goes = absurd goes
    from (Some s) took (Some stop.Long) goes = absurd goes

-- so many bytes were taken, with these lines
pub has_taken : (x : List ℕ) (c : Option (List ℕ)) (bytes : List ℕ) (items more : List Item) → Consumes (Some x) c bytes → event_reading x ≡ items ++ more
    → (taken : HasTaken x c items) × (taken.bytes ≡ bytes) × (IsAtEnd c → taken.rest ≡ []) × (taken.more ≡ more)
has_taken x None bytes items more took first = absurd took
has_taken x (Some s) bytes items more took first = (record { bytes = bytes; rest = s; all = took; left_is = refl; more = more; first = first }, refl, λ end. end, refl)

-- the last line that was read is one of the whole ones, or the last of all
pub to_last : (x : List ℕ) (b c : Option (List ℕ)) (p q : Progress) (items : List Item) (item : Item) → HasItems event_of is_last_event (Some x) b p items → p.stopped ≡ None → TakesEvent item b c p q → is_last_event item ≡ false
    → TakesToLast x c (items ++ item ∷ [])
to_last x b c p q items item read none takes more =
    let lines : List Item = items ++ item ∷ [] in
    let prefix = read_prefix x c q lines (HasItems-line event_of is_last_event (Some x) b c p q items item read none takes more) in
    elim (HasItems-item event_of is_last_event (Some x) b c p q items item read none takes) [
      | inl whole ↦
          let taken = has_taken x c whole.bytes lines prefix.0 whole.took prefix.1 in
          (taken.0, inl (ap whole_event_reading taken.1 ∙ whole.items_are))
      | inr all ↦
          let taken = has_taken x c all.0.bytes lines [] all.0.took (all.0.items_are ∙ sym (append-nil lines)) in
          (taken.0, inr (taken.2 all.1, taken.3))
    ]

-- The crowd that is kept.
module _ {S : Type 0} {G : Ghosts S} where
  -- these lines lead from the crowd that was kept to the one that is kept now, whatever machine is stood for
  abbrev pub LeadsEach : Flights S G → Flights S G → List Item → List Outcome → Type 0
  LeadsEach old new items os = (m : Machine) → G.stands old.stepped m → Leads m old new items os

  pub leads_none : (old : Flights S G) → LeadsEach old old [] []
  leads_none old m stands = (m, refl, stands)

  -- one line more
  pub leads_more : (old mid new : Flights S G) (item : Item) (o : Outcome) → Steps mid new item o → (items : List Item) (os : List Outcome) → LeadsEach old mid items os → LeadsEach old new (items ++ item ∷ []) (os ++ o ∷ [])
  leads_more old mid new item o steps items os leads m stands =
      let before = leads m stands in
      let step = steps before.0 before.2 in
      (step.0, grow (crowd_of m old) items os (crowd_of before.0 mid) item o (crowd_of step.0 new) before.1 step.1, step.2)
