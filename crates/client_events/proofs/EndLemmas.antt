-- How events end.
use Rattle.std.proofs.Common.{◌≡◌, ◌⊎◌, inl, inr, ℕ, ◌^◌, false, List, [], ◌∷◌, ◌++◌, length, Option, Some, None, refl, sym, ap, ◌∙◌, subst, append_assoc}
use Rattle.std.specs.Prelude.{flat_map}
use Rattle.std.specs.Io.KnownBytes.{Appends}
use Rattle.std.proofs.KnownBytes.{Appends-trans}
use Rattle.labelled_disk.specs.declared.evidence.Halt.{Halt}
use Rattle.flight_core.specs.declared.flights.Flights.{Flights}
use Rattle.flight_core.specs.declared.stepped.Stepped.{Ghosts}
use Rattle.trace_io.specs.EventGrammar.{event_of, is_last_event}
use Rattle.trace_io.specs.EventGrammar as event
use Rattle.trace_io.specs.Events.{TakesEvent}
use Rattle.trace_io.specs.EventReading.{whole_event_reading}
use Rattle.trace_io.specs.Items.{FitsIn}
use Rattle.trace_io.specs.Progress.{Progress}
use Rattle.trace_io.specs.Stream.{IsPrefixOf}
use Rattle.trace_io.specs.Taken.{TakesPart}
use Rattle.trace_io.specs.declared.progress.Stop.{Stop}
use Rattle.trace_io.proofs.ItemCourseLemmas.{HasItems-last, HasItems-end, HasItems-part, HasItems-long}
use Rattle.client_events.specs.Outcome.{Outcome, outcome_lines}
use Rattle.client_events.specs.Answers.{Item}
use Rattle.client_events.specs.Carrying.{CarriesOut, CarriesOutEach}
use Rattle.client_events.specs.Ending.{Ended, HasLines, IsGoing, IfHalted, TakesWhole}
use Rattle.client_events.specs.Turn.{EndsSo}
use Rattle.client_events.specs.declared.ending.Ending.{Ending}
use Rattle.client_events.specs.declared.ending.Ending.TheVariants as ending
use Rattle.client_events.proofs.CarryingLemmas.{carries_more}
use Rattle.client_events.proofs.GoingLemmas.{Going, revealed_bytes, revealed_end, read_prefix, has_taken, to_last}

-- what holds of why it halted
pub if_halted : {P Q : Halt → Type 0} (how : Ending) → ((why : Halt) → P why → Q why) → IfHalted how P → IfHalted how Q
if_halted (ending.Halted why) wider is = wider why is
if_halted how wider is = tt

pub always : {P : Type 0} (how : Ending) → P → IfHalted how (λ why. P)
always (ending.Halted why) is = is
always how is = tt

module _ {x t : List ℕ} {b u : Option (List ℕ)} {p : Progress} {holds : List Item → List Outcome → Type 0} (going : Going (Some x) b (Some t) u p holds) where
  has_lines : {each : List Outcome → Type 0} → each going.outcomes → HasLines t u each
  has_lines are = record { outcomes = going.outcomes; are = are; took_is = revealed_bytes t u (flat_map outcome_lines going.outcomes) going.wrote }

  -- part of a line was taken
  takes_whole : (c : Option (List ℕ)) (q : Progress) {why : Stop} → p.stopped ≡ None → TakesPart why b c p q → (takes : TakesWhole x c going.items) × (q.taken ≡ length takes.0.bytes)
  takes_whole c q {why = why} none takes =
      let whole = HasItems-part event_of is_last_event (Some x) b c p q why going.items going.read none takes in
      let prefix = read_prefix x b p going.items going.read in
      let taken = has_taken x c whole.bytes going.items prefix.0 whole.took prefix.1 in
      ((taken.0, ap whole_event_reading taken.1 ∙ whole.items_are), whole.count ∙ ap length (sym taken.1))

  -- the events ended so, after these lines
  module _ (each : List Item → List Outcome → Type 0) (halted : Halt → List Item → Item → List Outcome → Type 0) (carried : Item → Type 0) (c : Option (List ℕ)) (q : Progress) (limit : p.limit ≡ 2 ^ 32) where
    pub ended : (how : Ending) → EndsSo how b c p q carried → (IsGoing how → each going.items going.outcomes) → IfHalted how (λ why. (item : Item) → carried item → halted why going.items item going.outcomes) → Ended how x c t u each halted
    ended ending.Close is are halts =
        let all = HasItems-last event_of is_last_event (Some x) b c p q going.items (Some event.Close) going.read is.0 is.1 refl in
        (going.items, (all.items_are, all.rest_is), has_lines (are tt))
    ended ending.Halt is are halts =
        let all = HasItems-last event_of is_last_event (Some x) b c p q going.items (Some event.Halt) going.read is.0 is.1 refl in
        (going.items, (all.items_are, all.rest_is), has_lines (are tt))
    ended ending.End (inl is) are halts =
        let all = HasItems-end event_of is_last_event (Some x) b c p going.items going.read is.0 is.1 is.2 is.3 in
        (revealed_end x c all.bytes all.took is.2, subst (λ (items : List Item). HasLines t u (each items)) (sym all.items_are) (has_lines (are tt)))
    ended ending.End (inr is) are halts =
        let all = rw is.0 at going.read.goes_on in
        (is.1 ∙ revealed_end x b all.0.bytes all.0.took all.1, subst (λ (items : List Item). HasLines t u (each items)) (sym all.0.items_are) (has_lines (are tt)))
    ended ending.Long is are halts =
        let whole = takes_whole c q is.0 is.1 in
        (going.items, (whole.0, sym whole.1 ∙ is.2 ∙ is.1.limit ∙ limit), has_lines (are tt))
    ended ending.ReadFault is are halts = (going.items, (takes_whole c q is.0 is.1).0, has_lines (are tt))
    ended ending.SinkFault is are halts = absurd is
    ended (ending.Halted why) is are halts = (going.items, is.1, to_last x b c p q going.items is.1 going.read is.0 is.2 is.3, has_lines (halts is.1 is.4))

  -- the sink failed on the lines of one more
  pub cut_short : (each : List Item → List Outcome → Type 0) (halted : Halt → List Item → Item → List Outcome → Type 0) (c v : Option (List ℕ)) (q : Progress) (item : Item) (o : Outcome) → p.stopped ≡ None → TakesEvent item b c p q
      → is_last_event item ≡ false → each (going.items ++ item ∷ []) (going.outcomes ++ o ∷ []) → (prefix : List ℕ) → IsPrefixOf prefix (outcome_lines o) → Appends u v prefix → Ended ending.SinkFault x c t v each halted
  cut_short each halted c v q item o none takes more are prefix is_prefix wrote =
      let before = flat_map outcome_lines going.outcomes in (
        going.items ++ item ∷ [],
        to_last x b c p q going.items item going.read none takes more,
        record {
          outcomes = going.outcomes;
          last = o;
          are = are;
          prefix = prefix;
          is_prefix = is_prefix;
          took_is = revealed_bytes t v (before ++ prefix) (Appends-trans (Some t) u v before prefix going.wrote wrote) ∙ ap Some (sym (append_assoc t before prefix));
        },
      )

-- Whether the text fits in the limit.
module _ {x : List ℕ} {b t u : Option (List ℕ)} {p : Progress} {holds : List Item → List Outcome → Type 0} (going : Going (Some x) b t u p holds) (carried : Item → Type 0) (c : Option (List ℕ)) (q : Progress) (limit : p.limit ≡ 2 ^ 32) where
  fits : (n : ℕ) → n ≡ 2 ^ 32 → FitsIn event_of is_last_event n x → FitsIn event_of is_last_event (2 ^ 32) x
  fits n is short = subst (λ (k : ℕ). FitsIn event_of is_last_event k x) is short

  pub short : (how : Ending) → EndsSo how b c p q carried → (how ≡ ending.Close) ⊎ (how ≡ ending.Halt) ⊎ (how ≡ ending.End) → FitsIn event_of is_last_event (2 ^ 32) x
  short ending.Close is which = fits q.limit (is.1.limit ∙ limit) (HasItems-last event_of is_last_event (Some x) b c p q going.items (Some event.Close) going.read is.0 is.1 refl).short
  short ending.Halt is which = fits q.limit (is.1.limit ∙ limit) (HasItems-last event_of is_last_event (Some x) b c p q going.items (Some event.Halt) going.read is.0 is.1 refl).short
  short ending.End (inl is) which = fits p.limit limit (HasItems-end event_of is_last_event (Some x) b c p going.items going.read is.0 is.1 is.2 is.3).short
  short ending.End (inr is) which = let all = rw is.0 at going.read.goes_on in fits p.limit limit all.0.short
  short how is (inl same) = absurd (cc same)
  short how is (inr (inl same)) = absurd (cc same)
  short how is (inr (inr same)) = absurd (cc same)

  pub long : (how : Ending) → EndsSo how b c p q carried → how ≡ ending.Long → FitsIn event_of is_last_event (2 ^ 32) x → ⊥
  long ending.Long is which is_short =
      HasItems-long event_of is_last_event x b c p q going.items going.read is.0 is.1 is.2 (subst (λ (n : ℕ). FitsIn event_of is_last_event n x) (sym (is.1.limit ∙ limit)) is_short)
  long how is same is_short = absurd (cc same)

-- no turn ends by the sink
pub no_sink : (b c : Option (List ℕ)) (p q : Progress) (carried : Item → Type 0) (how : Ending) → EndsSo how b c p q carried → how ≡ ending.SinkFault → ⊥
no_sink b c p q carried how is same = subst (λ (h : Ending). EndsSo h b c p q carried) same is

-- the calls that were carried out before the events ended, and those of the one that halted
module _ {S : Type 0} {G : Ghosts S} (old mid new : Flights S G) (items : List Item) (each : CarriesOutEach old mid items) where
  still : new ≡ mid → CarriesOutEach old new items
  still same = subst (λ (f : Flights S G). CarriesOutEach old f items) (sym same) each

  pub carried_out : (b c : Option (List ℕ)) (p q : Progress) (how : Ending) → EndsSo how b c p q (CarriesOut mid new) → (IsGoing how → new ≡ mid)
      → (all : List Item) × CarriesOutEach old new all × (IsGoing how → items ≡ all) × EndsSo how b c p q (λ item. items ++ item ∷ [] ≡ all)
  carried_out b c p q ending.Close is idle = (items, still (idle tt), λ on. refl, is)
  carried_out b c p q ending.Halt is idle = (items, still (idle tt), λ on. refl, is)
  carried_out b c p q ending.End is idle = (items, still (idle tt), λ on. refl, is)
  carried_out b c p q ending.Long is idle = (items, still (idle tt), λ on. refl, is)
  carried_out b c p q ending.ReadFault is idle = (items, still (idle tt), λ on. refl, is)
  carried_out b c p q ending.SinkFault is idle = absurd is
  carried_out b c p q (ending.Halted why) is idle = (items ++ is.1 ∷ [], carries_more old mid new items is.1 each is.4, λ on. absurd on, (is.0, is.1, is.2, is.3, refl))
