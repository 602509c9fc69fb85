use Rattle.std.proofs.Common.{◌≡◌, inl, inr, ◌∙◌, sym, ap, subst, arith, List, [], ◌∷◌, ◌++◌}
use Rattle.flight_core.specs.Flights.{crowd_of}
use Rattle.flight_core.specs.declared.flights.Flights.{Flights}
use Rattle.client_events.specs.Answers.{Item, AreTo}
use Rattle.client_events.specs.Carrying.{CarriesOut, CarriesOutEach}
use Rattle.client_events.specs.Ending.{Leads, LeadsToHalt}
use Rattle.client_events.specs.declared.turn.Turn.TheVariants.{Ends}
use Rattle.client_events.proofs.AnswerLemmas.{to_more}
use Rattle.client_events.proofs.CarryingLemmas.{carries_more, carries_none}
use Rattle.client_events.proofs.EndLemmas.{always, carried_out, cut_short, ended, if_halted, long, no_sink, short}
use Rattle.client_events.proofs.GoingLemmas.{Going-more, Going-revealed, Going-silent, Going-source, Going-start, Going-tied, LeadsEach, leads_more, leads_none}
use Rattle.client_events.proofs.TurnLemmas.{takes_more}
use Rattle.client_events.proofs.answering.answer_events.Goals as goal

pub turns-init : goal.turns-init
turns-init g c =
    let made = c.with_limit-events.ensures in
    let stopped = ap (λ p. p.stopped) made in
    record {
      going = Going-start _ _ c.with_limit-events.result (λ items os. LeadsEach c.args.flights.now c.args.flights.now items os × CarriesOutEach c.args.flights.now c.args.flights.now items) (ap (λ p. p.taken) made) stopped (leads_none c.args.flights.now, carries_none c.args.flights.now);
      runs = c.requires.runs;
      later = λ s e is. is;
      goes_on = inl stopped;
      limit = ap (λ p. p.limit) made;
      bound = rw made (omega arith);
      few = omega arith;
      source = omega arith;
      sink = omega arith;
    }

pub turns-smaller : goal.turns-smaller
turns-smaller g c =
    let turn = c.in-Written.ensures.turns.1 in
    let more = takes_more turn.1 _ _ c.turns.events c.take_turn.new.events turn.2 in
    let bound = c.take_turn.ensures.bound in
    let same = turn.2.limit in
    omega (arith, more, bound, same)

-- a line was answered, and others follow
pub turns-preserved : goal.turns-preserved
turns-preserved g c =
    let i = c.turns.invariant in
    let wrote = c.in-Written.ensures.turns in
    let o = wrote.0 in
    let turn = wrote.1 in
    let keeps = c.in-Written.ensures.keeps in
    let more = takes_more turn.1 _ _ c.turns.events c.take_turn.new.events turn.2 in
    record {
      going = Going-more i.going o turn.0 turn.2 turn.3 turn.4
          (λ items os are. (
            leads_more c.args.flights.now c.turns.flights c.take_turn.new.flights turn.1 o turn.5 items os are.0,
            carries_more c.args.flights.now c.turns.flights c.take_turn.new.flights items turn.1 are.1 turn.6,
          ))
          wrote.2;
      runs = keeps.goes_on;
      later = λ s e is. i.later s e (keeps.later s e is);
      goes_on = elim turn.2.ends [ inl fed ↦ inl fed.1 | inr ended ↦ inr ended.3 ];
      limit = turn.2.limit ∙ i.limit;
      bound = c.take_turn.ensures.bound;
      few = omega (arith, i.few, keeps.few, more);
      source = omega (arith, i.source, c.take_turn.ensures.source.later);
      sink = omega (arith, i.sink, c.take_turn.ensures.sink.later);
    }

-- the sink failed on the lines of one
pub returns-in-CutShort : goal.returns-in-CutShort
returns-in-CutShort g c =
    let i = c.turns.invariant in
    let wrote = c.in-CutShort.ensures.turns in
    let o = wrote.0 in
    let turn = wrote.1 in
    let put = wrote.2 in
    let keeps = c.in-CutShort.ensures.keeps in
    let rose = c.take_turn.ensures.sink.cause c.in-CutShort.is in
    record {
      answers = λ m b t stands source sink.
          let going = Going-revealed i.going source sink in
          let leads = leads_more c.args.flights.now c.turns.flights c.take_turn.new.flights turn.1 o turn.5 going.items going.outcomes going.are.0 m stands in
          cut_short going (Leads m c.args.flights.now c.take_turn.new.flights) (LeadsToHalt m c.args.flights.now c.take_turn.new.flights) _ _ c.take_turn.new.events turn.1 o turn.0 turn.2 turn.3 leads put.0 put.1 put.2;
      replied = λ b t source sink.
          let going = Going-revealed i.going source sink in
          cut_short going AreTo (λ e items item os. AreTo items os) _ _ c.take_turn.new.events turn.1 o turn.0 turn.2 turn.3 (to_more going.items going.outcomes turn.1 o going.suit turn.4) put.0 put.1 put.2;
      carried = record {
        items = i.going.items ++ turn.1 ∷ [];
        carries = carries_more c.args.flights.now c.turns.flights c.take_turn.new.flights i.going.items turn.1 i.going.are.1 turn.6;
        ended = λ b t source sink.
            let all : List Item = i.going.items ++ turn.1 ∷ [] in
            let going = Going-revealed (Going-tied i.going) source sink in
            cut_short going (λ taken os. taken ≡ all) (λ e taken item os. taken ++ item ∷ [] ≡ all) _ _ c.take_turn.new.events turn.1 o turn.0 turn.2 turn.3
            (ap (λ (taken : List Item). taken ++ turn.1 ∷ []) going.are.1) put.0 put.1 put.2;
      };
      sound = λ m stands. tt;
      accounts = record { cause = tt; later = λ s e going is. i.later s e (keeps.later s e is) };
      reason = record {
        short = λ b source which. elim which [ inl same ↦ absurd (cc same) | inr (inl same) ↦ absurd (cc same) | inr (inr same) ↦ absurd (cc same) ];
        long = λ b source same. absurd (cc same);
        source = λ same. absurd (cc same);
        sink = λ same. omega (arith, i.sink, rose);
        source_later = omega (arith, i.source, c.take_turn.ensures.source.later);
        sink_later = omega (arith, i.sink, c.take_turn.ensures.sink.later);
      };
      goes_on = λ going. keeps.goes_on;
      few = omega (arith, i.few, keeps.few, i.bound, i.limit);
    }

-- no further line follows
pub returns-in-Ends : goal.returns-in-Ends
returns-in-Ends g c =
    let i = c.turns.invariant in
    let how = c.in-Ends.ending in
    let turn = c.in-Ends.ensures.turns.0 in
    let silent = c.in-Ends.ensures.turns.1 in
    let keeps = c.in-Ends.ensures.keeps in
    let old = c.args.flights.now in
    let mid = c.turns.flights in
    let new = c.take_turn.new.flights in
    let halts = keeps.cause in
    let lines = carried_out old mid new i.going.items i.going.are.1 _ _ c.turns.events c.take_turn.new.events how turn c.in-Ends.ensures.idle in
    record {
      answers = λ m b t stands source sink.
          let going = Going-revealed (Going-silent i.going silent) source sink in
          let leads = going.are.0 m stands in
          ended going (Leads m old new) (LeadsToHalt m old new) (CarriesOut mid new) _ c.take_turn.new.events i.limit how turn
          (λ on. subst (λ (f : Flights g.row.T.Denot g.T.Stepped). Leads m old f going.items going.outcomes) (sym (c.in-Ends.ensures.idle on)) leads)
          (if_halted how (λ why accounted item carried. (crowd_of leads.0 mid, leads.1, (mid.stepped, leads.2, accounted))) halts);
      replied = λ b t source sink.
          let going = Going-revealed (Going-silent i.going silent) source sink in
          ended going AreTo (λ e items item os. AreTo items os) (CarriesOut mid new) _ c.take_turn.new.events i.limit how turn (λ on. going.suit) (always how (λ item carried. going.suit));
      carried = record {
        items = lines.0;
        carries = lines.1;
        ended = λ b t source sink.
            let going = Going-revealed (Going-silent (Going-tied i.going) silent) source sink in
            ended going (λ taken os. taken ≡ lines.0) (λ e taken item os. taken ++ item ∷ [] ≡ lines.0) (λ item. i.going.items ++ item ∷ [] ≡ lines.0) _ c.take_turn.new.events i.limit how lines.3
            (λ on. going.are.1 ∙ lines.2 on)
            (always how (λ item is. ap (λ (taken : List Item). taken ++ item ∷ []) going.are.1 ∙ is));
      };
      sound = λ m stands. let leads = i.going.are.0 m stands in keeps.sound leads.0 leads.2;
      accounts = record {
        cause = if_halted how (λ why accounted. i.later new.stepped why accounted) halts;
        later = λ s e going is. i.later s e (keeps.later s e going is);
      };
      reason = record {
        short = λ b source which. short (Going-source i.going source) (CarriesOut mid new) _ c.take_turn.new.events i.limit how turn which;
        long = λ b source same fits. long (Going-source i.going source) (CarriesOut mid new) _ c.take_turn.new.events i.limit how turn same fits;
        source = λ same. let rose = c.take_turn.ensures.source.cause (c.in-Ends.is ∙ ap (λ e. Ends e) same) in omega (arith, i.source, rose);
        sink = λ same. absurd (no_sink _ _ c.turns.events c.take_turn.new.events (CarriesOut mid new) how turn same);
        source_later = omega (arith, i.source, c.take_turn.ensures.source.later);
        sink_later = omega (arith, i.sink, c.take_turn.ensures.sink.later);
      };
      goes_on = keeps.goes_on;
      few = omega (arith, i.few, keeps.few, i.bound, i.limit);
    }
