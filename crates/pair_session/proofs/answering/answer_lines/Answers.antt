use Rattle.std.proofs.Common.{◌≡◌, inl, inr, refl, ◌∙◌, sym, ap, subst, arith, List, [], ◌∷◌, ◌++◌}
use Rattle.volume_pair.specs.declared.fault.PairHalt.{PairHalt}
use Rattle.pair_session.specs.Ending.{EndsAt}
use Rattle.pair_session.specs.Lines.{Item}
use Rattle.pair_session.specs.Pairs.{shown}
use Rattle.pair_session.specs.declared.ending.Ending.TheVariants as ending
use Rattle.pair_session.specs.Turn.{HaltsBy}
use Rattle.pair_session.specs.declared.turn.Turn.TheVariants.{Ends}
use Rattle.pair_session.proofs.EndLemmas.{are_begun, begun_lines, cut_short, ends_at, long, no_sink, read_fault, short}
use Rattle.pair_session.proofs.GoingLemmas.{Going-more, Going-source, Going-revealed, Going-start}
use Rattle.pair_session.proofs.LineLemmas.{closes_more, to_more}
use Rattle.pair_session.proofs.OwnedLemmas.{OwnsEach, owns_more, owns_none}
use Rattle.pair_session.proofs.StateLemmas.{KeepsEach, keeps_none}
use Rattle.pair_session.proofs.TurnLemmas.{LeadsEach, halts_after, keeps_end, keeps_line, leads_more, leads_none, open_at, owns_end, stands_or, takes_more, turn_halts}
use Rattle.pair_session.proofs.WroteLemmas.{goes_itself, goes_then}
use Rattle.pair_session.proofs.answering.answer_lines.Goals as goal

pub turns-init : goal.turns-init
turns-init g c =
    let made = c.with_limit-lines.ensures in
    let stopped = ap (λ p. p.stopped) made in
    record {
      going = Going-start _ _ c.with_limit-lines.result
          (λ items replies. LeadsEach (shown c.args.pair.now) (shown c.args.pair.now) items replies × KeepsEach (shown c.args.pair.now) (shown c.args.pair.now) items items replies × OwnsEach (shown c.args.pair.now) (shown c.args.pair.now) items) (ap (λ p. p.taken) made) stopped
          (leads_none (shown c.args.pair.now), keeps_none (shown c.args.pair.now), owns_none (shown c.args.pair.now));
      goes = goes_itself (shown c.args.pair.now);
      asked = c.requires.asked;
      goes_on = inl stopped;
      limit = ap (λ p. p.limit) made;
      bound = rw made (omega arith);
      source = omega arith;
      sink = omega arith;
    }

pub turns-smaller : goal.turns-smaller
turns-smaller g c =
    let turn = c.in-Replies.ensures.turns in
    let more = takes_more turn.1 _ _ c.turns.lines c.take_turn.new.lines turn.2 in
    let bound = c.take_turn.ensures.bound in
    let same = turn.2.limit in
    omega (arith, more, bound, same)

-- a line was answered, and others follow
pub turns-preserved : goal.turns-preserved
turns-preserved g c =
    let i = c.turns.invariant in
    let turn = c.in-Replies.ensures.turns in
    record {
      going = Going-more i.going c.in-Replies.reply turn.0 turn.2 turn.3 turn.4
          (λ items replies are. (
            leads_more (shown c.args.pair.now) (shown c.turns.pair) (shown c.take_turn.new.pair) turn.1 c.in-Replies.reply turn.5 items replies are.0,
            keeps_line (shown c.args.pair.now) (shown c.turns.pair) (shown c.take_turn.new.pair) turn.1 c.in-Replies.reply turn.5 items replies are.0 i.goes c.take_turn.ensures.goes_on are.1,
            owns_more (shown c.args.pair.now) (shown c.turns.pair) (shown c.take_turn.new.pair) items turn.1 are.2 turn.5.0,
          ))
          c.in-Ok.ensures.ok;
      goes = goes_then i.goes c.take_turn.ensures.goes_on;
      asked = c.in-Replies.ensures.stays;
      goes_on = elim turn.2.ends [ inl fed ↦ inl fed.1 | inr ended ↦ inr ended.3 ];
      limit = turn.2.limit ∙ i.limit;
      bound = c.take_turn.ensures.bound;
      source = omega (arith, i.source, c.take_turn.ensures.faults.later);
      sink = omega (arith, i.sink, c.in-Ok.ensures.cause.later);
    }

-- the sink failed on the reply to one
pub returns-in_default : goal.returns-in_default
returns-in_default g c =
    let i = c.turns.invariant in
    let turn = c.in-Replies.ensures.turns in
    let put = c.in_default.ensures.err in
    let rose = c.in_default.ensures.cause.cause in
    record {
      replied = record {
        items = i.going.items ++ turn.1 ∷ [];
        replies = i.going.replies ++ c.in-Replies.reply ∷ [];
        suit = to_more i.going.items i.going.replies turn.1 c.in-Replies.reply i.going.suit turn.4;
        none_last = closes_more i.going.items turn.1 i.going.none_last turn.3;
        lines = i.going.items ++ turn.1 ∷ [];
        begun = refl;
        own = owns_more (shown c.args.pair.now) (shown c.turns.pair) (shown c.take_turn.new.pair) i.going.items turn.1 i.going.are.2 turn.5.0;
        leads = leads_more (shown c.args.pair.now) (shown c.turns.pair) (shown c.take_turn.new.pair) turn.1 c.in-Replies.reply turn.5 i.going.items i.going.replies i.going.are.0;
        crash_states = keeps_line (shown c.args.pair.now) (shown c.turns.pair) (shown c.take_turn.new.pair) turn.1 c.in-Replies.reply turn.5 i.going.items i.going.replies i.going.are.0 i.goes c.take_turn.ensures.goes_on i.going.are.1;
        halted = λ p stands d is. tt;
        ended = λ b t source sink.
            let all : List Item = i.going.items ++ turn.1 ∷ [] in
            Going-revealed i.going source sink (λ items replies. EndsAt ending.SinkFault b _ t _ (items ++ turn.1 ∷ []) (replies ++ c.in-Replies.reply ∷ []) all)
            (λ more. cut_short more _ _ c.take_turn.new.lines turn.1 c.in-Replies.reply turn.0 turn.2 put.0 put.1 put.2 all);
      };
      goes_on = goes_then i.goes c.take_turn.ensures.goes_on;
      stays = c.in-Replies.ensures.stays;
      halt = tt;
      reason = record {
        short = λ b source is. absurd (cc is);
        long = λ b source is. absurd (cc is);
        source = λ is. absurd (cc is);
        sink = λ is. omega (arith, i.sink, rose);
        source_later = omega (arith, i.source, c.take_turn.ensures.faults.later);
        sink_later = omega (arith, i.sink, c.in_default.ensures.cause.later);
      };
    }

-- no further line follows
pub returns-in-Ends : goal.returns-in-Ends
returns-in-Ends g c =
    let i = c.turns.invariant in
    let how = c.in-Ends.ending in
    let turn = c.in-Ends.ensures.turns in
    let mid = shown c.turns.pair in
    let new = shown c.take_turn.new.pair in
    let old = shown c.args.pair.now in
    let halts : PairHalt → Item → Type 0 = HaltsBy mid new in
    record {
      replied = record {
        items = i.going.items;
        replies = i.going.replies;
        suit = i.going.suit;
        none_last = i.going.none_last;
        lines = begun_lines halts _ _ c.turns.lines c.take_turn.new.lines how turn i.going.items;
        begun = are_begun halts _ _ c.turns.lines c.take_turn.new.lines how turn i.going.items;
        own = owns_end old mid new _ _ c.turns.lines c.take_turn.new.lines i.going.items i.going.replies i.going.are.0 i.going.are.2 how turn c.in-Ends.ensures.stays;
        leads = λ p stands. ((i.going.are.0 p stands).0, stands_or old mid new _ _ c.turns.lines c.take_turn.new.lines i.going.items i.going.replies i.going.are.0 how turn c.in-Ends.ensures.stays p stands);
        crash_states = keeps_end old mid new _ _ c.turns.lines c.take_turn.new.lines i.going.items i.going.replies i.going.are.0 i.goes c.take_turn.ensures.goes_on i.going.are.1 how turn c.in-Ends.ensures.stays;
        halted = halts_after old mid new _ _ c.turns.lines c.take_turn.new.lines i.going.items i.going.replies i.going.are.0 i.goes how turn;
        ended = λ b t source sink.
            Going-revealed i.going source sink (λ items replies. EndsAt how b _ t _ items replies (begun_lines halts _ _ c.turns.lines c.take_turn.new.lines how turn items))
            (λ more. ends_at more halts _ c.take_turn.new.lines i.limit how turn);
      };
      goes_on = goes_then i.goes c.take_turn.ensures.goes_on;
      stays = open_at how mid new c.in-Ends.ensures.stays i.asked;
      halt = turn_halts how new i.goes c.in-Ends.ensures.halt;
      reason = record {
        short = λ b source is. short (Going-source i.going source) halts _ c.take_turn.new.lines i.limit how turn is;
        long = λ b source is fits. long (Going-source i.going source) halts _ c.take_turn.new.lines i.limit how turn is fits;
        source = λ is. let rose = c.take_turn.ensures.faults.cause (c.in-Ends.is ∙ ap (λ e. Ends e) (read_fault how is)) in omega (arith, i.source, rose);
        sink = λ is. absurd (no_sink halts _ _ c.turns.lines c.take_turn.new.lines how turn is);
        source_later = omega (arith, i.source, c.take_turn.ensures.faults.later);
        sink_later = i.sink;
      };
    }
