-- Lines that were answered, and the end of their pair.
use Rattle.std.proofs.Common.{◌≡◌, inl, inr, ℕ, ◌^◌, ◌≤◌, true, false, List, [], ◌∷◌, ◌++◌, Option, Some, refl, sym, ap, ◌∙◌, subst, arith, append_assoc, length, length-append}
use Rattle.std.specs.Prelude.{flat_map}
use Rattle.std.specs.Io.KnownBytes.{Appends}
use Rattle.std.proofs.lemmas.Bool.{true≢false}
use Rattle.std.proofs.lemmas.List.{flat_map_more}
use Rattle.labelled_disk.specs.Sectors.{Sector}
use Rattle.labelled_disk.specs.State.{DiskState}
use Rattle.pair_machine.specs.Pair.{Pair}
use Rattle.pair_machine.specs.declared.call.PairReply.{PairReply}
use Rattle.pair_machine.specs.declared.call.PairReply.TheVariants as reply
use Rattle.trace_io.specs.PairGrammar.{Close}
use Rattle.trace_io.specs.PairReading.{pair_reading}
use Rattle.trace_io.specs.PairText.{pair_text}
use Rattle.volume_pair.specs.CrashStates.{KeepsFiles, SyncedStatesOf}
use Rattle.volume_pair.specs.Kept.{IsRootOf}
use Rattle.pair_session.specs.Closing.{EndsSilently, Finishes, RepliesLast}
use Rattle.pair_session.specs.Ending.{HasReplied, TookTexts}
use Rattle.pair_session.specs.Lines.{Answers, Item, after_lines}
use Rattle.pair_session.specs.Pairs.{GoesOn, PairView, StandsFor}
use Rattle.pair_session.specs.Replicated.{Carries, Streams, reasons, streams}
use Rattle.pair_session.specs.Second.{EndsAfter, IsAfter, IsClosedWith, IsCopied}
use Rattle.pair_session.specs.declared.ending.Ending.TheVariants as ending
use Rattle.pair_session.specs.declared.outcome.Outcome.{Outcome}
use Rattle.pair_session.specs.declared.outcome.Outcome.TheVariants as outcome
use Rattle.pair_session.proofs.EndLemmas.{first_lines}
use Rattle.pair_session.proofs.GoingLemmas.{revealed_bytes}
use Rattle.pair_session.proofs.LineLemmas.{after_more, answers_more, closes_last, copied_close, to_more}
use Rattle.pair_session.proofs.OwnedLemmas.{closed_there, ended_there, owns_closed}
use Rattle.pair_session.proofs.StateLemmas.{ends_closed, keeps_closed, keeps_fewer}
use Rattle.pair_session.proofs.WroteLemmas.{first_still, halt_after, permitted_then, root_still}

-- the reply to the line that ends the text comes behind the others
took_last : (t : List ℕ) (mid new : Option (List ℕ)) (replies : List PairReply) → TookTexts t mid replies → Appends mid new (pair_text reply.Done) → TookTexts t new (replies ++ reply.Done ∷ [])
took_last t mid new replies took put =
    revealed_bytes (t ++ flat_map pair_text replies) new (pair_text reply.Done) (subst (λ (m : Option (List ℕ)). Appends m new (pair_text reply.Done)) took put)
    ∙ ap (λ (bytes : List ℕ). Some bytes) (append_assoc t (flat_map pair_text replies) (pair_text reply.Done))
    ∙ ap (λ (bytes : List ℕ). Some (t ++ bytes)) (flat_map_more pair_text [] replies reply.Done)

-- a prefix of it does
took_part : (t prefix : List ℕ) (mid new : Option (List ℕ)) (replies : List PairReply) → TookTexts t mid replies → Appends mid new prefix → new ≡ Some (t ++ flat_map pair_text replies ++ prefix)
took_part t prefix mid new replies took put = revealed_bytes (t ++ flat_map pair_text replies) new prefix (subst (λ (m : Option (List ℕ)). Appends m new prefix) took put)

-- the line that ends the text changes nothing
closed_after : (d : List Sector) (p : Pair) (items : List Item) (disk : DiskState) → IsClosedWith d (after_lines p items).to disk → IsClosedWith d (after_lines p (items ++ Some Close ∷ [])).to disk
closed_after d p items disk is = subst (λ (q : Pair). IsClosedWith d q.to disk) (sym (after_more p items (Some Close))) is

module _ {v w : PairView} (before mid : Streams) (goes : GoesOn v w) where
  -- ---- At a line `close`.
  module _ (r : HasReplied ending.Close v w before.left mid.left before.took mid.took) (reason : reasons outcome.Done before mid) (took : Option (List ℕ)) (faults : ℕ) (from to : DiskState) where
    close_answers : (p : Pair) → StandsFor v p → Answers p (r.items ++ Some Close ∷ []) (r.replies ++ reply.Done ∷ [])
    close_answers p stands = answers_more p r.items r.replies (Some Close) reply.Done (r.leads p stands).0 refl

    closed_states : {how : Outcome} → Finishes how w from to → (p : Pair) → StandsFor v p → (d : List Sector) → IsRootOf d v.volume.root → SyncedStatesOf (IsAfter d p r.lines) (length r.lines) (IsCopied r.items r.replies) v.to.disk to
    closed_states f p stands d is =
        keeps_closed d p w.volume.root r.lines (root_still goes d is) goes.to.went.syncs f.wrote.went.syncs (r.crash_states p stands d is)
        (subst (λ (xs : List Item). KeepsFiles (after_lines p xs).to w.volume.root.serial w.volume.root.counter w.to.disk to) (sym r.begun) (f.crash_states (after_lines p r.items) (r.leads p stands).1))

    closed_ends : {how : Outcome} → Finishes how w from to → (p : Pair) → StandsFor v p → (d : List Sector) → IsRootOf d v.volume.root → EndsAfter d p r.lines (length r.items) (length r.lines) to
    closed_ends f p stands d is =
        let there = (r.leads p stands).1.to_is.stands in
        let same = ap (λ (xs : List Item). length xs) r.begun in
        subst (λ (n : ℕ). EndsAfter d p r.lines n (length r.lines) to) same
        (ends_closed d p w.volume.root r.lines (root_still goes d is) there.sectors there.revealed
        (subst (λ (xs : List Item). KeepsFiles (after_lines p xs).to w.volume.root.serial w.volume.root.counter w.to.disk to) (sym r.begun) (f.crash_states (after_lines p r.items) (r.leads p stands).1)))

    pub close_carries : (how : Outcome) → Finishes how w from to → RepliesLast how mid.took took mid.sink_faults faults → Carries how v before (streams mid.left mid.source_faults took faults) from to
    close_carries outcome.Done f last = record {
      items = r.items ++ Some Close ∷ [];
      replies = r.replies ++ reply.Done ∷ [];
      suit = to_more r.items r.replies (Some Close) reply.Done r.suit refl;
      lines = r.lines;
      few = let begun = ap (λ (xs : List Item). length xs) r.begun in omega (arith, begun, length-append r.items (Some Close ∷ []));
      own = owns_closed v w r.lines r.own f.own;
      left_open = λ b t source sink is. absurd is;
      crash_states = λ p stands d is. keeps_fewer (λ j copied. copied_close r.items r.replies (r.leads p stands).0.one_a_line j copied) (closed_states f p stands d is);
      halts = λ p stands d is. tt;
      text = λ b t source sink. first_lines ending.Close b mid.left t mid.took r.items r.replies r.lines r.begun (r.ended b t source sink);
      leads = λ p stands. (close_answers p stands, λ d is. closed_after d p r.items to (f.shut d (after_lines p r.items) (root_still goes d is) (r.leads p stands).1));
      ended = λ b t source sink.
          let e = r.ended b t source sink in
          (e.1, record { replies = r.replies ++ reply.Done ∷ []; are = (e.0, refl); took_is = took_last t mid.took took r.replies e.3 last.1 });
      first = first_still goes from f.same;
      second = permitted_then goes.to f.wrote;
      halted = tt;
      reason = record {
        short = λ b source is. reason.short b source refl;
        long = λ b source is. absurd (cc is);
        source = λ is. absurd (cc is);
        sink = λ is. absurd (cc is);
        source_later = reason.source_later;
        sink_later = let later = reason.sink_later in let more = last.0 in omega (arith, later, more);
      };
      started = tt;
    }
    close_carries outcome.SinkFault f last = record {
      items = r.items ++ Some Close ∷ [];
      replies = r.replies ++ reply.Done ∷ [];
      suit = to_more r.items r.replies (Some Close) reply.Done r.suit refl;
      lines = r.lines;
      few = let begun = ap (λ (xs : List Item). length xs) r.begun in omega (arith, begun, length-append r.items (Some Close ∷ []));
      own = owns_closed v w r.lines r.own f.own;
      left_open = λ b t source sink is. absurd (true≢false (sym (closes_last r.items r.none_last) ∙ is));
      crash_states = λ p stands d is. keeps_fewer (λ j copied. copied_close r.items r.replies (r.leads p stands).0.one_a_line j copied) (closed_states f p stands d is);
      halts = λ p stands d is. tt;
      text = λ b t source sink. first_lines ending.Close b mid.left t mid.took r.items r.replies r.lines r.begun (r.ended b t source sink);
      leads = λ p stands. (
        close_answers p stands,
        λ d is. (
          λ closed. closed_after d p r.items to (f.shut d (after_lines p r.items) (root_still goes d is) (r.leads p stands).1),
          λ open_still. absurd (true≢false (sym (closes_last r.items r.none_last) ∙ open_still)),
        ),
      );
      ended = λ b t source sink.
          let e = r.ended b t source sink in (
            r.items ++ Some Close ∷ [],
            e.2,
            record {
              replies = r.replies;
              last = reply.Done;
              are = (refl, refl);
              prefix = last.2.0;
              is_prefix = last.2.1;
              took_is = took_part t last.2.0 mid.took took r.replies e.3 last.2.2;
            },
          );
      first = first_still goes from f.same;
      second = permitted_then goes.to f.wrote;
      halted = tt;
      reason = record {
        short = λ b source is. absurd (cc is);
        long = λ b source is. absurd (cc is);
        source = λ is. absurd (cc is);
        sink = λ is. let later = reason.sink_later in let rose = last.1 in omega (arith, later, rose);
        source_later = reason.source_later;
        sink_later = let later = reason.sink_later in let more = last.0 in omega (arith, later, more);
      };
      started = tt;
    }
    close_carries (outcome.Halted why) f last = record {
      items = r.items;
      replies = r.replies;
      suit = r.suit;
      lines = r.lines;
      few = let begun = ap (λ (xs : List Item). length xs) r.begun in omega (arith, begun);
      own = owns_closed v w r.lines r.own f.own;
      left_open = λ b t source sink is. closed_there (pair_reading b) r.items is.0 (r.ended b t source sink).0 is.1;
      crash_states = closed_states f;
      halts = closed_ends f;
      text = λ b t source sink. first_lines ending.Close b mid.left t mid.took r.items r.replies r.lines r.begun (r.ended b t source sink);
      leads = λ p stands. ((r.leads p stands).0, λ d is. f.shut d (after_lines p r.items) (root_still goes d is) (r.leads p stands).1);
      ended = λ b t source sink.
          let e = r.ended b t source sink in
          (r.items, inl (Some Close, e.2), record { replies = r.replies; are = (refl, refl); took_is = last.1 ∙ e.3 });
      first = first_still goes from f.same;
      second = permitted_then goes.to f.wrote;
      halted = halt_after from to goes.from.went goes.to.went why f.halted;
      reason = record {
        short = λ b source is. absurd (cc is);
        long = λ b source is. absurd (cc is);
        source = λ is. absurd (cc is);
        sink = λ is. absurd (cc is);
        source_later = reason.source_later;
        sink_later = let later = reason.sink_later in let more = last.0 in omega (arith, later, more);
      };
      started = tt;
    }
    close_carries (outcome.NotStarted why) f last = absurd last
    close_carries outcome.Long f last = absurd last
    close_carries outcome.ReadFault f last = absurd last

  -- ---- At the end of the text.
  module _ (r : HasReplied ending.End v w before.left mid.left before.took mid.took) (reason : reasons outcome.Done before mid) (from to : DiskState) where
    ended_states : {how : Outcome} → Finishes how w from to → (p : Pair) → StandsFor v p → (d : List Sector) → IsRootOf d v.volume.root → SyncedStatesOf (IsAfter d p r.lines) (length r.lines) (IsCopied r.items r.replies) v.to.disk to
    ended_states f p stands d is =
        keeps_closed d p w.volume.root r.lines (root_still goes d is) goes.to.went.syncs f.wrote.went.syncs (r.crash_states p stands d is)
        (subst (λ (xs : List Item). KeepsFiles (after_lines p xs).to w.volume.root.serial w.volume.root.counter w.to.disk to) (sym r.begun) (f.crash_states (after_lines p r.items) (r.leads p stands).1))

    ended_ends : {how : Outcome} → Finishes how w from to → (p : Pair) → StandsFor v p → (d : List Sector) → IsRootOf d v.volume.root → EndsAfter d p r.lines (length r.items) (length r.lines) to
    ended_ends f p stands d is =
        let there = (r.leads p stands).1.to_is.stands in
        let same = ap (λ (xs : List Item). length xs) r.begun in
        subst (λ (n : ℕ). EndsAfter d p r.lines n (length r.lines) to) same
        (ends_closed d p w.volume.root r.lines (root_still goes d is) there.sectors there.revealed
        (subst (λ (xs : List Item). KeepsFiles (after_lines p xs).to w.volume.root.serial w.volume.root.counter w.to.disk to) (sym r.begun) (f.crash_states (after_lines p r.items) (r.leads p stands).1)))

    pub end_carries : (how : Outcome) → Finishes how w from to → EndsSilently how → Carries how v before mid from to
    end_carries outcome.Done f ends = record {
      items = r.items;
      replies = r.replies;
      suit = r.suit;
      lines = r.lines;
      few = let begun = ap (λ (xs : List Item). length xs) r.begun in omega (arith, begun);
      own = owns_closed v w r.lines r.own f.own;
      left_open = λ b t source sink is. absurd is;
      crash_states = ended_states f;
      halts = λ p stands d is. tt;
      text = λ b t source sink. first_lines ending.End b mid.left t mid.took r.items r.replies r.lines r.begun (r.ended b t source sink);
      leads = λ p stands. ((r.leads p stands).0, λ d is. f.shut d (after_lines p r.items) (root_still goes d is) (r.leads p stands).1);
      ended = λ b t source sink.
          let e = r.ended b t source sink in
          (e.1, record { replies = r.replies; are = (e.0, refl); took_is = e.3 });
      first = first_still goes from f.same;
      second = permitted_then goes.to f.wrote;
      halted = tt;
      reason = reason;
      started = tt;
    }
    end_carries (outcome.Halted why) f ends = record {
      items = r.items;
      replies = r.replies;
      suit = r.suit;
      lines = r.lines;
      few = let begun = ap (λ (xs : List Item). length xs) r.begun in omega (arith, begun);
      own = owns_closed v w r.lines r.own f.own;
      left_open = λ b t source sink is. ended_there (pair_reading b) r.items is.0 (r.ended b t source sink).0 is.1;
      crash_states = ended_states f;
      halts = ended_ends f;
      text = λ b t source sink. first_lines ending.End b mid.left t mid.took r.items r.replies r.lines r.begun (r.ended b t source sink);
      leads = λ p stands. ((r.leads p stands).0, λ d is. f.shut d (after_lines p r.items) (root_still goes d is) (r.leads p stands).1);
      ended = λ b t source sink.
          let e = r.ended b t source sink in
          (r.items, inr (e.2, e.0, r.none_last), record { replies = r.replies; are = (refl, refl); took_is = e.3 });
      first = first_still goes from f.same;
      second = permitted_then goes.to f.wrote;
      halted = halt_after from to goes.from.went goes.to.went why f.halted;
      reason = record {
        short = λ b source is. absurd (cc is);
        long = λ b source is. absurd (cc is);
        source = λ is. absurd (cc is);
        sink = λ is. absurd (cc is);
        source_later = reason.source_later;
        sink_later = reason.sink_later;
      };
      started = tt;
    }
    end_carries (outcome.NotStarted why) f ends = absurd ends
    end_carries outcome.Long f ends = absurd ends
    end_carries outcome.ReadFault f ends = absurd ends
    end_carries outcome.SinkFault f ends = absurd ends
