-- Lines that were answered, of a pair that is left as it stands.
use Rattle.std.proofs.Common.{◌≡◌, inl, inr, ℕ, ◌^◌, ◌≤◌, true, false, List, [], ◌∷◌, ◌++◌, Option, Some, refl, sym, ap, ◌∙◌, subst, arith, append_assoc, length, length-append}
use Rattle.std.specs.Prelude.{flat_map}
use Rattle.std.specs.Io.KnownBytes.{Appends}
use Rattle.std.proofs.lemmas.Bool.{true≢false}
use Rattle.std.proofs.lemmas.List.{flat_map_more}
use Rattle.labelled_disk.specs.Sectors.{Sector}
use Rattle.labelled_disk.specs.State.{DiskState}
use Rattle.pair_machine.specs.Pair.{Pair}
use Rattle.volume_pair.specs.declared.fault.PairHalt.{PairHalt}
use Rattle.volume_pair.specs.Kept.{IsRootOf}
use Rattle.pair_session.specs.Causes.{ShowsHalt}
use Rattle.pair_session.specs.Ended.{TakesToLast}
use Rattle.pair_session.specs.Ending.{HasReplied}
use Rattle.pair_session.specs.Lines.{Item, after_lines}
use Rattle.pair_session.specs.Pairs.{GoesOn, PairView, StandsFor}
use Rattle.pair_session.specs.Replicated.{Carries, Streams, reasons}
use Rattle.pair_session.specs.Second.{IsLeftWith}
use Rattle.pair_session.specs.declared.ending.Ending.TheVariants as ending
use Rattle.pair_session.specs.declared.outcome.Outcome.TheVariants as outcome
use Rattle.pair_session.proofs.EndLemmas.{first_lines}
use Rattle.pair_session.proofs.LeftLemmas.{left_with}
use Rattle.pair_session.proofs.OwnedLemmas.{owns_root}
use Rattle.pair_session.proofs.WroteLemmas.{first_still, root_still}

module _ {v w : PairView} (before mid : Streams) (goes : GoesOn v w) where
  -- both disks are left as they stand
  module _ (from to : DiskState) (first : from ≡ w.from.disk) (second : to ≡ w.to.disk) where
    left_so : (d : List Sector) (p : Pair) → IsRootOf d v.volume.root → StandsFor w p → IsLeftWith d p.to to
    left_so d p is stands = rw second (left_with d w.from w.to w.volume p (root_still goes d is) stands)

    pub long_carries : HasReplied ending.Long v w before.left mid.left before.took mid.took → reasons outcome.Long before mid → Carries outcome.Long v before mid from to
    long_carries r reason = record {
      items = r.items;
      replies = r.replies;
      suit = r.suit;
      lines = r.lines;
      few = let begun = ap (λ (xs : List Item). length xs) r.begun in omega (arith, begun);
      own = λ told. rw second (r.own.own told);
      left_open = λ b t source sink is. owns_root v w r.lines r.own second;
      crash_states = λ p stands d is. rw second (r.crash_states p stands d is);
      halts = λ p stands d is. tt;
      text = λ b t source sink. first_lines ending.Long b mid.left t mid.took r.items r.replies r.lines r.begun (r.ended b t source sink);
      leads = λ p stands. ((r.leads p stands).0, λ d is. left_so d (after_lines p r.items) is (r.leads p stands).1);
      ended = λ b t source sink.
          let e = r.ended b t source sink in
          (r.items, e.0, record { replies = r.replies; are = (refl, refl); took_is = e.1 });
      first = first_still goes from first;
      second = rw second goes.to;
      halted = tt;
      reason = reason;
      started = tt;
    }

    pub read_carries : HasReplied ending.ReadFault v w before.left mid.left before.took mid.took → reasons outcome.ReadFault before mid → Carries outcome.ReadFault v before mid from to
    read_carries r reason = record {
      items = r.items;
      replies = r.replies;
      suit = r.suit;
      lines = r.lines;
      few = let begun = ap (λ (xs : List Item). length xs) r.begun in omega (arith, begun);
      own = λ told. rw second (r.own.own told);
      left_open = λ b t source sink is. owns_root v w r.lines r.own second;
      crash_states = λ p stands d is. rw second (r.crash_states p stands d is);
      halts = λ p stands d is. tt;
      text = λ b t source sink. first_lines ending.ReadFault b mid.left t mid.took r.items r.replies r.lines r.begun (r.ended b t source sink);
      leads = λ p stands. ((r.leads p stands).0, λ d is. left_so d (after_lines p r.items) is (r.leads p stands).1);
      ended = λ b t source sink.
          let e = r.ended b t source sink in
          (r.items, e.0, record { replies = r.replies; are = (refl, refl); took_is = e.1 });
      first = first_still goes from first;
      second = rw second goes.to;
      halted = tt;
      reason = reason;
      started = tt;
    }

    pub sink_carries : HasReplied ending.SinkFault v w before.left mid.left before.took mid.took → reasons outcome.SinkFault before mid → Carries outcome.SinkFault v before mid from to
    sink_carries r reason = record {
      items = r.items;
      replies = r.replies;
      suit = r.suit;
      lines = r.lines;
      few = let begun = ap (λ (xs : List Item). length xs) r.begun in omega (arith, begun);
      own = λ told. rw second (r.own.own told);
      left_open = λ b t source sink is. owns_root v w r.lines r.own second;
      crash_states = λ p stands d is. rw second (r.crash_states p stands d is);
      halts = λ p stands d is. tt;
      text = λ b t source sink. first_lines ending.SinkFault b mid.left t mid.took r.items r.replies r.lines r.begun (r.ended b t source sink);
      leads = λ p stands. (
        (r.leads p stands).0,
        λ d is. (λ closed. absurd (true≢false (sym closed ∙ r.none_last)), λ open_still. left_so d (after_lines p r.items) is (r.leads p stands).1),
      );
      ended = λ b t source sink.
          let e = r.ended b t source sink in (
            r.items,
            e.0,
            record {
              replies = e.1.replies;
              last = e.1.last;
              are = (refl, e.1.are);
              prefix = e.1.prefix;
              is_prefix = e.1.is_prefix;
              took_is = e.1.took_is;
            },
          );
      first = first_still goes from first;
      second = rw second goes.to;
      halted = tt;
      reason = reason;
      started = tt;
    }

    pub halt_carries : (why : PairHalt) → HasReplied (ending.Halted why) v w before.left mid.left before.took mid.took → reasons (outcome.Halted why) before mid → ShowsHalt v.from.disk v.to.disk w.from.disk w.to.disk why → Carries (outcome.Halted why) v before mid from to
    halt_carries why r reason shows = record {
      items = r.items;
      replies = r.replies;
      suit = r.suit;
      lines = r.lines;
      few = let begun = ap (λ (xs : List Item). length xs) r.begun.1 in omega (arith, begun, length-append r.items (r.begun.0 ∷ []));
      own = λ told. rw second (r.own.own told);
      left_open = λ b t source sink is. owns_root v w r.lines r.own second;
      crash_states = λ p stands d is. rw second (r.crash_states p stands d is);
      halts = λ p stands d is. rw second (r.halted p stands d is);
      text = λ b t source sink. first_lines (ending.Halted why) b mid.left t mid.took r.items r.replies r.lines r.begun (r.ended b t source sink);
      leads = λ p stands. ((r.leads p stands).0, λ d is. (r.leads p stands).1);
      ended = λ b t source sink.
          let e = r.ended b t source sink in
          (r.items, inl (r.begun.0, subst (λ (xs : List Item). TakesToLast b mid.left xs) r.begun.1 e.0), record { replies = r.replies; are = (refl, refl); took_is = e.1 });
      first = first_still goes from first;
      second = rw second goes.to;
      halted = rw (first, second) shows;
      reason = reason;
      started = tt;
    }
