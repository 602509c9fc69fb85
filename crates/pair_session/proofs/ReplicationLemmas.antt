-- A replication, from its start to its end, and over disks that are lent.
use Rattle.std.proofs.Common.{◌≡◌, inl, inr, ℕ, ◌+◌, length, List, [], ◌∷◌, drop, take, Option, Some, refl, sym, ap, ◌∙◌, subst, arith}
use Rattle.std.specs.Prelude.{IfOk, MatchResult}
use Rattle.labelled_disk.specs.declared.disk.DiskWrite.{DiskWrite}
use Rattle.labelled_disk.specs.declared.evidence.Evidence.{Evidence}
use Rattle.labelled_disk.specs.declared.evidence.Evidence.TheVariants.{Mismatch, Malformed, Missing}
use Rattle.labelled_disk.specs.declared.evidence.Halt.{Halt}
use Rattle.labelled_disk.specs.declared.evidence.Halt.TheVariants as halt
use Rattle.labelled_disk.specs.Calls.{OnlyReads}
use Rattle.labelled_disk.specs.File.{File}
use Rattle.labelled_disk.specs.Sectors.{Sector}
use Rattle.labelled_disk.specs.State.{DiskState, lent_state}
use Rattle.swapper_kernel.specs.Goes.{Went}
use Rattle.filer_kernel.specs.Evidence.{IsEvident, ShowsEvidence}
use Rattle.pair_machine.specs.Pair.{Pair}
use Rattle.pair_machine.specs.declared.call.PairReply.{PairReply}
use Rattle.trace_io.specs.PairReading.{pair_reading}
use Rattle.volume_root.specs.Sound.{Sound}
use Rattle.volume_pair.specs.CrashStates.{CrashStatesOf}
use Rattle.volume_pair.specs.Ends.{IsAccepted, IsCounted, IsEarly, IsOutside, IsRightRefusal, pair_of}
use Rattle.volume_pair.specs.Kept.{IsOnlyRead, IsRootOf, StartKeeps, StartMade, StartWrote}
use Rattle.volume_pair.specs.Owned.{EachWrite}
use Rattle.volume_pair.specs.Pairs.{IsFaultOfDisk}
use Rattle.volume_pair.specs.declared.fault.PairHalt.{PairHalt}
use Rattle.volume_pair.specs.declared.fault.PairHalt.TheVariants as on
use Rattle.volume_pair.specs.declared.fault.PairStart.{PairStart}
use Rattle.volume_pair.specs.declared.fault.PairStart.TheVariants as start
use Rattle.pair_session.specs.Causes.{HasReason, IfHalted, IfNotStarted, IsJudged, IsPermitted, IsShown, ShowsHalt, WroteSecond}
use Rattle.pair_session.specs.Ended.{Ended}
use Rattle.pair_session.specs.Lines.{Answers, Item}
use Rattle.pair_session.specs.Owned.{RepliesTo, begun}
use Rattle.pair_session.specs.Pairs.{PairView, StandsFor}
use Rattle.pair_session.specs.Replicated.{Carries, IsStarted, Replicated, Streams, reasons}
use Rattle.pair_session.specs.Second.{IsClosedWith, IsLeftWith, Leaves, Replicates}
use Rattle.pair_session.specs.declared.outcome.Outcome.{Outcome}
use Rattle.pair_session.specs.declared.outcome.Outcome.TheVariants as outcome
use Rattle.pair_session.proofs.LineLemmas.{answers_none}
use Rattle.pair_session.proofs.OwnedLemmas.{all_own, copied_text, none_own, still_in_use}
use Rattle.pair_session.proofs.StateLemmas.{ends_text, keeps_start, keeps_started, keeps_text}
use Rattle.pair_session.proofs.WroteLemmas.{halt_after, only_then, permitted_of, permitted_then}

-- what holds of the lines and their replies
pub ended_wider : {P Q : List Item → List PairReply → Type 0} (how : Outcome) (b t : List ℕ) (left took : Option (List ℕ)) → ((is : List Item) (rs : List PairReply) → P is rs → Q is rs) → Ended how b left t took P → Ended how b left t took Q
ended_wider outcome.Done b t left took wider e = (e.0, record { replies = e.1.replies; are = wider _ e.1.replies e.1.are; took_is = e.1.took_is })
ended_wider (outcome.NotStarted why) b t left took wider e = (e.0, e.1, wider [] [] e.2)
ended_wider (outcome.Halted why) b t left took wider e = (e.0, e.1, record { replies = e.2.replies; are = wider e.0 e.2.replies e.2.are; took_is = e.2.took_is })
ended_wider outcome.Long b t left took wider e = (e.0, e.1, record { replies = e.2.replies; are = wider e.0 e.2.replies e.2.are; took_is = e.2.took_is })
ended_wider outcome.ReadFault b t left took wider e = (e.0, e.1, record { replies = e.2.replies; are = wider e.0 e.2.replies e.2.are; took_is = e.2.took_is })
ended_wider outcome.SinkFault b t left took wider e =
    (e.0, e.1, record { replies = e.2.replies; last = e.2.last; are = wider e.0 _ e.2.are; prefix = e.2.prefix; is_prefix = e.2.is_prefix; took_is = e.2.took_is })

-- where a pair was started nothing is said of why none was
started_so : (P : PairStart → Type 0) (how : Outcome) → IsStarted how → IfNotStarted how P
started_so P (outcome.NotStarted why) is = absurd is
started_so P (outcome.Halted why) is = tt
started_so P outcome.Done is = tt
started_so P outcome.Long is = tt
started_so P outcome.ReadFault is = tt
started_so P outcome.SinkFault is = tt

halted_wider : {P Q : PairHalt → Type 0} (how : Outcome) → ((why : PairHalt) → P why → Q why) → IfHalted how P → IfHalted how Q
halted_wider (outcome.Halted why) wider is = wider why is
halted_wider (outcome.NotStarted why) wider is = tt
halted_wider outcome.Done wider is = tt
halted_wider outcome.Long wider is = tt
halted_wider outcome.ReadFault wider is = tt
halted_wider outcome.SinkFault wider is = tt

not_started_wider : {P Q : PairStart → Type 0} (how : Outcome) → ((why : PairStart) → P why → Q why) → IfNotStarted how P → IfNotStarted how Q
not_started_wider (outcome.NotStarted why) wider is = wider why is
not_started_wider (outcome.Halted why) wider is = tt
not_started_wider outcome.Done wider is = tt
not_started_wider outcome.Long wider is = tt
not_started_wider outcome.ReadFault wider is = tt
not_started_wider outcome.SinkFault wider is = tt

-- a disk failed where it halted
halted_fault : (how : Outcome) (d : List Sector) (p : Pair) (items : List Item) (disk : DiskState) → Leaves how d p items disk → IfHalted how IsFaultOfDisk
halted_fault (outcome.Halted why) d p items disk is = is
halted_fault (outcome.NotStarted why) d p items disk is = tt
halted_fault outcome.Done d p items disk is = tt
halted_fault outcome.Long d p items disk is = tt
halted_fault outcome.ReadFault d p items disk is = tt
halted_fault outcome.SinkFault d p items disk is = tt

-- ---- A pair was started.
module _ {how : Outcome} {v : PairView} {before after : Streams} {new_from new_to : DiskState} (from to : DiskState) (c : Carries how v before after new_from new_to) (first : IsOnlyRead from v.from.disk) (second : StartMade to v.to)
    (stands : (d e : List Sector) → from.contents ≡ Some d → to.contents ≡ Some e → Sound d → Sound e → StandsFor v (pair_of d e))
    (root : (d e : List Sector) → from.contents ≡ Some d → to.contents ≡ Some e → IsRootOf e v.volume.root) (accepted : (d e : List Sector) → from.contents ≡ Some d → to.contents ≡ Some e → IsAccepted d × IsAccepted e) where
  pub carried : Replicated how from to before new_from new_to after
  carried = record {
    replies = λ d e b t of_from of_to sound also source sink.
        let leads = c.leads (pair_of d e) (stands d e of_from of_to sound also) in
        let of_root = root d e of_from of_to in
        let first = c.text b t source sink in
        let all : Replicates how d e (pair_reading b) to new_to c.items c.replies = record {
          answers = leads.0;
          leaves = leads.1 e of_root;
          crash_states = keeps_text e (pair_of d e) c.lines first.0 (pair_reading b) (length c.items + begun how) first.1 c.few
              (keeps_started e (pair_of d e) c.lines second.written.went.syncs c.second.went.syncs (second.crash_states e of_to also) (c.crash_states (pair_of d e) (stands d e of_from of_to sound also) e of_root));
          halted = halted_wider how (λ why ends. ends_text e (pair_of d e) c.lines first.0 (pair_reading b) (length c.items) (length c.items + begun how) new_to first.1 c.few ends)
              (c.halts (pair_of d e) (stands d e of_from of_to sound also) e of_root);
        } in
        ended_wider how b t after.left after.took
        (λ is rs same. subst (λ (xs : List Item). Replicates how d e (pair_reading b) to new_to xs rs) (sym same.0) (subst (λ (ys : List PairReply). Replicates how d e (pair_reading b) to new_to c.items ys) (sym same.1) all))
        (c.ended b t source sink);
    texts = λ b t source sink.
        let first = c.text b t source sink in
        let text = pair_reading b in
        let n = length c.items + begun how in
        let all : RepliesTo how text to new_to c.items c.replies = record {
          suit = c.suit;
          own = all_own second c.lines (take n text) (λ id is. copied_text c.lines first.0 text n first.1 c.few id is) c.own;
          left_open = λ is. still_in_use second new_to (c.left_open b t source sink is);
        } in
        ended_wider how b t after.left after.took
        (λ is rs same. subst (λ (xs : List Item). RepliesTo how text to new_to xs rs) (sym same.0) (subst (λ (ys : List PairReply). RepliesTo how text to new_to c.items ys) (sym same.1) all))
        (c.ended b t source sink);
    judged = λ d e of_from of_to. record {
      none_starts = λ why refused. let a = accepted d e of_from of_to in absurd (elim refused [ inl of_first ↦ a.0 why of_first | inr of_second ↦ a.1 why of_second ]);
      refused = started_so (IsRightRefusal d e) how c.started;
      starts = λ sound also. started_so IsOutside how c.started;
      goes_on = λ sound also.
          halted_fault how e (pair_of d e) c.items new_to ((c.leads (pair_of d e) (stands d e of_from of_to sound also)).1 e (root d e of_from of_to));
    };
    first = only_then first c.first;
    second = record {
      permitted = permitted_then (permitted_of second.written.went second.written.wrote) c.second;
      keeps = started_so (λ why. StartKeeps to new_to) how c.started;
      early = started_so (λ why. IsEarly why → OnlyReads to new_to) how c.started;
    };
    seen = record { started = started_so (IsCounted from to new_from new_to) how c.started; halted = halted_wider how (halt_after new_from new_to first.went second.written.went) c.halted };
    reason = c.reason;
  }

-- ---- None was.
module _ (why : PairStart) (from to new_from new_to : DiskState) (before : Streams) (first : IsOnlyRead from new_from) (second : StartWrote why to new_to)
    (outside : (d e : List Sector) → from.contents ≡ Some d → to.contents ≡ Some e → Sound d → Sound e → IsOutside why)
    (refused : (d e : List Sector) → from.contents ≡ Some d → to.contents ≡ Some e → IsRightRefusal d e why) (counted : IsCounted from to new_from new_to why) where
  none_faulted : reasons (outcome.NotStarted why) before before
  none_faulted = record {
    short = λ b source is. absurd (cc is);
    long = λ b source is. absurd (cc is);
    source = λ is. absurd (cc is);
    sink = λ is. absurd (cc is);
    source_later = omega arith;
    sink_later = omega arith;
  }

  pub not_started : Replicated (outcome.NotStarted why) from to before new_from new_to before
  not_started = record {
    replies = λ d e b t of_from of_to sound also source sink. (
      source,
      sink,
      record {
        answers = answers_none (pair_of d e);
        leaves = outside d e of_from of_to sound also;
        crash_states = keeps_start e (pair_of d e) (pair_reading b) (second.crash_states e of_to also);
        halted = tt;
      },
    );
    texts = λ b t source sink. (source, sink, record { suit = tt; own = λ told. none_own _ second.written.own; left_open = λ is. absurd is });
    judged = λ d e of_from of_to. record { none_starts = λ w is. tt; refused = refused d e of_from of_to; starts = λ sound also. outside d e of_from of_to sound also; goes_on = λ sound also. tt };
    first = first;
    second = record { permitted = permitted_of second.written.went second.written.wrote; keeps = second.crash_states; early = second.early };
    seen = record { started = counted; halted = tt };
    reason = none_faulted;
  }

-- ---- Over disks that are lent.

evident_lent : (n : ℕ) (disk : DiskState) (e : Evidence) → IsEvident (lent_state n disk) e → IsEvident disk e
evident_lent n disk (Mismatch sector wanted found) is = is
evident_lent n disk (Malformed structure page) is = is
evident_lent n disk (Missing id page) is = is

shows_lent : (n : ℕ) (disk : DiskState) (e : Halt) → ShowsEvidence (lent_state n disk) e → ShowsEvidence disk e
shows_lent n disk halt.Disk is = is
shows_lent n disk (halt.Damaged e) is = evident_lent n disk e is

went_lent : (m n : ℕ) (a b : DiskState) → Went (lent_state m a) (lent_state n b) → Went a b
went_lent m n a b h = record { sectors = h.sectors; lent = ap (drop 1) h.lent; syncs = h.syncs; faults = h.faults; transfers = h.transfers }

permitted_lent : (n l : ℕ) (to new_to : DiskState) → IsPermitted (lent_state n to) (lent_state l new_to) → IsPermitted to new_to
permitted_lent n l to new_to h = record {
  went = went_lent n l to new_to h.went;
  writes = h.writes;
  appended = record { contents = h.appended.contents; revealed = h.appended.revealed };
  form = h.form;
  permitted = h.permitted;
}

-- the second is
module _ (n l : ℕ) (from to new_from new_to : DiskState) where
  counted_second : (why : PairStart) → IsCounted from (lent_state n to) new_from (lent_state l new_to) why → IsCounted from to new_from new_to why
  counted_second (start.From w) is = is
  counted_second (start.To w) is = is
  counted_second start.NoMemory is = is
  counted_second (start.Halt h) is = (is.0, shows_lent l new_to h is.1)

  halt_second : (why : PairHalt) → ShowsHalt from (lent_state n to) new_from (lent_state l new_to) why → ShowsHalt from to new_from new_to why
  halt_second (on.From e) is = is
  halt_second (on.To e) is = (is.0, shows_lent l new_to e is.1)

  early_second : (why : PairStart) → (IsEarly why → OnlyReads (lent_state n to) (lent_state l new_to)) → IsEarly why → OnlyReads to new_to
  early_second why is early =
      let h = is early in
      record { sectors = h.sectors; lent = ap (drop 1) h.lent; contents = h.contents; writes = h.writes; syncs = h.syncs; transfers = h.transfers; faults = h.faults; synced = h.synced }

  closed_second : (d : List Sector) (files : List File) → IsClosedWith d files (lent_state l new_to) → IsClosedWith d files new_to
  closed_second d files h = record { sectors = h.sectors; revealed = h.revealed; sound = h.sound; files_are = h.files_are; same_serial = h.same_serial; same_counter = h.same_counter; synced = h.synced }

  left_second : (d : List Sector) (files : List File) → IsLeftWith d files (lent_state l new_to) → IsLeftWith d files new_to
  left_second d files h = record { sectors = h.sectors; revealed = h.revealed; right = h.right; files_are = h.files_are; same_serial = h.same_serial; same_counter = h.same_counter; open_flag = h.open_flag }

  leaves_second : (how : Outcome) (d : List Sector) (p : Pair) (items : List Item) → Leaves how d p items (lent_state l new_to) → Leaves how d p items new_to
  leaves_second outcome.Done d p items is = closed_second d _ is
  leaves_second (outcome.NotStarted why) d p items is = is
  leaves_second (outcome.Halted why) d p items is = is
  leaves_second outcome.Long d p items is = left_second d _ is
  leaves_second outcome.ReadFault d p items is = left_second d _ is
  leaves_second outcome.SinkFault d p items is = (λ closed. closed_second d _ (is.0 closed), λ none. left_second d _ (is.1 none))

  abbrev states_second : {P : ℕ → List Sector → Type 0} {most : ℕ} → CrashStatesOf P most (lent_state n to) (lent_state l new_to) → CrashStatesOf P most to new_to
  states_second h = record {
    writes = h.writes;
    appended = record { contents = h.appended.contents; revealed = h.appended.revealed };
    steps = h.steps;
    rise = h.rise;
    within = h.within;
    each = h.each;
  }

  each_second : {P : List Sector → DiskWrite → Type 0} → EachWrite P (lent_state n to) (lent_state l new_to) → EachWrite P to new_to
  each_second h = record { writes = h.writes; appended = record { contents = h.appended.contents; revealed = h.appended.revealed }; each = h.each }

  keeps_second : (why : PairStart) → StartKeeps (lent_state n to) (lent_state l new_to) → StartKeeps to new_to
  keeps_second why h = λ e revealed sound. states_second (h e revealed sound)

  pub through_second : (how : Outcome) (before after : Streams) → Replicated how from (lent_state n to) before new_from (lent_state l new_to) after → Replicated how from to before new_from new_to after
  through_second how before after r = record {
    replies = λ d e b t of_from of_to sound also source sink.
        ended_wider how b t after.left after.took
        (λ is rs h. record { answers = h.answers; leaves = leaves_second how e (pair_of d e) is h.leaves; crash_states = record { states = states_second h.crash_states.states; synced = h.crash_states.synced }; halted = halted_wider how (λ why ends. ends) h.halted })
        (r.replies d e b t of_from of_to sound also source sink);
    texts = λ b t source sink.
        ended_wider how b t after.left after.took
        (λ is rs h. record { suit = h.suit; own = λ told. each_second (h.own told); left_open = h.left_open })
        (r.texts b t source sink);
    judged = r.judged;
    first = r.first;
    second = record { permitted = permitted_lent n l to new_to r.second.permitted; keeps = not_started_wider how keeps_second r.second.keeps; early = not_started_wider how early_second r.second.early };
    seen = record { started = not_started_wider how counted_second r.seen.started; halted = halted_wider how halt_second r.seen.halted };
    reason = r.reason;
  }

-- the first is
module _ (m k : ℕ) (from to new_from new_to : DiskState) where
  counted_first : (why : PairStart) → IsCounted (lent_state m from) to (lent_state k new_from) new_to why → IsCounted from to new_from new_to why
  counted_first (start.From w) is = is
  counted_first (start.To w) is = is
  counted_first start.NoMemory is = is
  counted_first (start.Halt h) is = is

  halt_first : (why : PairHalt) → ShowsHalt (lent_state m from) to (lent_state k new_from) new_to why → ShowsHalt from to new_from new_to why
  halt_first (on.From e) is = (is.0, shows_lent k new_from e is.1)
  halt_first (on.To e) is = is

  pub through_first : (how : Outcome) (before after : Streams) → Replicated how (lent_state m from) to before (lent_state k new_from) new_to after → Replicated how from to before new_from new_to after
  through_first how before after r = record {
    replies = r.replies;
    texts = r.texts;
    judged = r.judged;
    first = record { went = went_lent m k from new_from r.first.went; same = record { contents = r.first.same.contents; writes = r.first.same.writes } };
    second = r.second;
    seen = record { started = not_started_wider how counted_first r.seen.started; halted = halted_wider how halt_first r.seen.halted };
    reason = r.reason;
  }
