use Rattle.std.proofs.Common.{◌≡◌, ◌≤◌, ◌^◌, ℕ, suc, true, false, length, inl, inr, ◌∙◌, refl, sym, ap, subst, arith, Some, None, Option, List, []}
use Rattle.labelled_disk.specs.declared.evidence.Evidence.{Evidence}
use Rattle.labelled_disk.specs.declared.evidence.Halt.{Halt}
use Rattle.labelled_disk.specs.declared.evidence.Halt.TheVariants as halt
use Rattle.labelled_disk.specs.declared.disk.DiskWrite.{DiskWrite}
use Rattle.labelled_disk.specs.Calls.{RevealsSame, Rose}
use Rattle.labelled_disk.specs.Sectors.{Sector}
use Rattle.labelled_disk.specs.State.{DiskState}
use Rattle.labelled_disk.specs.WriteRuns.{Appended}
use Rattle.labelled_disk.proofs.WriteRunLemmas.{appended_none}
use Rattle.flat_machine.specs.Machine.{Machine}
use Rattle.swapper_kernel.specs.Goes.{Went}
use Rattle.swapper_kernel.specs.GoesLaws.{went_itself, went_then}
use Rattle.swapper_kernel.specs.SyncLaws.{synced_has}
use Rattle.trace_io.specs.Reading.{reading}
use Rattle.trace_io.proofs.CourseLemmas.{HasRead-none}
use Rattle.trace_io.specs.declared.progress.Stop.TheVariants as stop
use Rattle.frame_pool.specs.Frames.{Slots}
use Rattle.session_words.specs.StandsFor.{RevealsSettled}
use Rattle.filer_kernel.specs.Evidence.{IsEvident, ShowsEvidence}
use Rattle.pilot_engine.specs.declared.session.Session.{Session}
use Rattle.pilot_engine.specs.Opening.{IsUnset}
use Rattle.pilot_engine.specs.Referring.{TakesCalls}
use Rattle.pilot_engine.proofs.UnsetLemmas.{unset_then}
use Rattle.running_words.specs.Running.{Runs}
use Rattle.pilot_top.specs.CrashStates.{CrashStates}
use Rattle.pilot_top.specs.Headline.{LeadsTo}
use Rattle.pilot_top.specs.Last.{last_line, Puts}
use Rattle.pilot_top.specs.InitialState.{FromEachInitialState}
use Rattle.pilot_top.specs.Parts.{InParts, PartMay}
use Rattle.pilot_top.specs.RunDisk.{halt_on}
use Rattle.pilot_top.specs.Stopping.{status_of, cause_of}
use Rattle.pilot_top.specs.declared.last.Cause.{Cause}
use Rattle.pilot_top.specs.declared.last.Cause.TheVariants as cause
use Rattle.pilot_top.specs.declared.status.Status.TheVariants as status
use Rattle.pilot_top.specs.declared.turn.Turn.TheVariants.{Halts}
use Rattle.pilot_top.proofs.ApartLines.{ended_apart, openly_apart, still_apart}
use Rattle.pilot_top.proofs.ApartRuns.{apart_none, apart_of_any}
use Rattle.pilot_top.proofs.EndLemmas.{End-answering, End-prefix, End-rest, End-short}
use Rattle.pilot_top.proofs.ExitLemmas.{done_leads, halt_not_damaged, halt_evidence, three_ways, stopped_leads, takes_more, still_crash_states, still_spends, line_spends, end_spent, still_leads, line_crash_states, halt_leads, reply_leads, line_not_close, end_closed, end_unheard, end_crash_states}
use Rattle.pilot_top.proofs.PermittedRuns.{called_openly, ended_last, openly_last, openly_none, openly_then}
use Rattle.pilot_top.proofs.ShutLemmas.{openly_shuts, shuts_after}
use Rattle.pilot_top.proofs.OpenLemmas.{early_halt}
use Rattle.pilot_top.proofs.PartLemmas.{parts_still}
use Rattle.pilot_top.proofs.PlaceLemmas.{stop_revealed}
use Rattle.pilot_top.proofs.RootLemmas.{raises_end, raises_itself, raises_still, raises_then}
use Rattle.file_manager.specs.Creating.{counted}
use Rattle.pilot_top.proofs.ReasonLemmas.{damage_same, goes_nowhere, goes_then, reason_before, reason_halted}
use Rattle.pilot_top.proofs.RepliedLemmas.{Replied-changed, Replied-end, Replied-halted, Replied-long, Replied-read_fault, Replied-write_fault}
use Rattle.pilot_top.specs.Sparing.{Hides}
use Rattle.pilot_top.proofs.SparedLineLemmas.{lines_end, lines_hide, lines_more, lines_none, lines_run, lines_same, lines_source, run_still}
use Rattle.pilot_top.proofs.StagedLemmas.{stands_revealed}
use Rattle.pilot_top.proofs.StatusLemmas.{halt_ends, trace_ends}
use Rattle.pilot_top.proofs.StopParts.{Stops-end, Stops-halted, Stops-long, Stops-read_fault, Stops-write_fault, bytes_taken, end_parts, line_taken}
use Rattle.pilot_top.proofs.TopLemmas.{change_revealed, last_of, Run-disk, Run-long, Run-read_fault, Run-write_fault, not_short, rose_later, Puts-later, damage_revealed, revealed_prefix, Going-sink, Going-revealed}
use Rattle.pilot_top.proofs.TurnedLemmas.{Holds, line_parts, more_crash_states, ended_crash_states, still_parts, Turned-start, Turned-reply, Turned-source, Turned-revealed, Turned-same}
use Rattle.pilot_top.proofs.SameLemmas.{crash_states_same, leads_same, shuts_same, unset_same}
use Rattle.pilot_top.proofs.ShownLemmas.{long_ends, none_shown, not_shown, on_disk, on_plain, one_shown, revealed_then, seen_plain, seen_shown}
use Rattle.pilot_top.proofs.run.answer_lines.Given as given
use Rattle.pilot_top.proofs.run.answer_lines.Goals as goal
use Rattle.filer_kernel.specs.View.{disk_of}
use Rattle.fault_core.specs.Core.{state}

-- A session of the function, its disk, and what it stands for.

abbrev Sessions : given.Over → Type 0
Sessions g = Session g.row.D.Denot g.row.A.Denot g.D.Disk

abbrev session_disk : (g : given.Over) → Sessions g → DiskState
session_disk g s = (state s.core).disk

abbrev session_slots : (g : given.Over) → Sessions g → Slots
session_slots g s = (state s.core).slots

abbrev hides_of : (g : given.Over) → Sessions g → ℕ → Type 0
hides_of g s = Hides s

abbrev stands_of : (g : given.Over) → Sessions g → Machine → Type 0
stands_of g s m = Runs s.core s.volume m

reveals : (g : given.Over) (s : Sessions g) (m : Machine) → stands_of g s m → (e : List Sector) → (session_disk g s).contents ≡ Some e → RevealsSettled e m
reveals g s m stands e revealed =
    (stands_revealed m stands (λ d is. g.met.D.Disk.in_form (disk_of s.core.filer) d is) e revealed).revealed

-- a session's disk after a line
holds : (g : given.Over) (before s : Sessions g) → Went (session_disk g before) (session_disk g s) → Holds (stands_of g s) (session_disk g before) (session_disk g s)
holds g before s went = record {
  went = went;
  has_sync = λ writes synced is. synced_has (session_disk g s) (g.met.D.Disk.sync_counts (disk_of s.core.filer)) synced writes is;
  here = λ m stands d revealed. stands_revealed m stands (λ e is. g.met.D.Disk.in_form (disk_of s.core.filer) e is) d revealed;
}

-- a disk that reveals what it holds shows no label that had changed
plain_by : (g : given.Over) (s : Sessions g) (m : Machine) → stands_of g s m → (disk : g.row.D.Denot) (writes : List DiskWrite) → Appended writes (session_disk g s) (g.D.Disk.state disk) → g.D.RunDisk.shown disk ≡ None
plain_by g s m stands disk writes appended =
    let at = stands.session.stands.stands in
    let revealed = revealed_then writes (session_disk g s) (g.D.Disk.state disk) appended at.sectors at.revealed in
    none_shown (g.D.RunDisk.shown disk) (g.D.Disk.state disk) (g.met.D.RunDisk.unrevealed disk) revealed.0 revealed.1

-- the last line was put
abbrev PutsLast : (g : given.Over) → g.row.K.Denot → g.row.K.Denot → Cause → Type 0
PutsLast g k l why = Puts (Rose (g.K.Sink.faults k) (g.K.Sink.faults l)) (g.K.Sink.took k) (g.K.Sink.took l) (last_line why)

pub turns-init : goal.turns-init
turns-init g c =
    let made = c.with_limit-lines.ensures in
    let stopped = ap (λ p. p.stopped) made in
    record {
      turned = Turned-start _ _ c.with_limit-lines.result _ _ (ap (λ p. p.taken) made) stopped
          (λ m is. stands_revealed m is (λ d revealed. g.met.D.Disk.in_form (disk_of c.args.session.core.filer) d revealed))
          (openly_none (record { contents = refl; writes = refl }));
      spared = lines_none _ c.with_limit-lines.result c.args.session.volume.root (session_disk g c.args.session) (session_slots g c.args.session) (Hides c.args.session)
          (HasRead-none _ c.with_limit-lines.result (ap (λ p. p.taken) made) stopped);
      apart = λ m stands. apart_none (record { contents = refl; writes = refl });
      roots = raises_itself c.args.session.volume.root (state c.args.session.core).disk;
      same_disk = went_itself (state c.args.session.core).disk;
      goes_on = inl stopped;
      limit = ap (λ p. p.limit) made;
      bound = rw made (omega arith);
      ready = c.requires.ready;
      layout = refl;
      goes = goes_nowhere c.args.session;
      left_open = λ is. is;
      source = omega arith;
      sink = omega arith;
    }

pub turns-smaller : goal.turns-smaller
turns-smaller g c =
    let turn = c.in-Replies.ensures.turns in
    let more = takes_more turn.1 _ _ c.turns.lines c.take_turn.new.lines turn.2 in
    let bound = c.take_turn.ensures.bound in
    let same = turn.2.limit in
    omega (arith, more, bound, same)

-- a line was answered, and others follow
pub turns-preserved : goal.turns-preserved
turns-preserved g c =
    let i = c.turns.invariant in
    let turn = c.in-Replies.ensures.turns in
    let went = c.take_turn.ensures.writes.wrote.makes.went in
    record {
      turned = Turned-reply i.turned i.same_disk.sectors turn.0 turn.2 turn.3 turn.4 (holds g c.turns.session c.take_turn.new.session went) turn.5 turn.6.wrote
          (called_openly c.take_turn.ensures.writes.wrote) c.in-Ok.ensures.ok;
      spared = lines_hide (λ id still. still tt) (lines_more i.spared turn.0 turn.2 turn.4 i.goes.monotone turn.6);
      apart = λ m stands. openly_apart false i.turned.permitted (called_openly c.take_turn.ensures.writes.wrote) i.same_disk went (i.apart m stands) (c.in-Replies.ensures.writes.apart _ (i.turned.going.stands m stands));
      roots = raises_then i.goes.monotone i.roots (c.in-Replies.ensures.writes.roots.raises tt);
      same_disk = went_then i.same_disk went;
      goes_on = elim turn.2.ends [ inl fed ↦ inl fed.1 | inr ended ↦ inr ended.3 ];
      limit = turn.2.limit ∙ i.limit;
      bound = c.take_turn.ensures.bound;
      ready = record {
        size = went.sectors ∙ i.ready.size ∙ ap (λ l. l.sectors) (sym c.take_turn.ensures.stays.layout);
        opened = c.take_turn.ensures.stays.open_still;
        running = c.in-Replies.ensures.stays.going tt;
      };
      layout = c.take_turn.ensures.stays.layout ∙ i.layout;
      goes = goes_then c.args.session c.turns.session c.take_turn.new.session i.goes (record {
        keeps = λ o keeps not_older. (c.in-Replies.ensures.accounts o keeps not_older).keeps_to tt;
        sees = λ o keeps not_older seen. (c.in-Replies.ensures.accounts o keeps not_older).sees seen tt;
        monotone = c.take_turn.ensures.writes.roots.monotone;
      });
      left_open = λ is. unset_then (i.left_open is) c.take_turn.ensures.writes.wrote;
      source = omega (arith, i.source, c.take_turn.ensures.reads.later);
      sink = omega (arith, i.sink, c.in-Ok.ensures.cause.later);
    }

pub end_trace-requires : goal.end_trace-requires
end_trace-requires g c = record { ready = subst (λ (s : Sessions g). TakesCalls s) (sym (c.in-Ends.ensures.stays.idle tt)) c.turns.invariant.ready }

-- the sink failed on a reply
pub returns-in_default : goal.returns-in_default
returns-in_default g c =
    let i = c.turns.invariant in
    let turn = c.in-Replies.ensures.turns in
    let put = c.in_default.ensures.err in
    let rose = rose_later _ _ _ i.sink c.in_default.ensures.cause.cause in
    let permitted = openly_last (openly_then i.turned.permitted (called_openly c.take_turn.ensures.writes.wrote)) in
    let went = went_then i.same_disk c.take_turn.ensures.writes.wrote.makes.went in
    record {
      answers = record {
        answering = λ m b t stands source sink.
            let turned = Turned-revealed i.turned source sink in
            let has = reply_leads m turned stands turn.0 turn.2 turn.4 (session_disk g c.take_turn.new.session) (holds g c.turns.session c.take_turn.new.session c.take_turn.ensures.writes.wrote.makes.went) turn.5 turn.6.wrote turn.3 (reveals g c.take_turn.new.session) in
            Run-write_fault m b t _ _ c.turns.lines _ _ turned.going stands _ (LeadsTo m (reading b) (session_disk g c.args.session) (g.D.Disk.state c.into_disk.result)) _ _ c.take_turn.new.lines _ turn.1 c.in-Replies.reply turn.0 turn.2 turn.3
            rose put.0 put.1 put.2 (rw c.into_disk.ensures has);
        replied = λ b t left source sink plain.
            Replied-write_fault b t (Going-revealed _ _ _ _ _ _ _ b t i.turned.going source sink) _ (g.D.Disk.state c.into_disk.result) (FromEachInitialState c.args.session (g.D.Disk.state c.into_disk.result)) (g.S.Source.left c.take_turn.new.source) _ c.take_turn.new.lines turn.1 c.in-Replies.reply turn.0 turn.2 turn.3.suits
            rose put.0 put.1 put.2;
        damage = λ t left sink is plain. absurd (cc is);
        sound = λ m stands is. absurd (cc is);
        short = λ b source done. absurd (cc done);
      };
      changes = record {
        changed = λ b t e source sink is shown. absurd (cc is);
        line = λ t e sink is shown. absurd (cc is);
      };
      leaves = record {
        crash_states = λ m b stands source. rw c.into_disk.ensures (line_crash_states m (Turned-source i.turned source) stands turn.0 turn.2 turn.4 turn.5);
        some_crash_states = λ m stands. rw c.into_disk.ensures (_, more_crash_states i.turned turn.5 m stands);
        closed = λ m b stands source done going. absurd (cc done);
        closed_unheard = λ m b stands source is heard left closed. absurd (line_not_close m (Turned-source i.turned source) stands turn.0 turn.2 turn.4 left closed);
        stays_open = λ b left source early. rw c.into_disk.ensures (unset_then (i.left_open left) c.take_turn.ensures.writes.wrote);
        untaken = λ b left source is some. rw c.into_disk.ensures (unset_then (i.left_open left) c.take_turn.ensures.writes.wrote);
        left_open = λ left is. rw c.into_disk.ensures (unset_then (i.left_open left) c.take_turn.ensures.writes.wrote);
      };
      writes = record {
        permitted = rw c.into_disk.ensures permitted;
        syncs = λ m stands. rw c.into_disk.ensures (openly_shuts (openly_then i.turned.permitted (called_openly c.take_turn.ensures.writes.wrote)));
        apart = λ m stands. rw c.into_disk.ensures (apart_of_any true (openly_apart false i.turned.permitted (called_openly c.take_turn.ensures.writes.wrote) i.same_disk c.take_turn.ensures.writes.wrote.makes.went (i.apart m stands) (c.in-Replies.ensures.writes.apart _ (i.turned.going.stands m stands))));
        stops = λ b t source sink.
            let turned = Turned-revealed i.turned source sink in
            rw c.into_disk.ensures
            (Stops-write_fault b t turned.going (Unit {0}) (λ k. InParts (PartMay (reading b)) k (session_disk g c.args.session) (session_disk g c.take_turn.new.session)) (g.S.Source.left c.take_turn.new.source) None c.take_turn.new.lines turn.1 turn.0 turn.2
            (line_parts turned turn.0 turn.2 turn.4 turn.6.wrote));
        spares = λ b source. rw c.into_disk.ensures (lines_run (lines_source source (lines_more i.spared turn.0 turn.2 turn.4 i.goes.monotone turn.6)));
        roots = rw c.into_disk.ensures (counted c.turns.session.volume.root, raises_then i.goes.monotone i.roots c.take_turn.ensures.writes.roots.counts);
        same_disk = rw c.into_disk.ensures went;
        transfers = λ m b stands source. rw c.into_disk.ensures (line_spends m (Turned-source i.turned source) stands turn.0 turn.2 turn.4 i.same_disk.sectors turn.5);
      };
      rests = λ is. elim is [ inl done ↦ absurd (cc done) | inr long ↦ absurd (cc long) ];
      causes = record {
        disk = λ is. absurd (cc is);
        stream = λ is. inr rose;
        long = λ b source is. absurd (cc is);
        no_other = (λ is. cc is, λ is. cc is);
      };
      plain = λ is. absurd (cc is);
      began = (λ is. cc is, λ is. cc is);
    }

-- the source failed
pub returns-in-ReadFault : goal.returns-in-ReadFault
returns-in-ReadFault g c =
    let i = c.turns.invariant in
    let turn = c.in-ReadFault.ensures.turns in
    let same : c.take_turn.new.session ≡ c.turns.session = c.in-ReadFault.ensures.stays.idle tt in
    let rose = rose_later _ _ _ i.source (c.in-ReadFault.ensures.reads.cause refl) in
    let permitted = openly_last (openly_then i.turned.permitted (called_openly c.take_turn.ensures.writes.wrote)) in
    let went = went_then i.same_disk c.take_turn.ensures.writes.wrote.makes.went in
    record {
      answers = record {
        answering = λ m b t stands source sink.
            let turned = Turned-same {S = Sessions g} (session_disk g) (stands_of g) same (Turned-revealed i.turned source sink) in
            Run-read_fault m b t _ _ c.turns.lines _ _ turned.going stands _ (LeadsTo m (reading b) (session_disk g c.args.session) (g.D.Disk.state c.into_disk-in-ReadFault.result)) _ c.take_turn.new.lines turn.0 turn.1
            (rw c.into_disk-in-ReadFault.ensures (still_leads m turned stands (reveals g c.take_turn.new.session)));
        replied = λ b t left source sink plain.
            Replied-read_fault b t (Going-revealed _ _ _ _ _ _ _ b t i.turned.going source sink) _ (g.D.Disk.state c.into_disk-in-ReadFault.result) (FromEachInitialState c.args.session (g.D.Disk.state c.into_disk-in-ReadFault.result)) (g.S.Source.left c.take_turn.new.source) c.take_turn.new.lines turn.0 turn.1;
        damage = λ t left sink is plain. absurd (cc is);
        sound = λ m stands is. absurd (cc is);
        short = λ b source done. absurd (cc done);
      };
      changes = record {
        changed = λ b t e source sink is shown. absurd (cc is);
        line = λ t e sink is shown. absurd (cc is);
      };
      leaves = record {
        crash_states = λ m b stands source. rw c.into_disk-in-ReadFault.ensures (still_crash_states m (Turned-same {S = Sessions g} (session_disk g) (stands_of g) same (Turned-source i.turned source)) stands);
        some_crash_states = λ m stands. rw (c.into_disk-in-ReadFault.ensures, same) (_, (i.turned.along m stands).0);
        closed = λ m b stands source done going. absurd (cc done);
        closed_unheard = λ m b stands source is heard left closed. absurd (heard rose);
        stays_open = λ b left source early. rw c.into_disk-in-ReadFault.ensures (unset_then (i.left_open left) c.take_turn.ensures.writes.wrote);
        untaken = λ b left source is some. rw c.into_disk-in-ReadFault.ensures (unset_then (i.left_open left) c.take_turn.ensures.writes.wrote);
        left_open = λ left is. rw c.into_disk-in-ReadFault.ensures (unset_then (i.left_open left) c.take_turn.ensures.writes.wrote);
      };
      writes = record {
        permitted = rw c.into_disk-in-ReadFault.ensures permitted;
        syncs = λ m stands. rw c.into_disk-in-ReadFault.ensures (openly_shuts (openly_then i.turned.permitted (called_openly c.take_turn.ensures.writes.wrote)));
        apart = λ m stands. rw c.into_disk-in-ReadFault.ensures (apart_of_any true (openly_apart false i.turned.permitted (called_openly c.take_turn.ensures.writes.wrote) i.same_disk c.take_turn.ensures.writes.wrote.makes.went (i.apart m stands) (c.in-ReadFault.ensures.writes.apart _ (i.turned.going.stands m stands))));
        stops = λ b t source sink.
            let turned = Turned-same {S = Sessions g} (session_disk g) (stands_of g) same (Turned-revealed i.turned source sink) in
            rw c.into_disk-in-ReadFault.ensures
            (Stops-read_fault b t turned.going (Unit {0}) (λ k. InParts (PartMay (reading b)) k (session_disk g c.args.session) (session_disk g c.take_turn.new.session)) (g.S.Source.left c.take_turn.new.source) None c.take_turn.new.lines turn.0 turn.1
            (still_parts turned (length turned.going.lines) (omega arith)));
        spares = λ b source. rw c.into_disk-in-ReadFault.ensures (lines_run (lines_source source (lines_same {S = Sessions g} (session_disk g) (session_slots g) (hides_of g) same i.spared)));
        roots = rw c.into_disk-in-ReadFault.ensures (counted c.turns.session.volume.root, raises_then i.goes.monotone i.roots c.take_turn.ensures.writes.roots.counts);
        same_disk = rw c.into_disk-in-ReadFault.ensures went;
        transfers = λ m b stands source. rw (c.into_disk-in-ReadFault.ensures, same) (still_spends m (Turned-source i.turned source) stands);
      };
      rests = λ is. elim is [ inl done ↦ absurd (cc done) | inr long ↦ absurd (cc long) ];
      causes = record {
        disk = λ is. absurd (cc is);
        stream = λ is. inl rose;
        long = λ b source is. absurd (cc is);
        no_other = (λ is. cc is, λ is. cc is);
      };
      plain = λ is. absurd (cc is);
      began = (λ is. cc is, λ is. cc is);
    }

-- as many bytes as the limit were taken
pub returns-in-Long : goal.returns-in-Long
returns-in-Long g c =
    let i = c.turns.invariant in
    let turn = c.in-Long.ensures.turns in
    let e = c.end_long.ensures in
    let same : c.take_turn.new.session ≡ c.turns.session = c.in-Long.ensures.stays.idle tt in
    let mid = session_disk g c.take_turn.new.session in
    let disk = g.D.Disk.state c.end_long.result.1 in
    let there : RevealsSame mid disk = subst (λ (d : g.row.D.Denot). RevealsSame (g.D.Disk.state d) disk) c.into_disk-in-Long.ensures e.same in
    let later : Went mid disk = subst (λ (d : g.row.D.Denot). Went (g.D.Disk.state d) disk) c.into_disk-in-Long.ensures e.went in
    let spent : disk.transfers ≡ mid.transfers = e.transfers ∙ ap (λ (d : g.row.D.Denot). (g.D.Disk.state d).transfers) c.into_disk-in-Long.ensures in
    let before = went_then i.same_disk c.take_turn.ensures.writes.wrote.makes.went in
    let open_then : IsUnset (session_disk g c.args.session) → IsUnset disk = λ left. unset_same there (unset_then (i.left_open left) c.take_turn.ensures.writes.wrote) in
    let other = long_ends c.end_long.result.0 e.ends in
    let permitted = openly_last (openly_then i.turned.permitted (called_openly c.take_turn.ensures.writes.wrote)) in
    let plain : (m : Machine) → stands_of g c.args.session m → g.D.RunDisk.shown c.end_long.result.1 ≡ None = λ m stands. plain_by g c.take_turn.new.session (last_of m i.turned.going.lines) (subst (λ (s : Sessions g). stands_of g s (last_of m i.turned.going.lines)) (sym same) (i.turned.going.stands m stands)) c.end_long.result.1 [] (appended_none there) in
    record {
      answers = record {
        answering = λ m b t stands source sink.
            let turned = Turned-same {S = Sessions g} (session_disk g) (stands_of g) same (Turned-revealed i.turned source sink) in
            let has = leads_same there m (reading b) (length turned.going.lines) 0 later (still_leads m turned stands (reveals g c.take_turn.new.session)) in
            elim e.ends [
              | inl long ↦
                  rw long
                  (Run-long m b t _ _ c.turns.lines _ _ turned.going stands _ (LeadsTo m (reading b) (session_disk g c.args.session) disk) _ _ c.take_turn.new.lines turn.0 turn.1 (turn.2 ∙ turn.1.limit ∙ i.limit)
                  (Puts-later _ _ _ _ _ (rose_later _ _ _ i.sink) (e.line long)) has)
              | inr (inl failed) ↦
                  rw failed
                  (Run-disk m b t _ _ c.turns.lines _ _ turned.going stands _ (LeadsTo m (reading b) (session_disk g c.args.session) disk) (g.S.Source.left c.take_turn.new.source) _ turn.0
                  (Puts-later _ _ _ _ _ (rose_later _ _ _ i.sink) (e.disk_fault failed).2) 0 has)
              | inr (inr damaged) ↦ not_shown (plain m stands) (e.changed damaged).1
            ];
        replied = λ b t left source sink plain.
            let going = Going-revealed _ _ _ _ _ _ _ b t i.turned.going source sink in
            let prefix = revealed_prefix b _ c.turns.lines going.lines going.read turn.0 in
            elim e.ends [
              | inl long ↦
                  rw long
                  (Replied-long b t going _ disk (FromEachInitialState c.args.session disk) (g.S.Source.left c.take_turn.new.source) _ c.take_turn.new.lines turn.0 turn.1 (turn.2 ∙ turn.1.limit ∙ i.limit)
                  (Puts-later _ _ _ _ _ (rose_later _ _ _ i.sink) (e.line long)))
              | inr (inl failed) ↦
                  Replied-halted b t going _ disk (FromEachInitialState c.args.session disk) c.end_long.result.0 halt.Disk (g.S.Source.left c.take_turn.new.source) _ prefix.0 prefix.1 failed
                  tt (λ f is. absurd (cc is)) (open_then left) (Puts-later _ _ _ _ _ (rose_later _ _ _ i.sink) (e.disk_fault failed).2)
              | inr (inr damaged) ↦ not_shown (plain damaged) (e.changed damaged).1
            ];
        damage = λ t left sink is plain. not_shown plain (e.changed is).1;
        sound = λ m stands is. not_shown (plain m stands) (e.changed is).1;
        short = λ b source done. absurd (other.0 done);
      };
      changes = record {
        changed = λ b t f source sink is shown.
            let going = Going-revealed _ _ _ _ _ _ _ b t i.turned.going source sink in
            let prefix = revealed_prefix b _ c.turns.lines going.lines going.read turn.0 in
            let line = e.changed is in
            Replied-changed b t going _ disk (FromEachInitialState c.args.session disk) _ prefix.0 prefix.1 f
            (Puts-later _ _ _ _ _ (rose_later _ _ _ i.sink) (subst (λ (x : Evidence). PutsLast g c.turns.sink c.end_long.new.sink (cause.Damaged x)) (one_shown line.1 shown) line.2));
        line = λ t f sink is shown.
            let line = e.changed is in
            change_revealed _ _ _ _ t c.turns.lines _ _ _ f (Going-sink _ _ _ _ _ _ _ t i.turned.going sink)
            (Puts-later _ _ _ _ _ (rose_later _ _ _ i.sink) (subst (λ (x : Evidence). PutsLast g c.turns.sink c.end_long.new.sink (cause.Damaged x)) (one_shown line.1 shown) line.2));
      };
      leaves = record {
        crash_states = λ m b stands source. crash_states_same there (still_crash_states m (Turned-same {S = Sessions g} (session_disk g) (stands_of g) same (Turned-source i.turned source)) stands);
        some_crash_states = λ m stands.
            let along : CrashStates m i.turned.going.lines (session_disk g c.args.session) mid = rw same (i.turned.along m stands).0 in
            (i.turned.going.lines, crash_states_same there along);
        closed = λ m b stands source done going. absurd (other.0 done);
        closed_unheard = λ m b stands source is heard left closed. absurd (other.1 is);
        stays_open = λ b left source early. open_then left;
        untaken = λ b left source is some. open_then left;
        left_open = λ left is. open_then left;
      };
      writes = record {
        permitted = shuts_same there permitted;
        syncs = λ m stands. openly_shuts (openly_then (openly_then i.turned.permitted (called_openly c.take_turn.ensures.writes.wrote)) (openly_none there));
        apart = λ m stands. apart_of_any true (still_apart (openly_then i.turned.permitted (called_openly c.take_turn.ensures.writes.wrote)) there before later (openly_apart false i.turned.permitted (called_openly c.take_turn.ensures.writes.wrote) i.same_disk c.take_turn.ensures.writes.wrote.makes.went (i.apart m stands) (c.in-Long.ensures.writes.apart _ (i.turned.going.stands m stands))));
        stops = λ b t source sink.
            let turned = Turned-same {S = Sessions g} (session_disk g) (stands_of g) same (Turned-revealed i.turned source sink) in
            let wrote = λ (k : ℕ). InParts (PartMay (reading b)) k (session_disk g c.args.session) disk in
            let full : c.take_turn.new.lines.taken ≡ 2 ^ 32 = turn.2 ∙ turn.1.limit ∙ i.limit in
            let some = bytes_taken b t turned.going (Unit {0}) wrote (g.S.Source.left c.take_turn.new.source) c.take_turn.new.lines stop.Long turn.0 turn.1 (omega (arith, full)) in
            let at : (k : ℕ) → length turned.going.lines ≤ k → wrote k = λ k le. parts_still (PartMay (reading b)) k (still_parts turned k le) there in
            elim e.ends [
              | inl long ↦ rw long (Stops-long b t turned.going (Unit {0}) wrote (g.S.Source.left c.take_turn.new.source) None c.take_turn.new.lines turn.0 turn.1 (at (length turned.going.lines) (omega arith)))
              | inr (inl failed) ↦
                  Stops-halted b t turned.going _ wrote c.end_long.result.0 halt.Disk (g.S.Source.left c.take_turn.new.source) _ failed
                  (Puts-later _ _ _ _ _ (rose_later _ _ _ i.sink) (e.disk_fault failed).2) (at (suc (length turned.going.lines)) (omega arith)) some
              | inr (inr damaged) ↦
                  let line = e.changed damaged in
                  Stops-halted b t turned.going _ wrote c.end_long.result.0 (halt.Damaged line.0) (g.S.Source.left c.take_turn.new.source) _ damaged
                  (Puts-later _ _ _ _ _ (rose_later _ _ _ i.sink) line.2) (at (suc (length turned.going.lines)) (omega arith)) some
            ];
        spares = λ b source. run_still (lines_run (lines_source source (lines_same {S = Sessions g} (session_disk g) (session_slots g) (hides_of g) same i.spared))) there;
        roots = (counted c.turns.session.volume.root, raises_still (raises_then i.goes.monotone i.roots c.take_turn.ensures.writes.roots.counts) there);
        same_disk = went_then before later;
        transfers = λ m b stands source. let most = still_spends m (Turned-same {S = Sessions g} (session_disk g) (stands_of g) same (Turned-source i.turned source)) stands in omega (arith, most, spent);
      };
      rests = λ is. elim is [ inl done ↦ absurd (other.0 done) | inr long ↦ e.rests long ];
      causes = record {
        disk = λ is.
            let rose : Rose mid.faults disk.faults = subst (λ (d : g.row.D.Denot). Rose (g.D.Disk.state d).faults disk.faults) c.into_disk-in-Long.ensures (e.disk_fault is).1 in
            rose_later _ _ _ before.faults rose;
        stream = λ is. absurd (other.1 is);
        long = λ b source is. not_short b _ _ _ c.turns.lines _ _ (Turned-source i.turned source).going _ c.take_turn.new.lines turn.0 turn.1 turn.2 i.limit;
        no_other = (other.2, other.5);
      };
      plain = λ is. (e.disk_fault is).0;
      began = (other.3, other.4);
    }

-- a call stopped the session
pub returns-in-Halts : goal.returns-in-Halts
returns-in-Halts g c =
    let i = c.turns.invariant in
    let turn = c.in-Halts.ensures.turns in
    let shown = g.D.RunDisk.shown c.into_disk-disk.result in
    let s = c.stop_on-status.result in
    let stopped : s ≡ status_of (halt_on shown c.in-Halts.halt) = c.stop_on-status.ensures.status in
    let other = halt_ends (halt_on shown c.in-Halts.halt) s stopped in
    let permitted = openly_last (openly_then i.turned.permitted (called_openly c.take_turn.ensures.writes.wrote)) in
    let went = went_then i.same_disk c.take_turn.ensures.writes.wrote.makes.went in
    let disk = session_disk g c.take_turn.new.session in
    let line = c.stop_on-status.ensures.line in
    let plain_status : shown ≡ None → s ≡ status_of c.in-Halts.halt = λ none. stopped ∙ ap (λ (o : Option Evidence). status_of (halt_on o c.in-Halts.halt)) none in
    let plain_line : shown ≡ None → PutsLast g c.turns.sink c.stop_on-status.new.sink (cause_of c.in-Halts.halt) = λ none.
    subst (λ (o : Option Evidence). PutsLast g c.turns.sink c.stop_on-status.new.sink (cause_of (halt_on o c.in-Halts.halt))) none line in
    let change_line : (e : Evidence) → shown ≡ Some e → PutsLast g c.turns.sink c.stop_on-status.new.sink (cause.Damaged e) = λ e is.
    subst (λ (o : Option Evidence). PutsLast g c.turns.sink c.stop_on-status.new.sink (cause_of (halt_on o c.in-Halts.halt))) is line in
    let plain : (m : Machine) → stands_of g c.args.session m → shown ≡ None = λ m stands.
    let made = (turn.4 (last_of m i.turned.going.lines) (i.turned.going.stands m stands)).0 in
    plain_by g c.turns.session (last_of m i.turned.going.lines) (i.turned.going.stands m stands) c.into_disk-disk.result made.writes (rw c.into_disk-disk.ensures made.appended) in
    let reason = λ (e : Evidence). reason_halted c.args.session c.turns.session i.layout i.goes disk e c.in-Halts.halt (λ o keeps not_older. ((c.in-Halts.ensures.accounts o keeps not_older).reasons c.in-Halts.halt refl, λ seen. (c.in-Halts.ensures.accounts o keeps not_older).right seen c.in-Halts.halt refl)) in
    record {
      answers = record {
        answering = λ m b t stands source sink.
            let turned = Turned-revealed i.turned source sink in
            let none = plain m stands in
            let why : c.in-Halts.halt ≡ halt.Disk = c.in-Halts.ensures.stops.sound _ c.in-Halts.halt (turned.going.stands m stands) refl in
            let is : s ≡ status.DiskFault = plain_status none ∙ ap status_of why in
            let line : PutsLast g c.turns.sink c.stop_on-status.new.sink cause.DiskFault = subst (λ (h : Halt). PutsLast g c.turns.sink c.stop_on-status.new.sink (cause_of h)) why (plain_line none) in
            let has = halt_leads m turned stands turn.0 turn.2 turn.3 c.take_turn.ensures.writes.wrote.makes.went turn.4 in
            rw is
            (Run-disk m b t _ _ c.turns.lines _ _ turned.going stands _ (LeadsTo m (reading b) (session_disk g c.args.session) (g.D.Disk.state c.into_disk-disk.result)) (g.S.Source.left c.take_turn.new.source) _ turn.0
            (Puts-later _ _ _ _ _ (rose_later _ _ _ i.sink) line) has.0 (rw c.into_disk-disk.ensures has.1));
        replied = λ b t left source sink plain.
            let none = on_plain shown c.in-Halts.halt s stopped plain in
            let going = Going-revealed _ _ _ _ _ _ _ b t i.turned.going source sink in
            let prefix = revealed_prefix b _ c.turns.lines going.lines going.read turn.0 in
            rw c.into_disk-disk.ensures
            (Replied-halted b t going _ disk (FromEachInitialState c.args.session disk) s c.in-Halts.halt (g.S.Source.left c.take_turn.new.source) _ prefix.0 prefix.1 (plain_status none)
            (c.in-Halts.ensures.stops.evidence_seen c.in-Halts.halt refl) reason (unset_then (i.left_open left) c.take_turn.ensures.writes.wrote)
            (Puts-later _ _ _ _ _ (rose_later _ _ _ i.sink) (plain_line none)));
        damage = λ t left sink is none.
            let why = halt_evidence c.in-Halts.halt s (plain_status none) is in
            let evidence_seen : IsEvident disk why.0 = subst (λ (h : Halt). ShowsEvidence disk h) why.1 (c.in-Halts.ensures.stops.evidence_seen c.in-Halts.halt refl) in
            let line = Puts-later _ _ _ _ _ (rose_later _ _ _ i.sink) (subst (λ (h : Halt). PutsLast g c.turns.sink c.stop_on-status.new.sink (cause_of h)) why.1 (plain_line none)) in
            let revealed = damage_revealed _ _ _ _ t c.turns.lines _ _ _ why.0 disk evidence_seen (unset_then (i.left_open left) c.take_turn.ensures.writes.wrote) (Going-sink _ _ _ _ _ _ _ t i.turned.going sink) line in
            damage_same c.args.session c.into_disk-disk.result (disk_of c.take_turn.new.session.core.filer) c.into_disk-disk.ensures (revealed, reason why.0 why.1);
        sound = λ m stands is. halt_not_damaged c.in-Halts.halt s (plain_status (plain m stands)) (c.in-Halts.ensures.stops.sound _ c.in-Halts.halt (i.turned.going.stands m stands) refl) is;
        short = λ b source done. absurd (other.0 done);
      };
      changes = record {
        changed = λ b t e source sink is shows.
            let going = Going-revealed _ _ _ _ _ _ _ b t i.turned.going source sink in
            let prefix = revealed_prefix b _ c.turns.lines going.lines going.read turn.0 in
            Replied-changed b t going _ disk (FromEachInitialState c.args.session disk) _ prefix.0 prefix.1 e (Puts-later _ _ _ _ _ (rose_later _ _ _ i.sink) (change_line e shows));
        line = λ t e sink is shows. change_revealed _ _ _ _ t c.turns.lines _ _ _ e (Going-sink _ _ _ _ _ _ _ t i.turned.going sink) (Puts-later _ _ _ _ _ (rose_later _ _ _ i.sink) (change_line e shows));
      };
      leaves = record {
        crash_states = λ m b stands source. rw c.into_disk-disk.ensures (line_crash_states m (Turned-source i.turned source) stands turn.0 turn.2 turn.3 turn.4);
        some_crash_states = λ m stands. rw c.into_disk-disk.ensures (_, more_crash_states i.turned turn.4 m stands);
        closed = λ m b stands source done going. absurd (other.0 done);
        closed_unheard = λ m b stands source is heard left closed. absurd (other.1 is);
        stays_open = λ b left source early. rw c.into_disk-disk.ensures (unset_then (i.left_open left) c.take_turn.ensures.writes.wrote);
        untaken = λ b left source is some. absurd (other.1 is);
        left_open = λ left is. rw c.into_disk-disk.ensures (unset_then (i.left_open left) c.take_turn.ensures.writes.wrote);
      };
      writes = record {
        permitted = rw c.into_disk-disk.ensures permitted;
        syncs = λ m stands. rw c.into_disk-disk.ensures (openly_shuts (openly_then i.turned.permitted (called_openly c.take_turn.ensures.writes.wrote)));
        apart = λ m stands. rw c.into_disk-disk.ensures (openly_apart true i.turned.permitted (called_openly c.take_turn.ensures.writes.wrote) i.same_disk c.take_turn.ensures.writes.wrote.makes.went (i.apart m stands) (c.in-Halts.ensures.writes.apart _ (i.turned.going.stands m stands)));
        stops = λ b t source sink.
            let turned = Turned-revealed i.turned source sink in
            rw c.into_disk-disk.ensures
            (Stops-halted b t turned.going _ (λ k. InParts (PartMay (reading b)) k (session_disk g c.args.session) disk) s (halt_on shown c.in-Halts.halt) (g.S.Source.left c.take_turn.new.source) _ stopped
            (Puts-later _ _ _ _ _ (rose_later _ _ _ i.sink) line) (line_parts turned turn.0 turn.2 turn.3 turn.5.wrote)
            (line_taken b t turned.going (Unit {0}) (λ k. InParts (PartMay (reading b)) k (session_disk g c.args.session) disk) (g.S.Source.left c.take_turn.new.source) c.take_turn.new.lines turn.1 turn.0 turn.2));
        spares = λ b source. rw c.into_disk-disk.ensures (lines_run (lines_source source (lines_more i.spared turn.0 turn.2 turn.3 i.goes.monotone turn.5)));
        roots = rw c.into_disk-disk.ensures (counted c.turns.session.volume.root, raises_then i.goes.monotone i.roots c.take_turn.ensures.writes.roots.counts);
        same_disk = rw c.into_disk-disk.ensures went;
        transfers = λ m b stands source. rw c.into_disk-disk.ensures (line_spends m (Turned-source i.turned source) stands turn.0 turn.2 turn.3 i.same_disk.sectors turn.4);
      };
      rests = λ is. elim is [ inl done ↦ absurd (other.0 done) | inr long ↦ absurd (other.2 long) ];
      causes = record {
        disk = λ is.
            let failed = on_disk shown c.in-Halts.halt s stopped _ _ _ is line in
            rw c.into_disk-disk.ensures (rose_later _ _ _ i.same_disk.faults (c.in-Halts.ensures.stops.counted (ap (λ (h : Halt). Halts h) failed.1)));
        stream = λ is. absurd (other.1 is);
        long = λ b source is. absurd (other.2 is);
        no_other = (other.3, other.6);
      };
      plain = λ is. (on_disk shown c.in-Halts.halt s stopped _ _ _ is line).0;
      began = (other.4, other.5);
    }

-- the trace is at its end
pub returns-in-Ends : goal.returns-in-Ends
returns-in-Ends g c =
    let i = c.turns.invariant in
    let e = c.end_trace.ensures in
    let ended = c.in-Ends.ensures.turns in
    let same : c.take_turn.new.session ≡ c.turns.session = c.in-Ends.ensures.stays.idle tt in
    let stands_still = Turned-same {S = Sessions g} (session_disk g) (stands_of g) same i.turned in
    let disk = g.D.Disk.state c.end_trace.result.1 in
    let went = went_then i.same_disk c.take_turn.ensures.writes.wrote.makes.went in
    let other = trace_ends c.end_trace.result.0 e.answers.ends in
    let layout = c.take_turn.ensures.stays.layout ∙ i.layout in
    let goes = goes_then c.args.session c.turns.session c.take_turn.new.session i.goes (record {
      keeps = λ o keeps not_older. (c.in-Ends.ensures.accounts o keeps not_older).keeps_to tt;
      sees = λ o keeps not_older seen. (c.in-Ends.ensures.accounts o keeps not_older).sees seen tt;
      monotone = c.take_turn.ensures.writes.roots.monotone;
    }) in
    let reason = λ (e : Evidence). reason_before c.args.session c.take_turn.new.session layout goes disk e in
    record {
      answers = record {
        answering = λ m b t stands source sink.
            let turned = Turned-revealed stands_still source sink in
            let there = turned.going.stands m stands in
            let revealed = stop_revealed _ (e.stands _ there).stops in
            End-answering m b t _ _ c.turns.lines _ _ turned.going stands _ (LeadsTo m (reading b) (session_disk g c.args.session) disk) c.end_trace.result.0 c.in-Ends.end _ _ c.take_turn.new.lines ended
            (three_ways c.end_trace.result.0 e.answers.ends (e.stands _ there).sound) e.answers.done e.answers.part
            (λ is. (rose_later _ _ _ i.sink (e.answers.stream_cause is).0, (e.answers.stream_cause is).1))
            (λ is. Puts-later _ _ _ _ _ (rose_later _ _ _ i.sink) (e.answers.disk_fault is).2)
            (λ well. done_leads m turned stands disk c.in-Ends.end _ c.take_turn.new.lines ended e.writes.wrote
            (λ writes synced is. synced_has disk (g.met.D.Disk.sync_counts c.end_trace.result.1) synced writes is) e.halted (λ other. (e.stands _ there).closed (other, well)) (e.stands _ there).stops)
            (stopped_leads m turned stands disk e.writes.wrote.went revealed (e.stands _ there).stops);
        replied = λ b t left source sink plain.
            Replied-end b t (Going-revealed _ _ _ _ _ _ _ b t i.turned.going source sink) _ disk (FromEachInitialState c.args.session disk) c.end_trace.result.0 c.in-Ends.end (g.S.Source.left c.take_turn.new.source) _ c.take_turn.new.lines ended e.answers.ends e.answers.done e.answers.part
            (λ is. (rose_later _ _ _ i.sink (e.answers.stream_cause is).0, (e.answers.stream_cause is).1))
            (λ is. Puts-later _ _ _ _ _ (rose_later _ _ _ i.sink) (e.answers.disk_fault is).2)
            (λ is. let line = e.answers.damage is in let seen = seen_plain disk (FromEachInitialState c.take_turn.new.session disk) line.0 (plain is) line.1 in (line.0, seen.0, reason line.0 seen.1, Puts-later _ _ _ _ _ (rose_later _ _ _ i.sink) line.2))
            (λ is. e.left_open (unset_then (i.left_open left) c.take_turn.ensures.writes.wrote) is);
        damage = λ t left sink is plain.
            let line = e.answers.damage is in
            let seen = seen_plain disk (FromEachInitialState c.take_turn.new.session disk) line.0 plain line.1 in
            let open_still = e.left_open (unset_then (i.left_open left) c.take_turn.ensures.writes.wrote) is in
            let revealed = damage_revealed _ _ _ _ t c.turns.lines _ _ _ line.0 disk seen.0 open_still (Going-sink _ _ _ _ _ _ _ t i.turned.going sink) (Puts-later _ _ _ _ _ (rose_later _ _ _ i.sink) line.2) in
            (revealed, reason line.0 seen.1);
        sound = λ m stands. (e.stands _ (stands_still.going.stands m stands)).sound;
        short = λ b source done. End-short b _ _ _ c.turns.lines _ _ (Turned-source i.turned source).going c.in-Ends.end _ c.take_turn.new.lines ended i.limit;
      };
      changes = record {
        changed = λ b t f source sink is shown.
            let going = Going-revealed _ _ _ _ _ _ _ b t i.turned.going source sink in
            let prefix = End-prefix b _ (Some t) _ c.turns.lines _ _ going c.in-Ends.end _ c.take_turn.new.lines ended in
            let line = e.answers.damage is in
            Replied-changed b t going _ disk (FromEachInitialState c.args.session disk) _ prefix.0 prefix.1 f
            (Puts-later _ _ _ _ _ (rose_later _ _ _ i.sink) (subst (λ (x : Evidence). PutsLast g c.turns.sink c.end_trace.new.sink (cause.Damaged x)) (sym (seen_shown disk (FromEachInitialState c.take_turn.new.session disk) line.0 f shown line.1)) line.2));
        line = λ t f sink is shown.
            let line = e.answers.damage is in
            change_revealed _ _ _ _ t c.turns.lines _ _ _ f (Going-sink _ _ _ _ _ _ _ t i.turned.going sink)
            (Puts-later _ _ _ _ _ (rose_later _ _ _ i.sink) (subst (λ (x : Evidence). PutsLast g c.turns.sink c.end_trace.new.sink (cause.Damaged x)) (sym (seen_shown disk (FromEachInitialState c.take_turn.new.session disk) line.0 f shown line.1)) line.2));
      };
      leaves = record {
        crash_states = λ m b stands source. let turned = Turned-source stands_still source in end_crash_states m turned stands _ (e.stands _ (turned.going.stands m stands)).stops;
        some_crash_states = λ m stands. (_, ended_crash_states stands_still m stands (e.stands _ (stands_still.going.stands m stands)).stops);
        closed = λ m b stands source done going.
            let turned = Turned-source stands_still source in
            end_closed m turned stands _ c.in-Ends.end _ c.take_turn.new.lines ended going (λ other. (e.stands _ (turned.going.stands m stands)).closed (other, inl done));
        closed_unheard = λ m b stands source is heard left closed.
            let turned = Turned-source stands_still source in
            end_unheard m turned stands _ c.in-Ends.end _ c.take_turn.new.lines ended closed (λ other. (e.stands _ (turned.going.stands m stands)).closed (other, inr is));
        stays_open = λ b left source early.
            let now = unset_then (i.left_open left) c.take_turn.ensures.writes.wrote in
            let turned = Turned-source i.turned source in
            elim (early_halt b _ _ _ c.turns.lines _ _ turned.going c.end_trace.result.0 c.in-Ends.end _ c.take_turn.new.lines ended e.answers.ends (λ is. (e.answers.stream_cause is).1) early) [
              | inl halted ↦ unset_same (e.halted halted) now
              | inr damaged ↦ e.left_open now damaged
            ];
        untaken = λ b left source is some. absurd (some (End-rest b _ _ _ c.turns.lines _ _ (Turned-source i.turned source).going c.in-Ends.end _ c.take_turn.new.lines ended));
        left_open = λ left is. elim is [
          | inl long ↦ absurd (other.0 long)
          | inr damaged ↦ e.left_open (unset_then (i.left_open left) c.take_turn.ensures.writes.wrote) damaged
        ];
      };
      writes = record {
        permitted = ended_last (openly_then i.turned.permitted (called_openly c.take_turn.ensures.writes.wrote)) e.writes.wrote;
        syncs = λ m stands. shuts_after (openly_then i.turned.permitted (called_openly c.take_turn.ensures.writes.wrote)) (e.stands _ (stands_still.going.stands m stands)).syncs;
        apart = λ m stands.
            apart_of_any true (ended_apart _ (openly_then i.turned.permitted (called_openly c.take_turn.ensures.writes.wrote)) (e.stands _ (stands_still.going.stands m stands)).stops went e.writes.wrote.went
            (openly_apart false i.turned.permitted (called_openly c.take_turn.ensures.writes.wrote) i.same_disk c.take_turn.ensures.writes.wrote.makes.went (i.apart m stands) (c.in-Ends.ensures.writes.apart _ (i.turned.going.stands m stands))));
        stops = λ b t source sink.
            let turned = Turned-revealed stands_still source sink in
            Stops-end b t turned.going _ (λ k. InParts (PartMay (reading b)) k (session_disk g c.args.session) disk) (g.S.Source.left c.take_turn.new.source) _ c.take_turn.new.lines c.end_trace.result.0 c.in-Ends.end ended e.answers.ends
            (λ is. (e.answers.stream_cause is).1)
            (λ is. Puts-later _ _ _ _ _ (rose_later _ _ _ i.sink) (e.answers.disk_fault is).2)
            (λ is. let line = e.answers.damage is in (line.0, Puts-later _ _ _ _ _ (rose_later _ _ _ i.sink) line.2))
            (end_parts b turned.going c.in-Ends.end (g.S.Source.left c.take_turn.new.source) c.take_turn.new.lines ended e.halted turned.parts e.writes.wrote);
        spares = λ b source.
            lines_end c.in-Ends.end (g.S.Source.left c.take_turn.new.source) c.take_turn.new.lines ended e.halted
            (lines_source source (lines_same {S = Sessions g} (session_disk g) (session_slots g) (hides_of g) same i.spared)) e.writes.spares e.writes.wrote;
        roots = (c.take_turn.new.session.volume.root, raises_then goes.monotone (raises_then i.goes.monotone i.roots (c.in-Ends.ensures.writes.roots.raises tt)) (raises_end c.take_turn.new.session.volume.root e.writes.wrote.ends));
        same_disk = went_then went e.writes.wrote.went;
        transfers = λ m b stands source. let turned = Turned-source stands_still source in end_spent m turned stands disk went.sectors (e.stands _ (turned.going.stands m stands)).cost;
      };
      rests = λ is. elim is [ inl done ↦ e.rests done | inr long ↦ absurd (other.0 long) ];
      causes = record {
        disk = λ is. rose_later _ _ _ went.faults (e.answers.disk_fault is).1;
        stream = λ is. inr (rose_later _ _ _ i.sink (e.answers.stream_cause is).0);
        long = λ b source is. absurd (other.0 is);
        no_other = (other.1, other.4);
      };
      plain = λ is. (e.answers.disk_fault is).0;
      began = (other.2, other.3);
    }
