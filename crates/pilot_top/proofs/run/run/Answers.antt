use Rattle.std.proofs.Common.{arith, true, ◌≡◌, ◌^◌, List, [], Some, ℕ, refl, sym, ◌∙◌}
use Rattle.labelled_disk.specs.declared.disk.DiskWrite.{DiskWrite}
use Rattle.labelled_disk.specs.declared.evidence.Evidence.{Evidence}
use Rattle.labelled_disk.specs.Root.{root_page}
use Rattle.labelled_disk.specs.Sectors.{Sector}
use Rattle.flat_machine.specs.After.{TraceLine}
use Rattle.flat_machine.specs.Start.{start}
use Rattle.swapper_kernel.specs.GoesLaws.{went_then}
use Rattle.file_map.specs.FileMap.{Triples}
use Rattle.file_map.specs.InSectors.{MapNames}
use Rattle.trace_io.specs.Reading.{IsShort, reading}
use Rattle.filer_kernel.specs.View.{accepted}
use Rattle.fault_core.specs.Core.{state}
use Rattle.volume_root.specs.declared.root.Root.{Root}
use Rattle.volume_root.specs.RootPage.{root_in}
use Rattle.volume_root.specs.Sound.{Sound}
use Rattle.pilot_top.specs.CrashStates.{CrashStates, Lawfully}
use Rattle.pilot_top.specs.InitialState.{FromEachInitialState, FromInitialState}
use Rattle.pilot_top.specs.OnePlace.{ChangesApart}
use Rattle.pilot_top.specs.Parts.{InParts, PartMay, RaisesRoot}
use Rattle.pilot_top.specs.Sparing.{Hides}
use Rattle.pilot_top.specs.World.{world}
use Rattle.pilot_top.proofs.AfterLemmas.{Stops-less}
use Rattle.pilot_top.proofs.ApartLines.{start_apart}
use Rattle.pilot_top.proofs.ApartRuns.{apart_after, apart_of_any}
use Rattle.pilot_top.proofs.CostLemmas.{run_spends, start_spends}
use Rattle.pilot_top.proofs.CutLemmas.{ran_honest, started_honest}
use Rattle.pilot_top.proofs.ForceLemmas.{keeps_forced}
use Rattle.pilot_top.proofs.HiddenLemmas.{hidden_first}
use Rattle.pilot_top.proofs.LineParts.{parts_refused, parts_started, start_wrote}
use Rattle.pilot_top.proofs.OnePlaceLemmas.{cuts_have_files, syncs_there}
use Rattle.pilot_top.proofs.PermittedRuns.{ran_lawfully, started_lawfully}
use Rattle.pilot_top.proofs.ReasonLemmas.{reason_refused, reason_started, replied_reasoned}
use Rattle.pilot_top.proofs.RootLemmas.{raises_start, raises_then}
use Rattle.pilot_top.proofs.RefusedLemmas.{left_at_start}
use Rattle.pilot_top.proofs.RunLemmas.{damage_first, left_early, not_done, not_sound, replied_refused, run_refused, run_started}
use Rattle.pilot_top.proofs.SpareLemmas.{run_spared, start_spared}
use Rattle.pilot_top.proofs.StagedLemmas.{crash_states_before, crash_states_then, from_start}
use Rattle.pilot_top.proofs.StartedLemmas.{causes_since, completes, started_refuses, started_streams, unstarted_causes, unstarted_refuses, unstarted_streams}
use Rattle.pilot_top.proofs.StatusLemmas.{with_memory}
use Rattle.pilot_top.proofs.StayLemmas.{run_stays, spared_stays, start_stays}
use Rattle.pilot_top.proofs.StopParts.{Stops-refused}
use Rattle.pilot_top.proofs.run.run.Given as given
use Rattle.pilot_top.proofs.run.run.Goals as goal

-- ---- A session started.

-- it kept to what stood at the start, and saw the space tables
started : (g : given.Over) (c : goal.After-answer_lines g) (e : Evidence) → FromEachInitialState c.in-Ok.session (g.D.Disk.state c.answer_lines.result.1) e → FromInitialState (g.D.Disk.state c.args.disk) (g.D.Disk.state c.answer_lines.result.1) e
started g c e =
    let session = c.in-Ok.session in
    reason_started session (g.D.Disk.state c.args.disk) (g.D.Disk.state c.answer_lines.result.1) e (accepted session.core.filer) (sym c.in-Ok.ensures.session.takes.size ∙ c.in-Ok.ensures.writes.wrote.went.sectors) (g.met.D.Disk.whole c.args.disk)
    c.in-Ok.ensures.accounts (λ d revealed. (c.in-Ok.ensures.writes.root d revealed).0)

-- what its start left in each crash state
begun : (g : given.Over) (c : goal.After-answer_lines g) (d : List Sector) → (g.D.Disk.state c.args.disk).contents ≡ Some d → Sound d → CrashStates (start d) [] (g.D.Disk.state c.args.disk) (state c.in-Ok.session.core).disk
begun g c d revealed sound = from_start d sound revealed (c.in-Ok.ensures.writes.crash_states d revealed sound.labels)

some_states : (g : given.Over) (c : goal.After-answer_lines g) (d : List Sector) → (g.D.Disk.state c.args.disk).contents ≡ Some d → Sound d
    → (lines : List TraceLine) × CrashStates (start d) lines (g.D.Disk.state c.args.disk) (g.D.Disk.state c.answer_lines.result.1)
some_states g c d revealed sound =
    let some = c.answer_lines.ensures.leaves.some_crash_states (start d) ((c.in-Ok.ensures.machine d revealed sound).stands) in
    (some.0, crash_states_then (start d) [] some.0 (begun g c d revealed sound) some.1)

-- where its file map was in form, it showed no file
hides : (g : given.Over) (c : goal.After-answer_lines g) (d : List Sector) (earlier : List DiskWrite) → (g.D.Disk.state c.args.disk).contents ≡ Some d → (g.D.Disk.state c.args.disk).writes ≡ Some earlier
    → (named : Triples) → MapNames d named → (id : ℕ) → Hides c.in-Ok.session id
hides g c d earlier revealed made named map id =
    hidden_first c.in-Ok.session (g.D.Disk.state c.args.disk) c.in-Ok.ensures.accounts (λ d revealed. (c.in-Ok.ensures.writes.root d revealed).0) d named earlier
    (record { contents = revealed; writes = made; map = map }) id

-- where the writes are revealed, so were the syncs at the start
revealed_syncs : (g : given.Over) (c : goal.After-answer_lines g) (made : List DiskWrite) (syncs : List ℕ) → (g.D.Disk.state c.args.disk).writes ≡ Some made → (g.D.Disk.state c.answer_lines.result.1).syncs ≡ Some syncs
    → (before : List ℕ) × ((g.D.Disk.state c.args.disk).syncs ≡ Some before)
revealed_syncs g c made syncs is have = syncs_there (g.D.Disk.state c.args.disk).writes (g.D.Disk.state c.args.disk).syncs (g.met.D.Disk.sync_counts c.args.disk) made is

-- start and session changed files apart
changes_apart : (g : given.Over) (c : goal.After-answer_lines g) (d : List Sector) → (g.D.Disk.state c.args.disk).contents ≡ Some d → Sound d → ChangesApart true (g.D.Disk.state c.args.disk) (g.D.Disk.state c.answer_lines.result.1)
changes_apart g c d revealed sound =
    let began = begun g c d revealed sound in
    let writes = c.answer_lines.ensures.writes in
    apart_after true began.writes writes.permitted.writes began.appended writes.permitted.appended c.in-Ok.ensures.writes.wrote.went.syncs writes.same_disk.syncs (start_apart (start d) began) (writes.apart (start d) ((c.in-Ok.ensures.machine d revealed sound).stands))

-- the roots that were written
raised : (g : given.Over) (c : goal.After-answer_lines g) (d : List Sector) → (g.D.Disk.state c.args.disk).contents ≡ Some d
    → (last : Root) × RaisesRoot (root_in (root_page d)) last (g.D.Disk.state c.args.disk) (g.D.Disk.state c.answer_lines.result.1)
raised g c d revealed =
    let from = c.in-Ok.ensures in
    let on = c.answer_lines.ensures.writes.roots in
    let begun = from.writes.root d revealed in
    (on.0, raises_then begun.0 (raises_start (root_in (root_page d)) c.in-Ok.session.volume.root begun.0.0 from.writes.wrote begun.1) on.1)

-- each write is permitted
lawful : (g : given.Over) (c : goal.After-answer_lines g) → Lawfully (g.D.Disk.state c.args.disk) (g.D.Disk.state c.answer_lines.result.1)
lawful g c = ran_lawfully c.in-Ok.ensures.writes.wrote c.in-Ok.ensures.writes.left_open c.answer_lines.ensures.writes.permitted

pub returns-in-Ok : goal.returns-in-Ok
returns-in-Ok g c =
    let from = c.in-Ok.ensures in
    let e = c.answer_lines.ensures in
    let session = c.in-Ok.session in
    let s = c.answer_lines.result.0 in
    let opened = e.began.0 in
    let room = e.began.1 in
    let first = g.D.Disk.state c.args.disk in
    let mid = (state session.core).disk in
    let disk = g.D.Disk.state c.answer_lines.result.1 in
    let root = λ (d : List Sector) (revealed : first.contents ≡ Some d). (from.writes.root d revealed).0 in
    let causes = causes_since first from.writes.wrote.went.faults e.causes in
    record {
      ran = record {
        answers = λ d b t revealed sound source sink.
            run_started s d b t _ _ _ first mid disk opened room (begun g c d revealed sound) (start_wrote (reading b) from.writes.wrote) (e.answers.answering (start d) b t ((from.machine d revealed sound).stands) source sink);
        replied = λ b t source sink.
            replied_reasoned s b t _ _ _ disk (FromEachInitialState session disk) (FromInitialState first disk) (started g c) (e.answers.replied b t from.writes.left_open source sink (λ is. c.requires.plain c.answer_lines.result.1));
        closed = λ d b revealed sound source done going. e.leaves.closed (start d) b ((from.machine d revealed sound).stands) source done going;
        closed_unheard = λ d b revealed sound source failed held rest closes. e.leaves.closed_unheard (start d) b ((from.machine d revealed sound).stands) source failed held rest closes;
        crash_states = λ d b revealed sound source. crash_states_then (start d) [] (reading b) (begun g c d revealed sound) (e.leaves.crash_states (start d) b ((from.machine d revealed sound).stands) source);
        some_crash_states = some_states g c;
        cuts = λ d revealed sound.
            let states = some_states g c d revealed sound in
            ran_honest d revealed from.writes.wrote (from.writes.crash_states d revealed sound.labels) sound from.writes.left_open from.writes.synced e.writes.same_disk (e.writes.syncs (start d) ((from.machine d revealed sound).stands))
            e.writes.permitted states.0 states.1 (lawful g c);
        stops = λ b t source sink.
            Stops-less s b t _ _ _ (λ k. InParts (PartMay (reading b)) k mid disk) (λ k. InParts (PartMay (reading b)) k first disk) (λ k on. parts_started (reading b) k from.writes.wrote on) (e.writes.stops b t source sink);
        spares = λ d earlier b id revealed made source file untouched.
            run_spared id (reading b) d earlier session.volume.root (state session.core).slots from.writes.wrote from.writes.clean e.writes.same_disk (e.writes.spares b source)
            (λ named map. hides g c d earlier revealed made named map id) (root d revealed) file untouched revealed made;
        roots = raised g c;
        stays = λ d earlier b id revealed made source file untouched.
            spared_stays id (reading b) d
            (run_spared id (reading b) d earlier session.volume.root (state session.core).slots from.writes.wrote from.writes.clean e.writes.same_disk (e.writes.spares b source)
            (λ named map. hides g c d earlier revealed made named map id) (root d revealed) file untouched revealed made);
        stays_since = λ d earlier b revealed made source.
            run_stays (reading b) d earlier session.volume.root (state session.core).slots from.writes.wrote from.writes.clean (e.writes.spares b source) (hides g c d earlier revealed made) (root d revealed)
            revealed made;
        forced = λ d b revealed sound source.
            keeps_forced (start d) (reading b) d (crash_states_then (start d) [] (reading b) (begun g c d revealed sound) (e.leaves.crash_states (start d) b ((from.machine d revealed sound).stands) source)) revealed;
        cut_files = λ d b revealed sound source.
            cuts_have_files (start d) (reading b) d (crash_states_then (start d) [] (reading b) (begun g c d revealed sound) (e.leaves.crash_states (start d) b ((from.machine d revealed sound).stands) source)) revealed
            (revealed_syncs g c) (changes_apart g c d revealed sound) refl (lawful g c) (raised g c d revealed);
        some_cut_files = λ d revealed sound.
            let states = some_states g c d revealed sound in
            (states.0, cuts_have_files (start d) states.0 d states.1 revealed (revealed_syncs g c) (changes_apart g c d revealed sound) refl (lawful g c) (raised g c d revealed));
        stays_open = λ b source early. e.leaves.stays_open b from.writes.left_open source early;
        untaken = λ b source is some. e.leaves.untaken b from.writes.left_open source is some;
        left_open = λ is. e.leaves.left_open from.writes.left_open is;
        transfers = λ d b revealed sound source. run_spends (reading b) first mid disk from.writes.wrote.went.sectors from.spends.bounded (e.writes.transfers (start d) b ((from.machine d revealed sound).stands) source);
        permitted = lawful g c;
        damage = λ t sink is. let all = e.answers.damage t from.writes.left_open sink is (c.requires.plain c.answer_lines.result.1) in (all.0, started g c all.0.evidence all.1);
        sound = λ d revealed sound. (opened, e.answers.sound (start d) ((from.machine d revealed sound).stands));
        not_opened = λ d revealed is. absurd (opened is);
        refused = λ d why revealed refused. absurd (from.refuses.refused d why revealed refused);
        refused_unwritten = λ d why revealed refused. absurd (from.refuses.refused d why revealed refused);
        complete = λ d b revealed sound source short disk_held source_held sink_held. completes causes (opened, e.answers.sound (start d) ((from.machine d revealed sound).stands)) b source short disk_held source_held sink_held;
        short = e.answers.short;
      };
      causes = causes;
      refuses = started_refuses s opened room first disk _ from.refuses.refused from.refuses.count;
      leaves = started_streams s opened room first.contents _ _ from.refuses.refused;
      same_disk = went_then from.writes.wrote.went e.writes.same_disk;
    }

-- ---- No session started.

pub returns-in-Err : goal.returns-in-Err
returns-in-Err g c =
    let from = c.in-Err.ensures in
    let f = c.in-Err.fault in
    let s = c.refuse.result in
    let old = c.args.sink.now in
    let new = c.refuse.new.sink in
    let took = g.K.Sink.took in
    let faults = g.K.Sink.faults in
    let stops = c.refuse.ensures.stops in
    let first = g.D.Disk.state c.args.disk in
    let disk = g.D.Disk.state c.in-Err.disk in
    let left = g.S.Source.left c.args.source.now in
    let source_faults = g.S.Source.faults c.args.source.now in
    let reason = reason_refused first c.in-Err.disk f from.accounts in
    let unbegun : (d : List Sector) → first.contents ≡ Some d → Sound d → CrashStates (start d) [] first disk = λ d revealed sound. from_start d sound revealed (from.writes.crash_states d revealed sound.labels) in
    let known : (made : List DiskWrite) (syncs : List ℕ) → first.writes ≡ Some made → disk.syncs ≡ Some syncs → (before : List ℕ) × (first.syncs ≡ Some before) = λ made syncs is have.
    syncs_there first.writes first.syncs (g.met.D.Disk.sync_counts c.args.disk) made is in
    let raised_first : (d : List Sector) → first.contents ≡ Some d → (last : Root) × RaisesRoot (root_in (root_page d)) last first disk = λ d revealed.
    let root = root_in (root_page d) in (root, raises_start root root (omega arith) from.writes.wrote (from.writes.root d revealed)) in
    let never = not_done f s old new took _ stops in
    let refuses = unstarted_refuses f s old new took _ stops first disk from.refuses.judged from.refuses.refused from.refuses.count from.fails.unwritten in
    let causes = unstarted_causes f s old new took _ stops first disk (IsShort (2 ^ 32)) (world first left source_faults (took old) (faults old)) (world disk left source_faults (took new) (faults new)) from.fails.counted in
    record {
      ran = record {
        answers = λ d b t revealed sound source sink. run_refused f s old new took _ stops d b t left first disk (unbegun d revealed sound) ((from.machine d revealed sound).sound) source sink;
        replied = λ b t source sink. replied_refused f s old new took _ stops b t left disk (FromInitialState first disk) from.fails.evidence_seen reason from.writes.left_open source sink;
        closed = λ d b revealed sound source done going. absurd (never.0 done);
        closed_unheard = λ d b revealed sound source failed held rest closes. absurd (never.1 failed);
        crash_states = λ d b revealed sound source. crash_states_before (start d) [] (reading b) (unbegun d revealed sound);
        some_crash_states = λ d revealed sound. ([], unbegun d revealed sound);
        cuts = λ d revealed sound. started_honest d revealed from.writes.wrote (from.writes.crash_states d revealed sound.labels) [] (unbegun d revealed sound) (started_lawfully from.writes.wrote);
        stops = λ b t source sink.
            Stops-refused f s old new took _ stops b t left (λ k. InParts (PartMay (reading b)) k first disk) sink (λ k. parts_refused (reading b) k from.writes.wrote);
        spares = λ d earlier b id revealed made source file untouched. start_spared id (reading b) d earlier from.writes.wrote file revealed made;
        roots = raised_first;
        stays = λ d earlier b id revealed made source file untouched. spared_stays id (reading b) d (start_spared id (reading b) d earlier from.writes.wrote file revealed made);
        stays_since = λ d earlier b revealed made source. start_stays (reading b) d earlier from.writes.wrote revealed made;
        forced = λ d b revealed sound source. keeps_forced (start d) (reading b) d (crash_states_before (start d) [] (reading b) (unbegun d revealed sound)) revealed;
        cut_files = λ d b revealed sound source.
            cuts_have_files (start d) (reading b) d (crash_states_before (start d) [] (reading b) (unbegun d revealed sound)) revealed known (apart_of_any true (start_apart (start d) (unbegun d revealed sound)))
            refl (started_lawfully from.writes.wrote) (raised_first d revealed);
        some_cut_files = λ d revealed sound. (
          [],
          cuts_have_files (start d) [] d (unbegun d revealed sound) revealed known (apart_of_any true (start_apart (start d) (unbegun d revealed sound)))
              refl (started_lawfully from.writes.wrote) (raised_first d revealed),
        );
        stays_open = λ b source early. left_early f s old new took _ stops disk from.writes.left_open (reading b) early;
        untaken = λ b source is some. absurd (never.1 is);
        left_open = λ is. left_at_start f s old new took _ stops disk from.writes.left_open is;
        transfers = λ d b revealed sound source. start_spends (reading b) first disk from.spends.bounded;
        permitted = started_lawfully from.writes.wrote;
        damage = λ t sink is. damage_first f s old new took _ stops disk (FromInitialState first disk) from.fails.evidence_seen reason from.writes.left_open t sink is;
        sound = λ d revealed sound. not_sound f s old new took _ stops ((from.machine d revealed sound).sound);
        not_opened = refuses.not_opened;
        refused = λ d why revealed refused. with_memory s (refuses.refused d why revealed refused);
        refused_unwritten = refuses.refused_unwritten;
        complete = λ d b revealed sound source short disk_held source_held sink_held. completes causes (not_sound f s old new took _ stops ((from.machine d revealed sound).sound)) b source short disk_held source_held sink_held;
        short = λ b source done. absurd (never.0 done);
      };
      causes = causes;
      refuses = refuses;
      leaves = unstarted_streams f s old new took _ stops first disk _ refl;
      same_disk = from.writes.wrote.went;
    }
