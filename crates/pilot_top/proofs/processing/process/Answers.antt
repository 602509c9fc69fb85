use Rattle.std.proofs.Common.{refl, sym, ◌∙◌}
use Rattle.labelled_disk.specs.declared.evidence.Evidence.{Evidence}
use Rattle.flat_machine.specs.Start.{start}
use Rattle.swapper_kernel.specs.GoesLaws.{went_then}
use Rattle.filer_kernel.specs.Evidence.{IsEvident}
use Rattle.filer_kernel.specs.View.{accepted}
use Rattle.fault_core.specs.Core.{state}
use Rattle.pilot_top.specs.Headline.{IsLeftOpen}
use Rattle.pilot_top.specs.InitialState.{FromEachInitialState}
use Rattle.pilot_top.specs.Processing.{IsShortText, ShowsDamage}
use Rattle.pilot_top.specs.World.{world}
use Rattle.pilot_top.proofs.PermittedRuns.{ran_lawfully, started_lawfully}
use Rattle.pilot_top.proofs.ProcessingLemmas.{costs_refused, costs_started, damage_at_start, damage_refused, processes_of, processes_refused, replies_refused, replies_started}
use Rattle.pilot_top.proofs.ReasonLemmas.{reason_refused, reason_started}
use Rattle.pilot_top.proofs.RefusedLemmas.{left_at_start}
use Rattle.pilot_top.proofs.RunLemmas.{not_done, not_sound}
use Rattle.pilot_top.proofs.StartedLemmas.{causes_since, completes, started_refuses, started_streams, unstarted_causes, unstarted_refuses, unstarted_streams}
use Rattle.pilot_top.proofs.StatusLemmas.{with_memory}
use Rattle.pilot_top.proofs.processing.process.Given as given
use Rattle.pilot_top.proofs.processing.process.Goals as goal

-- the session kept to what stood at the start, and saw the space tables
started : (g : given.Over) (c : goal.After-answer_clients g) (e : Evidence) → IsEvident (g.D.Disk.state c.answer_clients.result.1) e × FromEachInitialState c.in-Ok.session (g.D.Disk.state c.answer_clients.result.1) e
    → ShowsDamage (g.D.Disk.state c.args.disk) (g.D.Disk.state c.answer_clients.result.1) e
started g c e shown =
    let session = c.in-Ok.session in (
      shown.0,
      reason_started session (g.D.Disk.state c.args.disk) (g.D.Disk.state c.answer_clients.result.1) e (accepted session.core.filer) (sym c.in-Ok.ensures.session.takes.size ∙ c.in-Ok.ensures.writes.wrote.went.sectors) (g.met.D.Disk.whole c.args.disk)
          c.in-Ok.ensures.accounts (λ d revealed. (c.in-Ok.ensures.writes.root d revealed).0) shown.1,
    )

-- a session started
pub returns-in-Ok : goal.returns-in-Ok
returns-in-Ok g c =
    let from = c.in-Ok.ensures in
    let e = c.answer_clients.ensures in
    let s = c.answer_clients.result.0 in
    let opened = e.began.0 in
    let room = e.began.1 in
    let first = g.D.Disk.state c.args.disk in
    let disk = g.D.Disk.state c.answer_clients.result.1 in
    let causes = causes_since first from.writes.wrote.went.faults e.causes in
    record {
      processed = record {
        answers = λ d b t revealed sound source sink. processes_of s (start d) b _ t _ _ disk opened room (e.answers (start d) b t ((from.machine d revealed sound).stands) from.writes.left_open source sink);
        replied = λ b t source sink.
            replies_started (λ x. IsEvident disk x × FromEachInitialState c.in-Ok.session disk x) (ShowsDamage first disk) (started g c) (IsLeftOpen disk) (IsLeftOpen disk) (λ still. still) s b _ t _ _ opened room
            (e.replied b t from.writes.left_open source sink);
        transfers = λ d b t revealed sound source sink.
            costs_started b first (state c.in-Ok.session.core).disk disk from.writes.wrote.went.sectors from.spends.bounded (e.transfers (start d) b t ((from.machine d revealed sound).stands) source sink);
        permitted = ran_lawfully from.writes.wrote from.writes.left_open e.permitted;
        left_open = λ is. e.left_open from.writes.left_open is;
        damage = λ is. let all = e.damage is in (all.0, started g c all.0 (all.1, all.2));
        sound = λ d revealed sound. (opened, e.sound (start d) ((from.machine d revealed sound).stands));
        not_opened = λ d revealed is. absurd (opened is);
        refused = λ d why revealed refused. absurd (from.refuses.refused d why revealed refused);
        refused_unwritten = λ d why revealed refused. absurd (from.refuses.refused d why revealed refused);
        complete = λ d b revealed sound source short disk_held source_held sink_held. completes causes (opened, e.sound (start d) ((from.machine d revealed sound).stands)) b source short disk_held source_held sink_held;
        short = e.short;
      };
      causes = causes;
      refuses = started_refuses s opened room first disk _ from.refuses.refused from.refuses.count;
      leaves = started_streams s opened room first.contents _ _ from.refuses.refused;
      same_disk = went_then from.writes.wrote.went e.same_disk;
    }

-- no session started
pub returns-in-Err : goal.returns-in-Err
returns-in-Err g c =
    let from = c.in-Err.ensures in
    let f = c.in-Err.fault in
    let s = c.refuse.result in
    let old = c.args.sink.now in
    let new = c.refuse.new.sink in
    let took = g.K.Sink.took in
    let faults = g.K.Sink.faults in
    let stops = c.refuse.ensures.stops in
    let first = g.D.Disk.state c.args.disk in
    let disk = g.D.Disk.state c.in-Err.disk in
    let left = g.S.Source.left c.args.source.now in
    let source_faults = g.S.Source.faults c.args.source.now in
    let shows = damage_at_start first disk f from.fails.evidence_seen (reason_refused first c.in-Err.disk f from.accounts) in
    let refuses = unstarted_refuses f s old new took _ stops first disk from.refuses.judged from.refuses.refused from.refuses.count from.fails.unwritten in
    let causes = unstarted_causes f s old new took _ stops first disk IsShortText (world first left source_faults (took old) (faults old)) (world disk left source_faults (took new) (faults new)) from.fails.counted in
    record {
      processed = record {
        answers = λ d b t revealed sound source sink. processes_refused f s old new took _ stops (start d) b t left disk ((from.machine d revealed sound).sound) source sink;
        replied = λ b t source sink. replies_refused f s old new took _ stops (ShowsDamage first disk) shows (IsLeftOpen disk) b t left source sink;
        transfers = λ d b t revealed sound source sink. costs_refused b first disk from.spends.bounded;
        permitted = started_lawfully from.writes.wrote;
        left_open = λ is. left_at_start f s old new took _ stops disk from.writes.left_open is;
        damage = λ is. damage_refused f s old new took _ stops (ShowsDamage first disk) shows is;
        sound = λ d revealed sound. not_sound f s old new took _ stops ((from.machine d revealed sound).sound);
        not_opened = refuses.not_opened;
        refused = λ d why revealed refused. with_memory s (refuses.refused d why revealed refused);
        refused_unwritten = refuses.refused_unwritten;
        complete = λ d b revealed sound source short disk_held source_held sink_held. completes causes (not_sound f s old new took _ stops ((from.machine d revealed sound).sound)) b source short disk_held source_held sink_held;
        short = λ b source done. absurd ((not_done f s old new took _ stops).0 done);
      };
      causes = causes;
      refuses = refuses;
      leaves = unstarted_streams f s old new took _ stops first disk _ refl;
      same_disk = from.writes.wrote.went;
    }
