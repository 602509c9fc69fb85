use Rattle.std.proofs.Common.{◌≡◌, ◌^◌, inl, inr, ℕ, Err, refl, sym, ap, ◌∙◌, subst, List, Some, None}
use Rattle.labelled_disk.specs.declared.layout.RootFault.{RootFault}
use Rattle.labelled_disk.specs.declared.layout.RootFault.TheVariants as fault
use Rattle.labelled_disk.specs.declared.evidence.Evidence.{Evidence}
use Rattle.labelled_disk.specs.Calls.{Rose}
use Rattle.labelled_disk.specs.Sectors.{Sector}
use Rattle.labelled_disk.proofs.CallLemmas.{rose_earlier}
use Rattle.trace_io.specs.Reading.{IsShort, reading}
use Rattle.volume_root.specs.Flag.{IsRefused}
use Rattle.volume_root.specs.RootPage.{IsValidRoot}
use Rattle.write_queue.specs.declared.run_queue.RunQueue.{RunQueue}
use Rattle.write_queue.specs.RunQueue.{changed_by, held_by, run_state}
use Rattle.pilot_engine.specs.declared.fault.StartFault.TheVariants as start_fault
use Rattle.pilot_engine.proofs.StartFaults.{refused_so, right_so, root_there}
use Rattle.pilot_top.specs.Headline.{at_end, run_bound}
use Rattle.pilot_top.specs.Last.{Puts}
use Rattle.pilot_top.specs.RunDisk.{IsChange, change_shown, shown_of}
use Rattle.pilot_top.specs.Started.{HasCauses}
use Rattle.pilot_top.specs.Stopping.{StopsAs}
use Rattle.pilot_top.specs.World.{world}
use Rattle.pilot_top.specs.declared.status.Status.TheVariants as status
use Rattle.pilot_top.proofs.CostLemmas.{few_calls, queued_spends}
use Rattle.pilot_top.proofs.QueuedLemmas.{answers_beneath, shut_beneath, unchanged_of}
use Rattle.pilot_top.proofs.QueuedRuns.{all_replied, all_seen, queued_nothing, queued_unread, root_ends, root_fault, root_opened}
use Rattle.pilot_top.proofs.RunLemmas.{not_done, refused_ends, refused_line}
use Rattle.pilot_top.proofs.StartedLemmas.{completes, unmade_causes, unmade_refuses, unmade_streams}
use Rattle.pilot_top.proofs.queued.run_queued.Goals as goal

-- no root was read
pub returns-in-Err : goal.returns-in-Err
returns-in-Err g c =
    let r = c.read_root.ensures in
    let why = c.in-Err.why in
    let s = c.refuse.result in
    let stops = c.refuse.ensures.stops in
    let before = g.D.Disk.state c.args.disk in
    let after = g.D.Disk.state c.read_root.new.disk in
    let whole = g.met.D.Disk.whole c.args.disk in
    let ends = root_ends why s _ _ _ stops in
    let ran = queued_unread why s c.args.sink.now c.refuse.new.sink g.K.Sink.took g.K.Sink.faults before (g.S.Source.left c.args.source.now) (g.S.Source.faults c.args.source.now) after stops (g.met.D.Disk.in_form c.args.disk)
    (λ d revealed. right_so d before.sectors (whole d revealed) c.read_root.result r.count (λ count. r.judged count d revealed) why c.in-Err.is)
    (λ d w revealed refused. refused_so d before.sectors (whole d revealed) c.read_root.result r.count (λ count. r.judged count d revealed) why c.in-Err.is w refused)
    r.only_reads r.at_most.moved (λ disk. r.cause (c.in-Err.is ∙ ap (λ (w : RootFault). Err w) disk)) in
    record {
      ran = ran;
      causes = record {
        disk = λ is. r.cause (c.in-Err.is ∙ ap (λ (w : RootFault). Err w) (root_fault why s _ _ _ stops is));
        stream = λ is. absurd ((not_done (start_fault.Root why) s _ _ g.K.Sink.took _ stops).1 is);
        long = λ b source is. absurd (ends.0 is);
        no_other = (ends.2, ends.3);
      };
      refuses = record {
        not_opened = ran.not_opened;
        refused = λ d w revealed refused. refused_ends (start_fault.Root why) s _ _ g.K.Sink.took _ stops w
            (refused_so d before.sectors (whole d revealed) c.read_root.result r.count (λ count. r.judged count d revealed) why c.in-Err.is w refused);
        refused_unwritten = λ d w revealed refused. r.only_reads;
        line = λ is. refused_line (start_fault.Root why) s _ _ g.K.Sink.took _ stops is;
        count = λ none.
            let both = sym c.in-Err.is ∙ r.count none in
            let same : why ≡ fault.BadCount before.sectors = cc both in
            subst (λ (w : RootFault). StopsAs (start_fault.Root w) s c.args.sink.now c.refuse.new.sink (Puts (Rose (g.K.Sink.faults c.args.sink.now) (g.K.Sink.faults c.refuse.new.sink)) (g.K.Sink.took c.args.sink.now) (g.K.Sink.took c.refuse.new.sink))) same stops;
        unwritten = λ is. r.only_reads;
        memory = λ is. r.only_reads;
      };
      leaves = record { source = λ is. refl; refused = λ d w revealed refused. refl; sink = λ is. absurd (ends.4 is) };
      lent = r.only_reads.lent;
    }

-- there was no memory

pub returns-in_default : goal.returns-in_default
returns-in_default g c =
    let r = c.read_root.ensures in
    let opened : (d : List Sector) (why : RootFault) → (g.D.Disk.state c.args.disk).contents ≡ Some d → IsRefused d why → ⊥ = λ d why revealed refused.
    root_opened d (g.D.Disk.state c.args.disk).sectors (g.met.D.Disk.whole c.args.disk d revealed) c.read_root.result c.in-Ok.root c.in-Ok.is c.in-Ok.ensures.valid.accepted (λ count. r.judged count d revealed) why refused in
    record {
      ran = queued_nothing _ _ r.only_reads r.at_most.moved refl refl;
      causes = unmade_causes;
      refuses = unmade_refuses (g.D.Disk.state c.args.disk) _ _ r.only_reads opened (λ none. none c.in-Ok.ensures.valid.accepted);
      leaves = unmade_streams refl refl;
      lent = r.only_reads.lent;
    }

pub returns-in-Err-over : goal.returns-in-Err-over
returns-in-Err-over g c =
    let r = c.read_root.ensures in
    let same = c.in-Err-over.ensures.back in
    let opened : (d : List Sector) (why : RootFault) → (g.D.Disk.state c.args.disk).contents ≡ Some d → IsRefused d why → ⊥ = λ d why revealed refused.
    root_opened d (g.D.Disk.state c.args.disk).sectors (g.met.D.Disk.whole c.args.disk d revealed) c.read_root.result c.in-Ok.root c.in-Ok.is c.in-Ok.ensures.valid.accepted (λ count. r.judged count d revealed) why refused in
    record {
      ran = rw same (queued_nothing _ _ r.only_reads r.at_most.moved refl refl);
      causes = unmade_causes;
      refuses = unmade_refuses (g.D.Disk.state c.args.disk) _ _ (rw same r.only_reads) opened (λ none. none c.in-Ok.ensures.valid.accepted);
      leaves = unmade_streams refl refl;
      lent = rw same r.only_reads.lent;
    }

-- a session began over the queue
pub run_rooted-status-requires-clause-valid : goal.run_rooted-status-requires-clause-valid
run_rooted-status-requires-clause-valid g c =
    subst (λ (n : ℕ). IsValidRoot n c.in-Ok.root) (sym (c.in-Ok-over.ensures.starts.sectors ∙ c.read_root.ensures.only_reads.sectors)) c.in-Ok.ensures.valid

pub run_rooted-status-requires-clause-read : goal.run_rooted-status-requires-clause-read
run_rooted-status-requires-clause-read g c = λ d revealed.
    let r = c.read_root.ensures in
    let before = g.D.Disk.state c.args.disk in
    let there : before.contents ≡ Some d = sym (c.in-Ok-over.ensures.starts.contents ∙ r.only_reads.contents) ∙ revealed in
    root_there d before.sectors (g.met.D.Disk.whole c.args.disk d there) c.read_root.result r.count (λ count. r.judged count d there) c.in-Ok.root c.in-Ok.is c.in-Ok.ensures.valid.accepted

pub returns : goal.returns
returns g c =
    let r = c.read_root.ensures in
    let e = c.run_rooted-status.ensures in
    let s = c.run_rooted-status.result.0 in
    let before = g.D.Disk.state c.args.disk in
    let read = g.D.Disk.state c.read_root.new.disk in
    let began = run_state c.in-Ok-over.queue in
    let queue = run_state c.run_rooted-status.result.1 in
    let under = g.D.Disk.state c.into_disk.result in
    let changed = changed_by c.run_rooted-status.result.1 in
    let lies = c.into_disk.ensures.beneath in
    let starts = c.in-Ok-over.ensures.starts in
    let held : (d : List Sector) → before.contents ≡ Some d → began.contents ≡ Some d = λ d revealed. starts.contents ∙ r.only_reads.contents ∙ revealed in
    let of = lies.from read.transfers read.faults read.lent (e.went.lent ∙ starts.lent) in
    let law : (f : Evidence) → shown_of changed ≡ Some f → IsChange f × (queue.contents ≡ None) = λ f shows. change_shown c.run_rooted-status.result.1 f shows in
    let opened : (d : List Sector) (why : RootFault) → (g.D.Disk.state c.args.disk).contents ≡ Some d → IsRefused d why → ⊥ = λ d why revealed refused.
    root_opened d (g.D.Disk.state c.args.disk).sectors (g.met.D.Disk.whole c.args.disk d revealed) c.read_root.result c.in-Ok.root c.in-Ok.is c.in-Ok.ensures.valid.accepted (λ count. r.judged count d revealed) why refused in
    let disk_fault : s ≡ status.DiskFault → Rose before.faults under.faults = λ is.
    let rose : Rose read.faults queue.faults = subst (λ (n : ℕ). Rose n queue.faults) starts.faults (e.causes.disk is) in
    rose_earlier before.faults read.faults under.faults r.only_reads.faults (of.fault (unchanged_of changed (e.ran.plain is)) rose) in
    let causes : HasCauses (IsShort (2 ^ 32)) s (world before (g.S.Source.left c.args.source.now) (g.S.Source.faults c.args.source.now) (g.K.Sink.took c.args.sink.now) (g.K.Sink.faults c.args.sink.now)) (world under (g.S.Source.left c.run_rooted-status.new.source) (g.S.Source.faults c.run_rooted-status.new.source) (g.K.Sink.took c.run_rooted-status.new.sink) (g.K.Sink.faults c.run_rooted-status.new.sink)) = record { disk = disk_fault; stream = e.causes.stream; long = e.causes.long; no_other = e.causes.no_other } in
    record {
      ran = record {
        answers = λ d b t revealed sound source sink. answers_beneath queue under s d b t _ _ _ (λ is. (lies.synced (e.rests is)).0) (e.ran.answers d b t (held d revealed) sound source sink);
        replied = λ b t source sink.
            all_replied (shown_of changed) queue under s law lies.unrevealed lies.sectors lies.labels t _ _ b _ (λ plain. e.ran.replied b t source sink plain) (λ f is shows. e.changes.changed b t f source sink is shows);
        closed = λ d b revealed sound source done going. shut_beneath queue under (at_end d (reading b)) (e.ran.closed d b (held d revealed) sound source done going) (lies.synced (e.rests (inl done)));
        closed_unheard = λ d b revealed sound source failed heard rest closes.
            let shut = e.ran.closed_unheard d b (held d revealed) sound source failed heard rest closes in
            shut_beneath queue under (at_end d (reading b)) shut (lies.synced shut.synced);
        halted = λ is. (lies.synced (e.rests is)).1;
        transfers = λ d b revealed sound source.
            queued_spends (run_bound before.sectors (reading b)) before.transfers read.transfers queue.transfers under.transfers r.at_most.moved of.moved
            (few_calls (reading b) before.sectors began queue (starts.sectors ∙ r.only_reads.sectors) starts.transfers (e.ran.transfers d b (held d revealed) sound source));
        damage = λ t sink is.
            all_seen (shown_of changed) queue under s law lies.unrevealed lies.sectors lies.labels t _ _ is (λ none. e.ran.damage t sink is none) (λ f shows. e.changes.line t f sink is shows);
        sound = λ d revealed sound. (e.ran.opened, e.ran.sound d (held d revealed) sound);
        not_opened = λ d revealed is. absurd (e.ran.opened is);
        refused = λ d why revealed refused. absurd (opened d why revealed refused);
        refused_unwritten = λ d why revealed refused. absurd (opened d why revealed refused);
        complete = λ d b revealed sound source short disk_held source_held sink_held. completes causes (e.ran.opened, e.ran.sound d (held d revealed) sound) b source short disk_held source_held sink_held;
        short = e.ran.short;
      };
      causes = causes;
      refuses = record {
        not_opened = λ d revealed is. absurd (e.ran.opened is);
        refused = λ d why revealed refused. absurd (opened d why revealed refused);
        refused_unwritten = λ d why revealed refused. absurd (opened d why revealed refused);
        line = λ is. absurd (e.ran.opened is);
        count = λ none. absurd (none c.in-Ok.ensures.valid.accepted);
        unwritten = λ is. absurd (e.ran.opened is);
        memory = λ is.
            let same = c.into_disk.ensures.disk ∙ ap (λ (q : RunQueue g.row.D.Denot g.row.A.Denot g.D.Disk). held_by q) (e.memory is).0 ∙ c.in-Ok-over.ensures.over in
            rw same r.only_reads;
      };
      leaves = record {
        source = λ is. elim is [ inl refused ↦ absurd (e.ran.opened refused) | inr memory ↦ (e.memory memory).1 ];
        refused = λ d why revealed refused. absurd (opened d why revealed refused);
        sink = λ is. (e.memory is).2;
      };
      lent = of.lent ∙ r.only_reads.lent;
    }
