use Rattle.std.proofs.Common.{◌≡◌, inl, inr, refl, List, Some, None}
use Rattle.labelled_disk.specs.Sectors.{Sector}
use Rattle.flat_machine.specs.Start.{start}
use Rattle.swapper_kernel.specs.GoesLaws.{went_then}
use Rattle.trace_io.specs.Reading.{reading}
use Rattle.pilot_top.specs.InitialState.{FromEachInitialState}
use Rattle.pilot_top.proofs.CostLemmas.{rest_spends, rest_spends_none}
use Rattle.pilot_top.proofs.QueuedLemmas.{answers_refused, change_alone, change_first, never_damaged, never_ends, never_read, never_took, settled_of, stops_plain}
use Rattle.pilot_top.proofs.ReasonLemmas.{replied_reasoned}
use Rattle.pilot_top.proofs.RunLemmas.{damage_first, replied_refused}
use Rattle.pilot_top.proofs.ShownLemmas.{none_shown}
use Rattle.pilot_top.proofs.StartedLemmas.{causes_since}
use Rattle.pilot_top.proofs.queued.run_rooted.Goals as goal
use Rattle.fault_core.specs.Core.{state}

pub returns-in-Ok : goal.returns-in-Ok
returns-in-Ok g c =
    let e = c.answer_lines.ensures in
    let from = c.in-Ok.ensures in
    let disk = g.D.Disk.state c.answer_lines.result.1 in
    record {
      ran = record {
        answers = λ d b t revealed sound source sink. settled_of c.answer_lines.result.0 d b t _ _ _ _ disk (e.answers.answering (start d) b t ((from.machine d revealed sound).stands) source sink);
        closed = λ d b revealed sound source done going. e.leaves.closed (start d) b ((from.machine d revealed sound).stands) source done going;
        closed_unheard = λ d b revealed sound source failed held rest closes. e.leaves.closed_unheard (start d) b ((from.machine d revealed sound).stands) source failed held rest closes;
        transfers = λ d b revealed sound source.
            rest_spends (reading b) (g.D.Disk.state c.args.disk) (state c.in-Ok.session.core).disk disk from.leaves.went.sectors from.leaves.bounded (e.writes.transfers (start d) b ((from.machine d revealed sound).stands) source);
        sound = λ d revealed sound. e.answers.sound (start d) ((from.machine d revealed sound).stands);
        replied = λ b t source sink plain.
            replied_reasoned c.answer_lines.result.0 b t _ _ _ disk (FromEachInitialState c.in-Ok.session disk) (λ x. Unit {0}) (λ x reason. tt) (e.answers.replied b t from.leaves.left_open source sink plain);
        damage = λ t sink is plain. (e.answers.damage t from.leaves.left_open sink is plain).0;
        short = e.answers.short;
        plain = e.plain;
        opened = e.began.0;
      };
      changes = e.changes;
      rests = e.rests;
      causes = causes_since (g.D.Disk.state c.args.disk) from.leaves.went.faults e.causes;
      memory = λ is. absurd (e.began.1 is);
      went = went_then from.leaves.went e.writes.same_disk;
    }

-- no session started
pub returns-in-Err : goal.returns-in-Err
returns-in-Err g c =
    let from = c.in-Err.ensures in
    let disk = g.D.Disk.state c.in-Err.disk in
    let shown = g.D.RunDisk.shown c.in-Err.disk in
    let f = c.in-Err.fault in
    let s = c.refuse_on-status.result in
    let took = g.K.Sink.took in
    let stops = c.refuse_on-status.ensures.stops in
    let ends = never_ends shown f s _ _ took _ from.fails.no_root stops in
    let plain : (d : List Sector) → (g.D.Disk.state c.args.disk).contents ≡ Some d → shown ≡ None = λ d revealed. let there = from.fails.revealed d revealed in none_shown shown disk (g.met.D.RunDisk.unrevealed c.in-Err.disk) there.0 there.1 in
    record {
      ran = record {
        answers = λ d b t revealed sound source sink. answers_refused shown f s _ _ took _ from.fails.no_root stops d b t _ disk (plain d revealed) ((from.machine d revealed sound).sound) source sink;
        closed = λ d b revealed sound source done going. absurd (ends.0 done);
        closed_unheard = λ d b revealed sound source failed held rest closes. absurd (ends.1 failed);
        transfers = λ d b revealed sound source. rest_spends_none (reading b) (g.D.Disk.state c.args.disk) disk from.leaves.bounded;
        sound = λ d revealed sound. never_damaged shown f s _ _ took _ from.fails.no_root stops (plain d revealed) ((from.machine d revealed sound).sound);
        replied = λ b t source sink none.
            replied_refused f s _ _ took _ (stops_plain shown f s _ _ took _ from.fails.no_root stops none) b t _ disk (λ x. Unit {0}) from.fails.evidence_seen (λ x is. tt) from.leaves.left_open source sink;
        damage = λ t sink is none.
            (damage_first f s _ _ took _ (stops_plain shown f s _ _ took _ from.fails.no_root stops (λ damaged. none)) disk (λ x. Unit {0}) from.fails.evidence_seen (λ x why. tt) from.leaves.left_open t sink is).0;
        short = λ b source done. absurd (ends.0 done);
        plain = λ is. (never_read shown f s _ _ took _ from.fails.no_root stops is).0;
        opened = ends.3;
      };
      changes = record {
        changed = λ b t e source sink is shows. change_first shown f s _ _ took _ from.fails.no_root stops t e sink is shows b;
        line = λ t e sink is shows. change_alone shown f s _ _ took _ from.fails.no_root stops t e sink is shows;
      };
      rests = λ is. elim is [ inl done ↦ absurd (ends.0 done) | inr long ↦ absurd (ends.2 long) ];
      causes = record {
        disk = λ is. from.fails.counted (never_read shown f s _ _ took _ from.fails.no_root stops is).1;
        stream = λ is. absurd (ends.1 is);
        long = λ b source is. absurd (ends.2 is);
        no_other = (ends.4, ends.5);
      };
      memory = λ is. let none = never_took shown f s _ _ took _ from.fails.no_root stops is in (from.fails.memory none.0, refl, none.1);
      went = from.leaves.went;
    }
