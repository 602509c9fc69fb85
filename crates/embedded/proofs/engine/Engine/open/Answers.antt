use Rattle.std.proofs.Common.{ap, refl, rules, Ok, Err}
use Rattle.flat_machine.specs.Start.{start}
use Rattle.pilot_engine.specs.declared.fault.StartFault.{StartFault}
use Rattle.fault_core.specs.Core.{state}
use Rattle.embedded.specs.declared.code.Code.{Code}
use Rattle.embedded.specs.Opened.{IsFrames}
use Rattle.embedded.proofs.OpenLemmas.{either_outcome, frames_of, not_opened, open_of, opened, same_disk, stands_of}
use Rattle.embedded.proofs.engine.Engine.open.Goals as goal

pub returns-in-Err : goal.returns-in-Err
returns-in-Err g c =
    let are : IsFrames c.args.frames = search rules in
    not_opened c.args.frames c.args.self.now c.take_disk.new.self c.in-Err.code are c.in-Err.ensures.why c.in-Err.ensures.same

pub returns-in-Ok-over : goal.returns-in-Ok-over
returns-in-Ok-over g c =
    let s = c.in-Ok-over.ensures in
    let left = (state c.in-Ok-over.session.core).disk in
    let are : IsFrames c.args.frames = search rules in
    opened c.args.frames c.args.self.now _ (Ok tt) c.in-Ok.disk are c.in-Ok.ensures.disk
    (record {
      outcome = Ok tt;
      answered = refl;
      left = left;
      disk_is = same_disk c.of.result c.in-Ok-over.session c.of.ensures;
      runs = record {
        running = open_of c.of.result c.in-Ok-over.session c.of.ensures s.session.takes.running;
        all_frames = frames_of c.of.result c.in-Ok-over.session c.args.frames c.of.ensures s.session.frames;
        no_halt = refl;
      };
      stands = λ d revealed sound. stands_of c.of.result c.in-Ok-over.session (start d) c.of.ensures s.session.takes.running ((s.machine d revealed sound).stands);
      refuses = tt;
      judges = record {
        count = λ not. absurd (s.refuses.count not);
        bad_count = λ n is. absurd (cc is);
        refused = λ d why revealed is. absurd (s.refuses.refused d why revealed is);
        judged = λ d revealed. tt;
        sound = λ d revealed sound. tt;
      };
      leaves = record {
        unwritten = tt;
        counted = tt;
        evident = tt;
        crash_states = s.writes.crash_states;
        synced = s.writes.synced;
        later = record { sectors = s.writes.wrote.went.sectors; faults = s.writes.wrote.went.faults };
        cost = s.spends.cost;
      };
    })

pub returns-in-Err-over : goal.returns-in-Err-over
returns-in-Err-over g c =
    let s = c.in-Err-over.ensures in
    let are : IsFrames c.args.frames = search rules in
    opened c.args.frames c.args.self.now _ (Err c.code_of.result) c.in-Ok.disk are c.in-Ok.ensures.disk
    (record {
      outcome = Err c.in-Err-over.why;
      answered = ap (λ (x : Code). Err x) c.code_of.ensures;
      left = g.D.Disk.state c.in-Err-over.disk;
      disk_is = refl;
      runs = tt;
      stands = λ d revealed sound. tt;
      refuses = record { free = refl; halt_is = c.halt_of-self.ensures };
      judges = record {
        count = λ not. ap (λ (w : StartFault). Err w) (s.refuses.count not);
        bad_count = λ n is. s.refuses.bad_count n (cc is);
        refused = λ d why revealed is. either_outcome (s.refuses.refused d why revealed is);
        judged = s.refuses.judged;
        sound = λ d revealed sound. (s.machine d revealed sound).sound;
      };
      leaves = record {
        unwritten = s.fails.unwritten;
        counted = s.fails.counted;
        evident = s.fails.evidence_seen;
        crash_states = s.writes.crash_states;
        synced = tt;
        later = record { sectors = s.writes.wrote.went.sectors; faults = s.writes.wrote.went.faults };
        cost = s.spends.cost;
      };
    })
