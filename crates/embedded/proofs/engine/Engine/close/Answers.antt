use Rattle.std.proofs.Common.{◌≡◌, ◌∙◌, ap, subst, refl, true, Some, Result, Err, IfErr, OnOk}
use Rattle.labelled_disk.specs.Calls.{Rose}
use Rattle.labelled_disk.specs.declared.evidence.Halt.{Halt}
use Rattle.labelled_disk.specs.declared.evidence.Halt.TheVariants as halt
use Rattle.filer_kernel.specs.Evidence.{ShowsEvidence}
use Rattle.pilot_engine.specs.Closing.{HasShut, IsStop, Throughout}
use Rattle.embedded.specs.declared.code.Code.TheVariants as code
use Rattle.embedded.proofs.OpenLemmas.{ended_between, ended_later, had_open, not_closed, runs_of}
use Rattle.embedded.proofs.engine.Engine.close.Goals as goal

pub returns-in_default : goal.returns-in_default
returns-in_default g c = not_closed c.args.self.now _ c.in_default.ensures.none.0 c.in_default.ensures.none.1

pub returns-in-Ok : goal.returns-in-Ok
returns-in-Ok g c =
    let h = c.args.self.now.held in
    let live = c.in-Some.live in
    let s = c.into_session.result in
    let had = c.in-Some.ensures.session.0 in
    let same = c.into_session.ensures in
    let left = g.D.Disk.state c.finish-closed.result.1 in
    let f = c.finish-closed.ensures in
    record {
      closed = λ m stands. (left, refl, subst (λ (r : Result (Unit {0}) Halt). OnOk r (HasShut m left)) c.in-Ok.is ((f.machine m (runs_of h live s m had same stands)).closed));
      sound = λ m stands. tt;
      stops = λ m stands. ended_between (Throughout (IsStop m)) h live s left had same ((f.machine m (runs_of h live s m had same stands)).stops);
      synced = ((left, refl, subst (λ (r : Result (Unit {0}) Halt). OnOk r (left.synced ≡ true)) c.in-Ok.is f.writes.synced), c.take_session.ensures.halt);
      stopped = λ why is. absurd (cc is);
      cause = λ is. absurd (cc is);
      none = λ closed. absurd (cc (had_open h live had c.in-Some.ensures.session.1, closed));
      ended = refl;
      later = ended_later h live s left had same (record { sectors = f.writes.wrote.went.sectors; faults = f.writes.wrote.went.faults });
    }

pub returns-in-Err : goal.returns-in-Err
returns-in-Err g c =
    let h = c.args.self.now.held in
    let live = c.in-Some.live in
    let s = c.into_session.result in
    let had = c.in-Some.ensures.session.0 in
    let same = c.into_session.ensures in
    let left = g.D.Disk.state c.finish-closed.result.1 in
    let f = c.finish-closed.ensures in
    record {
      closed = λ m stands. tt;
      sound = λ m stands.
          ap (λ (x : Halt). code.Halted x) (subst (λ (r : Result (Unit {0}) Halt). IfErr r (λ e. e ≡ halt.Disk)) c.in-Err.is ((f.machine m (runs_of h live s m had same stands)).sound));
      stops = λ m stands. ended_between (Throughout (IsStop m)) h live s left had same ((f.machine m (runs_of h live s m had same stands)).stops);
      synced = tt;
      stopped = λ why is.
          let it : c.in-Err.halt ≡ why = cc is in
          record {
            closed = refl;
            kept = ap (λ (x : Halt). Some x) it;
            evident = subst (λ (x : Halt). ShowsEvidence left x) it (subst (λ (r : Result (Unit {0}) Halt). IfErr r (ShowsEvidence left)) c.in-Err.is f.halts.evidence_seen);
          };
      cause = λ is.
          ended_between (λ before after. Rose before.faults after.faults) h live s left had same
          (f.halts.counted (c.in-Err.is ∙ ap (λ (x : Halt). Err x) (cc is)));
      none = λ closed. absurd (cc (had_open h live had c.in-Some.ensures.session.1, closed));
      ended = refl;
      later = ended_later h live s left had same (record { sectors = f.writes.wrote.went.sectors; faults = f.writes.wrote.went.faults });
    }
