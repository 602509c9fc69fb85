use Rattle.std.proofs.Common.{◌≡◌, Err, OnOk, sym, ap, ◌∙◌, subst, true}
use Rattle.std.proofs.lemmas.Option.{none-some}
use Rattle.labelled_disk.specs.declared.evidence.Halt.{Halt}
use Rattle.labelled_disk.specs.declared.evidence.Halt.TheVariants as halt
use Rattle.filer_kernel.specs.Evidence.{ShowsEvidence}
use Rattle.fault_core.specs.Core.{state}
use Rattle.pilot_engine.specs.Closing.{HasShut}
use Rattle.pilot_engine.specs.Opening.{LeavesOpen}
use Rattle.pilot_top.specs.InitialState.{FromEachInitialState}
use Rattle.pilot_top.proofs.EndedLemmas.{end_reasoned, of_halt, stops_ending}
use Rattle.pilot_top.proofs.ShownLemmas.{none_shown, on_sound, revealed_then, some_of}
use Rattle.pilot_top.proofs.ending.close_run.Goals as goal

-- it was closed
pub returns-in-Ok-clause-stands : goal.returns-in-Ok-clause-stands
returns-in-Ok-clause-stands g c = λ m is.
    let e = c.finish-closed.ensures in
    record {
      closed = λ none. subst (λ r. OnOk r (HasShut m (g.D.Disk.state c.finish-closed.result.1))) c.in-Ok.is ((e.machine m is).closed);
      stops = (e.machine m is).stops;
      sound = λ damaged. none-some _ damaged;
      cost = (e.machine m is).cost;
      syncs = (e.machine m is).syncs;
    }

pub returns-in-Ok-clause-rests : goal.returns-in-Ok-clause-rests
returns-in-Ok-clause-rests g c none =
    g.met.D.RunDisk.synced_rests c.finish-closed.result.1 (subst (λ r. OnOk r ((g.D.Disk.state c.finish-closed.result.1).synced ≡ true)) c.in-Ok.is c.finish-closed.ensures.writes.synced)

-- it halted
pub returns-in-Err-clause-stands : goal.returns-in-Err-clause-stands
returns-in-Err-clause-stands g c = λ m is.
    let e = c.finish-closed.ensures in
    let disk = c.finish-closed.result.1 in
    let stops = (e.machine m is).stops in
    let stands = is.session.stands.stands in
    let revealed = revealed_then stops.writes (state c.args.session.core).disk (g.D.Disk.state disk) stops.appended stands.sectors stands.revealed in
    record {
      closed = λ none. absurd (none-some _ (sym none));
      stops = stops;
      sound = λ damaged.
          on_sound (g.D.RunDisk.shown disk) c.in-Err.halt c.stop_on-status.result c.stop_on-status.ensures.status
          (none_shown (g.D.RunDisk.shown disk) (g.D.Disk.state disk) (g.met.D.RunDisk.unrevealed disk) revealed.0 revealed.1)
          (of_halt c.finish-closed.result.0 c.in-Err.halt c.in-Err.is (λ h. h ≡ halt.Disk) ((e.machine m is).sound)) (some_of damaged);
      cost = (e.machine m is).cost;
      syncs = (e.machine m is).syncs;
    }

pub returns-in-Err-clause-stops : goal.returns-in-Err-clause-stops
returns-in-Err-clause-stops g c =
    let e = c.finish-closed.ensures in
    let h = c.in-Err.halt in
    let left = c.finish-closed.result.1 in
    let disk = g.D.Disk.state left in
    stops_ending (g.D.RunDisk.shown left) h c.stop_on-status.result _ _ _ (FromEachInitialState c.args.session disk) (state c.args.session.core).disk disk (g.met.D.RunDisk.unrevealed left)
    c.stop_on-status.ensures.status c.stop_on-status.ensures.line (λ is. e.halts.counted (c.in-Err.is ∙ ap (λ (x : Halt). Err x) is)) (of_halt c.finish-closed.result.0 h c.in-Err.is (ShowsEvidence disk) e.halts.evidence_seen)
    (end_reasoned c.finish-closed.result.0 h c.in-Err.is c.args.session disk e.accounts) (λ unset. of_halt c.finish-closed.result.0 h c.in-Err.is (LeavesOpen disk) (e.halts.left_open unset))
