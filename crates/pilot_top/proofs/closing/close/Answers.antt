use Rattle.std.proofs.Common.{◌≡◌, Err, OnOk, None, sym, ap, ◌∙◌, subst}
use Rattle.std.proofs.lemmas.Option.{none-some}
use Rattle.labelled_disk.specs.declared.evidence.Halt.{Halt}
use Rattle.labelled_disk.specs.declared.evidence.Halt.TheVariants as halt
use Rattle.filer_kernel.specs.Evidence.{ShowsEvidence}
use Rattle.fault_core.specs.Core.{state}
use Rattle.pilot_engine.specs.Closing.{HasShut}
use Rattle.pilot_engine.specs.Opening.{LeavesOpen}
use Rattle.pilot_top.specs.InitialState.{FromEachInitialState}
use Rattle.pilot_top.proofs.CloseLemmas.{not_damaged}
use Rattle.pilot_top.proofs.EndedLemmas.{end_reasoned, of_halt, stops_ending}
use Rattle.pilot_top.proofs.closing.close.Goals as goal

-- it was closed
pub returns-in-Ok-clause-stands : goal.returns-in-Ok-clause-stands
returns-in-Ok-clause-stands g c = λ m is.
    let e = c.finish-closed.ensures in
    record {
      closed = λ none. subst (λ r. OnOk r (HasShut m (g.D.Disk.state c.finish-closed.result.1))) c.in-Ok.is ((e.machine m is).closed);
      stops = (e.machine m is).stops;
      sound = λ damaged. none-some _ damaged;
      cost = (e.machine m is).cost;
      syncs = (e.machine m is).syncs;
    }

-- it halted
pub returns-in-Err-clause-stands : goal.returns-in-Err-clause-stands
returns-in-Err-clause-stands g c = λ m is.
    let e = c.finish-closed.ensures in
    record {
      closed = λ none. absurd (none-some _ (sym none));
      stops = (e.machine m is).stops;
      sound = λ damaged. not_damaged c.in-Err.halt c.stop.result (of_halt c.finish-closed.result.0 c.in-Err.halt c.in-Err.is (λ h. h ≡ halt.Disk) ((e.machine m is).sound)) c.stop.ensures.status damaged;
      cost = (e.machine m is).cost;
      syncs = (e.machine m is).syncs;
    }

pub returns-in-Err-clause-stops : goal.returns-in-Err-clause-stops
returns-in-Err-clause-stops g c =
    let e = c.finish-closed.ensures in
    let h = c.in-Err.halt in
    let disk = g.D.Disk.state c.finish-closed.result.1 in
    stops_ending None h c.stop.result _ _ _ (FromEachInitialState c.args.session disk) (state c.args.session.core).disk disk (λ x is. absurd (none-some x is)) c.stop.ensures.status c.stop.ensures.line
    (λ is. e.halts.counted (c.in-Err.is ∙ ap (λ (x : Halt). Err x) is)) (of_halt c.finish-closed.result.0 h c.in-Err.is (ShowsEvidence disk) e.halts.evidence_seen)
    (end_reasoned c.finish-closed.result.0 h c.in-Err.is c.args.session disk e.accounts) (λ unset. of_halt c.finish-closed.result.0 h c.in-Err.is (LeavesOpen disk) (e.halts.left_open unset))
