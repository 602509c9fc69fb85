use Rattle.std.proofs.Common.{rules, ◌≡◌, Err}
use Rattle.pilot_top.proofs.ReportingLemmas.{line_put, line_begun}
use Rattle.pilot_top.proofs.reporting.put_lost.Goals as goal

pub returns-in_err-put-clause-err : goal.returns-in_err-put-clause-err
returns-in_err-put-clause-err g c =
    let same : c.from_residual.result ≡ Err c.in_err-put.field-0.0 = search rules in
    rw same (line_begun _ _ _ c.args.lost.now c.loop-sector.sector-index _ c.loop-sector-test.true _ _ c.lost_line.ensures c.deref.ensures.0 c.loop-sector.invariant.put c.in_err-put.ensures.err)

pub loop-sector-preserved : goal.loop-sector-preserved
loop-sector-preserved g c = record {
  put = line_put _ _ _ c.args.lost.now c.loop-sector.sector-index _ c.loop-sector-test.true _ _ c.lost_line.ensures c.deref.ensures.0 c.loop-sector.invariant.put c.in_ok-put.ensures.ok;
  faults = search rules;
}
