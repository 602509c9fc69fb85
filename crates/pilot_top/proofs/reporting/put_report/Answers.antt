use Rattle.std.proofs.Common.{rules, ◌≡◌, Err, length, subst, List}
use Rattle.trace_io.specs.Stream.{AppendsPrefix}
use Rattle.scavenger.specs.Reported.{lost_in}
use Rattle.pilot_top.specs.Reporting.{lost_lines, count_line}
use Rattle.scavenger.specs.declared.report.Lost.{Lost}
use Rattle.pilot_top.proofs.ReportingLemmas.{counts_begun, prefix_longer}
use Rattle.pilot_top.proofs.reporting.put_report.Goals as goal

pub returns-in_err-put_lost-clause-err : goal.returns-in_err-put_lost-clause-err
returns-in_err-put_lost-clause-err g c =
    let same : c.from_residual.result ≡ Err c.in_err-put_lost.field-0.0 = search rules in
    rw same (prefix_longer _ _ (lost_lines (lost_in c.args.report.now)) (count_line c.args.report.now.files c.args.report.now.pages c.args.report.now.freed (length (lost_in c.args.report.now)))
    (subst (λ (l : List Lost). AppendsPrefix (g.K.Sink.took c.args.sink.now) (g.K.Sink.took c.put_lost.new.sink) (lost_lines l)) c.lost-lost.ensures c.in_err-put_lost.ensures.err))

pub returns-clause-err : goal.returns-clause-err
returns-clause-err g c =
    counts_begun _ _ _ _ (lost_in c.args.report.now) c.args.report.now.files c.args.report.now.pages c.args.report.now.freed _ _ c.put.result c.lost-lost.ensures c.in_ok-put_lost.ensures.ok
    c.count_line.ensures c.deref.ensures.0 c.put.ensures.err
