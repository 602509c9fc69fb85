use Rattle.std.specs.Io.KnownBytes.{Appends}
use Rattle.std.proofs.Common.{List, ℕ, Err, inl, refl, sym, ap, ◌∙◌, subst}
use Rattle.labelled_disk.specs.declared.layout.RootFault.{RootFault}
use Rattle.labelled_disk.specs.Calls.{Rose}
use Rattle.trace_io.specs.Stream.{AppendsPrefix}
use Rattle.scavenger.specs.declared.fault.ScavengeFault.{ScavengeFault}
use Rattle.scavenger.specs.declared.fault.ScavengeFault.TheVariants as why
use Rattle.pilot_top.specs.Last.{last_line, Puts}
use Rattle.pilot_top.specs.Reporting.{report_text}
use Rattle.pilot_top.specs.declared.last.Cause.TheVariants as cause
use Rattle.pilot_top.specs.declared.status.Status.TheVariants as status
use Rattle.pilot_top.proofs.ReportingLemmas.{of_report, text_is}
use Rattle.pilot_top.proofs.ScavengingLemmas.{not_restored, not_memory, same_root}
use Rattle.pilot_top.proofs.StartedLemmas.{started_refuses}
use Rattle.pilot_top.proofs.scavenging.restore_volume.Goals as goal

-- the volume is restored, and what was found is put into the sink
pub returns-in-Ok-put_report-clause-puts : goal.returns-in-Ok-put_report-clause-puts
returns-in-Ok-put_report-clause-puts g c = record {
  text = λ is d revealed.
      subst (λ (t : List ℕ). Appends (g.K.Sink.took c.args.sink.now) (g.K.Sink.took c.put_report.new.sink) t) (text_is d c.in-Ok.report (c.in-Ok.ensures.reports d revealed))
      c.in-Ok-put_report.ensures.ok;
  part_of_text = λ is. absurd (cc is);
  some_text = λ done. (report_text c.in-Ok.report, of_report c.in-Ok.report, c.in-Ok-put_report.ensures.ok);
  some_prefix = λ is. absurd (cc is);
}

pub returns-in-Ok-put_report-clause-refuses : goal.returns-in-Ok-put_report-clause-refuses
returns-in-Ok-put_report-clause-refuses g c =
    started_refuses status.Done (λ is. cc is) (λ is. cc is) _ _ _ (λ d f revealed none. not_restored c.restored.result f (c.restored.ensures.refused d f revealed none) _ c.in-Ok.is)
    (λ none. let e = sym c.in-Ok.is ∙ c.restored.ensures.count none in cc e)

-- the sink failed
pub returns-in-Ok-clause-puts : goal.returns-in-Ok-clause-puts
returns-in-Ok-clause-puts g c = record {
  text = λ is. absurd (cc is);
  part_of_text = λ is d revealed.
      subst (λ (t : List ℕ). AppendsPrefix (g.K.Sink.took c.args.sink.now) (g.K.Sink.took c.put_report.new.sink) t) (text_is d c.in-Ok.report (c.in-Ok.ensures.reports d revealed))
      c.in-Err-put_report.ensures.err;
  some_text = λ is. absurd (cc is);
  some_prefix = λ failed. let put = c.in-Err-put_report.ensures.err in (report_text c.in-Ok.report, of_report c.in-Ok.report, put.0, put.1, put.2);
}

pub returns-in-Ok-clause-refuses : goal.returns-in-Ok-clause-refuses
returns-in-Ok-clause-refuses g c =
    started_refuses status.StreamFault (λ is. cc is) (λ is. cc is) _ _ _ (λ d f revealed none. not_restored c.restored.result f (c.restored.ensures.refused d f revealed none) _ c.in-Ok.is)
    (λ none. let e = sym c.in-Ok.is ∙ c.restored.ensures.count none in cc e)

-- the root is refused
pub returns-in-Root-clause-refuses : goal.returns-in-Root-clause-refuses
returns-in-Root-clause-refuses g c =
    let put = c.put_last.ensures.put in
    let is = c.in-Err.is ∙ ap (λ (x : ScavengeFault). Err x) c.in-Root.is in
    record {
      not_opened = λ d revealed same. (c.in-Root.why, c.restored.ensures.refusal c.in-Root.why is d revealed, put);
      refused = λ d f revealed none. inl refl;
      refused_unwritten = c.restored.ensures.refused_unwritten;
      line = λ same. (c.in-Root.why, put);
      count = λ none. (
        refl,
        subst (λ (f : RootFault). Puts (Rose (g.K.Sink.faults c.args.sink.now) (g.K.Sink.faults c.put_last.new.sink)) (g.K.Sink.took c.args.sink.now) (g.K.Sink.took c.put_last.new.sink) (last_line (cause.Root f)))
            (same_root c.restored.result c.in-Err.why _ _ c.in-Err.is c.in-Root.is (c.restored.ensures.count none)) put,
      );
      unwritten = λ same. c.restored.ensures.fails.unwritten (why.Root c.in-Root.why) is (λ other. cc other);
      memory = λ same. absurd (cc same);
    }

-- there is no memory
pub returns-clause-refuses : goal.returns-clause-refuses
returns-clause-refuses g c =
    let is = c.in-Err.is ∙ ap (λ (x : ScavengeFault). Err x) c.in-NoMemory.is in
    record {
      not_opened = λ d revealed same. absurd (cc same);
      refused = λ d f revealed none. absurd (not_memory c.restored.result f (c.restored.ensures.refused d f revealed none) c.in-Err.why c.in-Err.is c.in-NoMemory.is);
      refused_unwritten = c.restored.ensures.refused_unwritten;
      line = λ same. absurd (cc same);
      count = λ none. absurd (let e = sym is ∙ c.restored.ensures.count none in cc e);
      unwritten = λ same. absurd (cc same);
      memory = λ same. c.restored.ensures.fails.unwritten why.NoMemory is (λ other. cc other);
    }
