use Rattle.std.proofs.Common.{◌≡◌, ◌⊎◌, ◌-◌, ◌+◌, ◌*◌, ◌^◌, ◌≤◌, Some, None}
use Rattle.labelled_disk.specs.declared.evidence.Halt.{Halt}
use Rattle.trace_io.specs.declared.progress.Stop.TheVariants as stop
use Rattle.client_events.specs.Carrying.{CarriesOutEach}
use Rattle.client_events.proofs.GoingLemmas.{Going, LeadsEach}
use Rattle.client_events.proofs.answering.answer_events.Given as goal

-- so many lines are answered
abbrev pub invariant-turns : goal.invariant-turns
invariant-turns g l = record {
  going : Going (g.S.Source.left l.fn.source) (g.S.Source.left l.source) (g.K.Sink.took l.fn.sink) (g.K.Sink.took l.sink) l.events
      (λ items os. LeadsEach l.fn.flights l.flights items os × CarriesOutEach l.fn.flights l.flights items);
  runs : g.T.Stepped.runs l.flights.stepped;
  later : (s : _) (e : Halt) → g.T.Stepped.accounted l.flights.stepped s e → g.T.Stepped.accounted l.fn.flights.stepped s e;
  goes_on : (l.events.stopped ≡ None) ⊎ (l.events.stopped ≡ Some stop.End);
  limit : l.events.limit ≡ 2 ^ 32;
  bound : l.events.taken ≤ l.events.limit;
  few : l.flights.begun ≤ l.fn.flights.begun + 16 * l.events.taken;
  source : g.S.Source.faults l.fn.source ≤ g.S.Source.faults l.source;
  sink : g.K.Sink.faults l.fn.sink ≤ g.K.Sink.faults l.sink;
}

abbrev pub decreases-turns : goal.decreases-turns
decreases-turns g l = l.events.limit - l.events.taken
