use Rattle.std.proofs.Common.{ap}
use Rattle.pair_session.specs.Pairs.{shown}
use Rattle.pair_session.specs.Replicated.{streams}
use Rattle.pair_session.proofs.CarryLemmas.{close_carries, end_carries}
use Rattle.pair_session.proofs.LeaveLemmas.{halt_carries, long_carries, read_carries, sink_carries}
use Rattle.pair_session.proofs.replication.answer_pair.Given as given
use Rattle.pair_session.proofs.replication.answer_pair.Goals as goal

pub returns-in-Close : goal.returns-in-Close
returns-in-Close g c = record {
  carries = close_carries
      (streams (g.S.Source.left c.args.source.now) (g.S.Source.faults c.args.source.now) (g.K.Sink.took c.args.sink.now) (g.K.Sink.faults c.args.sink.now))
      (streams (g.S.Source.left c.answer_lines.new.source) (g.S.Source.faults c.answer_lines.new.source) (g.K.Sink.took c.answer_lines.new.sink) (g.K.Sink.faults c.answer_lines.new.sink))
      c.answer_lines.ensures.goes_on c.in-Close.ensures.replied c.in-Close.ensures.reason _ _ _ _ c.close.result.0 c.close.ensures.finishes c.close.ensures.replies;
}

pub returns-in-End : goal.returns-in-End
returns-in-End g c = record {
  carries = end_carries
      (streams (g.S.Source.left c.args.source.now) (g.S.Source.faults c.args.source.now) (g.K.Sink.took c.args.sink.now) (g.K.Sink.faults c.args.sink.now))
      (streams (g.S.Source.left c.answer_lines.new.source) (g.S.Source.faults c.answer_lines.new.source) (g.K.Sink.took c.answer_lines.new.sink) (g.K.Sink.faults c.answer_lines.new.sink))
      c.answer_lines.ensures.goes_on c.in-End.ensures.replied c.in-End.ensures.reason _ _ c.finish.result.0 c.finish.ensures.finishes c.finish.ensures.ends;
}

pub returns-in-Long : goal.returns-in-Long
returns-in-Long g c = record {
  carries = rw c.leave.ensures.how (long_carries
      (streams (g.S.Source.left c.args.source.now) (g.S.Source.faults c.args.source.now) (g.K.Sink.took c.args.sink.now) (g.K.Sink.faults c.args.sink.now))
      (streams (g.S.Source.left c.answer_lines.new.source) (g.S.Source.faults c.answer_lines.new.source) (g.K.Sink.took c.answer_lines.new.sink) (g.K.Sink.faults c.answer_lines.new.sink))
      c.answer_lines.ensures.goes_on _ _ (ap (λ x. g.D.Disk.state x) c.leave.ensures.from) (ap (λ x. g.E.Disk.state x) c.leave.ensures.to) c.in-Long.ensures.replied c.in-Long.ensures.reason);
}

pub returns-in-ReadFault : goal.returns-in-ReadFault
returns-in-ReadFault g c = record {
  carries = rw c.leave-in-ReadFault.ensures.how (read_carries
      (streams (g.S.Source.left c.args.source.now) (g.S.Source.faults c.args.source.now) (g.K.Sink.took c.args.sink.now) (g.K.Sink.faults c.args.sink.now))
      (streams (g.S.Source.left c.answer_lines.new.source) (g.S.Source.faults c.answer_lines.new.source) (g.K.Sink.took c.answer_lines.new.sink) (g.K.Sink.faults c.answer_lines.new.sink))
      c.answer_lines.ensures.goes_on _ _ (ap (λ x. g.D.Disk.state x) c.leave-in-ReadFault.ensures.from) (ap (λ x. g.E.Disk.state x) c.leave-in-ReadFault.ensures.to) c.in-ReadFault.ensures.replied c.in-ReadFault.ensures.reason);
}

pub returns-in-SinkFault : goal.returns-in-SinkFault
returns-in-SinkFault g c = record {
  carries = rw c.leave-in-SinkFault.ensures.how (sink_carries
      (streams (g.S.Source.left c.args.source.now) (g.S.Source.faults c.args.source.now) (g.K.Sink.took c.args.sink.now) (g.K.Sink.faults c.args.sink.now))
      (streams (g.S.Source.left c.answer_lines.new.source) (g.S.Source.faults c.answer_lines.new.source) (g.K.Sink.took c.answer_lines.new.sink) (g.K.Sink.faults c.answer_lines.new.sink))
      c.answer_lines.ensures.goes_on _ _ (ap (λ x. g.D.Disk.state x) c.leave-in-SinkFault.ensures.from) (ap (λ x. g.E.Disk.state x) c.leave-in-SinkFault.ensures.to) c.in-SinkFault.ensures.replied c.in-SinkFault.ensures.reason);
}

pub returns-in-Halted : goal.returns-in-Halted
returns-in-Halted g c = record {
  carries = rw c.leave-in-Halted.ensures.how (halt_carries
      (streams (g.S.Source.left c.args.source.now) (g.S.Source.faults c.args.source.now) (g.K.Sink.took c.args.sink.now) (g.K.Sink.faults c.args.sink.now))
      (streams (g.S.Source.left c.answer_lines.new.source) (g.S.Source.faults c.answer_lines.new.source) (g.K.Sink.took c.answer_lines.new.sink) (g.K.Sink.faults c.answer_lines.new.sink))
      c.answer_lines.ensures.goes_on _ _ (ap (λ x. g.D.Disk.state x) c.leave-in-Halted.ensures.from) (ap (λ x. g.E.Disk.state x) c.leave-in-Halted.ensures.to) c.in-Halted.halt c.in-Halted.ensures.replied c.in-Halted.ensures.reason c.in-Halted.ensures.halt);
}
