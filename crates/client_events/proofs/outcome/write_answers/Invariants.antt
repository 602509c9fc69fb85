use Rattle.std.proofs.Common.{◌≡◌, ◌++◌, ◌≤◌}
use Rattle.std.specs.Prelude.{flat_map}
use Rattle.std.specs.Io.KnownBytes.{Appends}
use Rattle.client_events.specs.Outcome.{answer_line}
use Rattle.client_events.proofs.outcome.write_answers.Given as goal

-- the lines of the first answers are put
abbrev pub invariant-loop-answer : goal.invariant-loop-answer
invariant-loop-answer g l = record {
  all : l.yielded ++ l.answer-iterator ≡ l.fn.answers.items;
  put : Appends (g.K.Sink.took l.fn.sink) (g.K.Sink.took l.sink) (flat_map answer_line l.yielded);
  faults : g.K.Sink.faults l.fn.sink ≤ g.K.Sink.faults l.sink;
}
