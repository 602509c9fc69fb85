use Rattle.label_survey.proofs.CounterLemmas.{IsRaisedBy}
use Rattle.label_survey.proofs.counter.raise_counter.Given as goal

abbrev pub invariant-loop-i : goal.invariant-loop-i
invariant-loop-i l = IsRaisedBy l.triples l.serial l.counter l.i l.now
