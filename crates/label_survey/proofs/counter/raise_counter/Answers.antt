use Rattle.std.proofs.Common.{arith}
use Rattle.label_survey.proofs.CounterLemmas.{raised}
use Rattle.label_survey.proofs.counter.raise_counter.Goals as goal

pub returns : goal.returns
returns c = λ d needed. raised d c.args.triples.now needed c.args.serial c.args.counter c.loop-i.i c.loop-i.now (omega (arith, c.loop-i-test.false)) c.loop-i.invariant
