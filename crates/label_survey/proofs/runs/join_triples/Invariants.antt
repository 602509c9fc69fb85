use Rattle.label_survey.proofs.RunLemmas.{AreBegun}
use Rattle.label_survey.proofs.runs.join_triples.Given as goal

abbrev pub invariant-loop-i : goal.invariant-loop-i
invariant-loop-i g l = AreBegun l.triples l.i l.runs.items l.open
