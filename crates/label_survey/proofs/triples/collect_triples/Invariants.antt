use Rattle.std.proofs.Common.{◌≡◌, take}
use Rattle.label_survey.specs.Triples.{triples_from}
use Rattle.label_survey.proofs.triples.collect_triples.Given as goal

abbrev pub invariant-loop-i : goal.invariant-loop-i
invariant-loop-i g l = l.triples.items ≡ triples_from l.first (take l.i l.labels) (take l.i l.sector_states)
