use Rattle.std.proofs.Common.{take, []}
use Rattle.file_map.specs.FileMap.{AreRuns}
use Rattle.label_survey.specs.Runs.{all_triples}
use Rattle.volume_view.specs.Names.{labelled, AddsUnlabelled, AreOnce}
use Rattle.volume_view.specs.Rows.{AreJoined}
use Rattle.volume_view.proofs.mapped.find_unlabelled.Given as goal

-- the runs before this one are looked at
abbrev pub invariant-loop-j : goal.invariant-loop-j
invariant-loop-j g l = record {
  adds : AddsUnlabelled (take l.j l.runs) (labelled l.first l.labels) l.sectors l.left [] (all_triples l.found.items);
  joined : AreJoined l.found.items;
  once : AreRuns l.sectors l.runs → AreOnce (all_triples l.found.items);
}
