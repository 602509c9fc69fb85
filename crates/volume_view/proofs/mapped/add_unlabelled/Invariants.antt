use Rattle.label_survey.specs.Runs.{all_triples}
use Rattle.volume_view.specs.Names.{labelled}
use Rattle.volume_view.specs.Rows.{AreJoined}
use Rattle.volume_view.proofs.NameLemmas.{IsAddedTo}
use Rattle.volume_view.proofs.mapped.add_unlabelled.Given as goal

-- the pages before this one are looked at
abbrev pub invariant-loop-k : goal.invariant-loop-k
invariant-loop-k g l = record {
  added : IsAddedTo l.run (labelled l.first l.labels) l.k l.left l.now (all_triples l.fn.pages.items) (all_triples l.pages.items);
  joined : AreJoined l.fn.pages.items → AreJoined l.pages.items;
}
