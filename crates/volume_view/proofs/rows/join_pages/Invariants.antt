use Rattle.std.proofs.Common.{◌≡◌, take}
use Rattle.label_survey.specs.Runs.{all_triples}
use Rattle.volume_view.specs.Rows.{AreJoined}
use Rattle.volume_view.proofs.rows.join_pages.Given as goal

-- the pages before this one are joined
abbrev pub invariant-loop-i : goal.invariant-loop-i
invariant-loop-i g l = record {
  pages : all_triples l.runs.items ≡ take l.i l.pages;
  joined : AreJoined l.runs.items;
}
