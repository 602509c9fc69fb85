use Rattle.flat_machine.proofs.PageLemmas as lemmas
use Rattle.flat_machine.proofs.laws.pages_change.Goals as goal

pub returns : goal.returns
returns c = record {
  created = lemmas.created_pages;
  deleted = lemmas.deleted_pages;
  sized = lemmas.sized_pages;
  killed = lemmas.killed_pages;
  stored = lemmas.stored_pages;
  cells = lemmas.stored_cells;
}
