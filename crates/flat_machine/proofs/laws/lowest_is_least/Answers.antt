use Rattle.flat_machine.proofs.LowestLemmas as lemmas
use Rattle.flat_machine.proofs.laws.lowest_is_least.Goals as goal

pub returns : goal.returns
returns c = record {
  gap = lemmas.lowest_gap_is_least;
  handle = lemmas.lowest_unused_is_least;
  number = lemmas.least_is_least;
  named = lemmas.lowest_handle_is_lowest;
}
