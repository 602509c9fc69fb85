use Rattle.trace_io.specs.PairGrammar.{pair_item_of, is_last_pair_item}
use Rattle.trace_io.proofs.ItemLemmas.{items_of-line, items_of-last}
use Rattle.trace_io.proofs.laws.pair_lines_are_read_by_lines.Goals as goal

pub returns-clause-line : goal.returns-clause-line
returns-clause-line c line s misses = items_of-line pair_item_of is_last_pair_item line s misses

pub returns-clause-last : goal.returns-clause-last
returns-clause-last c line misses some = items_of-last pair_item_of is_last_pair_item line misses some
