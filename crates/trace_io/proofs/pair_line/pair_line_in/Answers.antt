use Rattle.std.proofs.Common.{sym, ap, ◌∙◌}
use Rattle.trace_io.specs.PairLines.{pair_line_at}
use Rattle.trace_io.proofs.PairLineLemmas.{pair_item_of-short}
use Rattle.trace_io.proofs.pair_line.pair_line_in.Goals as goal

pub returns : goal.returns
returns c = c.pair_line_by_words.ensures ∙ ap pair_line_at (sym (pair_item_of-short c.args.line.now c.requires))
