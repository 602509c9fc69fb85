use Rattle.trace_io.proofs.PairTextLemmas.{pair_replies_are}
use Rattle.trace_io.proofs.pair_reply.pair_replies_are_lines.Goals as goal

pub returns : goal.returns
returns c = pair_replies_are
