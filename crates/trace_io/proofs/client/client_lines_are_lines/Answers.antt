use Rattle.trace_io.proofs.ClientTextLemmas.{client_lines_are}
use Rattle.trace_io.proofs.client.client_lines_are_lines.Goals as goal

pub returns : goal.returns
returns c = client_lines_are c.replies_are_lines.ensures.lines
