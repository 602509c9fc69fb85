use Rattle.std.proofs.Common.{◌∙◌}
use Rattle.trace_io.proofs.DecimalLemmas.{one_and_space}
use Rattle.trace_io.proofs.text.Text.put_client.Goals as goal

pub returns-then-n-lt10-clause-text : goal.returns-then-n-lt10-clause-text
returns-then-n-lt10-clause-text c = c.put.ensures.text ∙ one_and_space c.args.self.now c.args.n c.if-n-lt10.true
