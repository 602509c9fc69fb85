use Rattle.command_words.proofs.RefusalLemmas.{not_taken}
use Rattle.command_words.proofs.parsers.read.Goals as goal

pub returns-in-Err-clause-refused : goal.returns-in-Err-clause-refused
returns-in-Err-clause-refused c usage =
    not_taken _ c.refusal_of.result _ c.in-Err.ensures.passes c.refusal_of.ensures.memory usage
