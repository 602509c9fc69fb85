use Rattle.flat_machine.proofs.ReplyLemmas as lemmas
use Rattle.flat_machine.proofs.laws.some_reply_is_allowed.Goals as goal

pub returns : goal.returns
returns c = lemmas.some_reply_is_allowed
