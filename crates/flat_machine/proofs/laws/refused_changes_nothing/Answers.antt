use Rattle.flat_machine.proofs.ReplyLemmas as lemmas
use Rattle.flat_machine.proofs.laws.refused_changes_nothing.Goals as goal

pub returns : goal.returns
returns c = lemmas.refused_changes_nothing
