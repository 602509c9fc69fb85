use Rattle.flat_machine.proofs.MoreLaws as lemmas
use Rattle.flat_machine.proofs.laws.shown_is_there.Goals as goal

pub returns : goal.returns
returns c = lemmas.shown_is_there
