use Rattle.flat_machine.proofs.InnermostLemmas as lemmas
use Rattle.flat_machine.proofs.laws.innermost_is_one.Goals as goal

pub returns : goal.returns
returns c = lemmas.innermost_is_one
