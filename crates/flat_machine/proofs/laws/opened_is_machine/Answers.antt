use Rattle.flat_machine.proofs.StartLemmas as lemmas
use Rattle.flat_machine.proofs.laws.opened_is_machine.Goals as goal

pub returns : goal.returns
returns c = lemmas.opened_is_machine
