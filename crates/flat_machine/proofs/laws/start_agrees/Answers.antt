use Rattle.flat_machine.proofs.StartLemmas as lemmas
use Rattle.flat_machine.proofs.laws.start_agrees.Goals as goal

pub returns : goal.returns
returns c = lemmas.start_agrees
