use Rattle.flat_machine.proofs.StartMachine as lemmas
use Rattle.flat_machine.proofs.laws.start_is_machine.Goals as goal

pub returns : goal.returns
returns c = lemmas.start_is_machine
