use Rattle.flat_machine.proofs.PathLemmas as lemmas
use Rattle.flat_machine.proofs.laws.sharing_is_one_path.Goals as goal

pub returns : goal.returns
returns c = lemmas.sharing_is_one_path
