use Rattle.pair_machine.proofs.ExactLemmas.{agreeing_are_same}
use Rattle.pair_machine.proofs.laws.agreeing_files_are_same.Goals as goal

pub returns : goal.returns
returns c = agreeing_are_same
