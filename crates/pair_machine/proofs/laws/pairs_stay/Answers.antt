use Rattle.pair_machine.proofs.PairLemmas.{pairs_stay}
use Rattle.pair_machine.proofs.laws.pairs_stay.Goals as goal

pub returns : goal.returns
returns c = pairs_stay
