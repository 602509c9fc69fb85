use Rattle.cut_laws.proofs.HonestLemmas.{cuts_are_honest}
use Rattle.cut_laws.proofs.laws.flag_is_honest_in_cuts.Goals as goal

pub returns : goal.returns
returns c = cuts_are_honest
