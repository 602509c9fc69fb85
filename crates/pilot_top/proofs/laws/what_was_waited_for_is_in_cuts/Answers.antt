use Rattle.pilot_top.proofs.LastingLemmas.{waited_for_lasts}
use Rattle.pilot_top.proofs.laws.what_was_waited_for_is_in_cuts.Goals as goal

pub returns : goal.returns
returns c = waited_for_lasts
