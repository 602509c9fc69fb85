use Rattle.pilot_top.proofs.TrialFixed.{one_list}
use Rattle.pilot_top.proofs.laws.trials_have_one_line.Goals as goal

pub returns : goal.returns
returns c = one_list
