use Rattle.old_files.proofs.LeaderLemmas.{old_leaders_are}
use Rattle.old_files.proofs.PlacingLemmas.{placed_are_settled}
use Rattle.old_files.proofs.laws.placed_leaders_are_settled.Goals as goal

pub returns-clause-settled : goal.returns-clause-settled
returns-clause-settled c = placed_are_settled

pub returns-clause-leaders : goal.returns-clause-leaders
returns-clause-leaders c = old_leaders_are
