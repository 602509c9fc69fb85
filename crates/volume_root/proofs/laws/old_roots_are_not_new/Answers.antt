use Rattle.volume_root.proofs.OldLemmas.{old_or_new}
use Rattle.volume_root.proofs.laws.old_roots_are_not_new.Goals as goal

pub returns : goal.returns
returns c = old_or_new
