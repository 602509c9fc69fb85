use Rattle.volume_root.proofs.RootLemmas.{passes, valid}
use Rattle.volume_root.proofs.laws.valid_roots_pass.Goals as goal

pub returns : goal.returns
returns c n s = record { passes = passes n s; valid = valid n s }
