use Rattle.cut_laws.proofs.RootLemmas.{flag_laws}
use Rattle.cut_laws.proofs.RootWriteLemmas.{root_is_whole}
use Rattle.cut_laws.proofs.laws.root_in_cuts.Goals as goal

pub returns-clause-laws : goal.returns-clause-laws
returns-clause-laws c = flag_laws

pub returns-clause-written : goal.returns-clause-written
returns-clause-written c = root_is_whole
