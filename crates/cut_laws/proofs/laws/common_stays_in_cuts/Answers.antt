use Rattle.cut_laws.proofs.CommonLemmas.{common_stays}
use Rattle.cut_laws.proofs.laws.common_stays_in_cuts.Goals as goal

pub returns : goal.returns
returns c with_temporary = common_stays with_temporary
