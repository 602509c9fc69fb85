use Rattle.cut_laws.proofs.OwnRunLemmas.{own_run_laws}
use Rattle.cut_laws.proofs.laws.runs_of_one_file.Goals as goal

pub returns : goal.returns
returns c = own_run_laws
