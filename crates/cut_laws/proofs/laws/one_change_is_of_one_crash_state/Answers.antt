use Rattle.cut_laws.proofs.MarkedFirstLemmas.{one_change}
use Rattle.cut_laws.proofs.ResizedLemmas.{resized_of_one}
use Rattle.cut_laws.proofs.laws.one_change_is_of_one_crash_state.Goals as goal

pub returns-clause-files : goal.returns-clause-files
returns-clause-files c with_temporary = one_change with_temporary

pub returns-clause-one : goal.returns-clause-one
returns-clause-one c with_temporary = resized_of_one with_temporary
