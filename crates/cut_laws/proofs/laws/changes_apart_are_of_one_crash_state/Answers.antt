use Rattle.cut_laws.proofs.ApartLemmas.{changes_apart}
use Rattle.cut_laws.proofs.laws.changes_apart_are_of_one_crash_state.Goals as goal

pub returns : goal.returns
returns c with_temporary = changes_apart with_temporary
