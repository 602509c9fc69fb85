use Rattle.cut_laws.proofs.ChangeRowLemmas.{apart_are_changes_apart, apart_later, apart_then, apart_whether_failed}
use Rattle.cut_laws.proofs.laws.changes_of_calls_are_apart.Goals as goal

pub returns-clause-apart : goal.returns-clause-apart
returns-clause-apart c = apart_are_changes_apart

pub returns-clause-rows : goal.returns-clause-rows
returns-clause-rows c = apart_then

pub returns-clause-later : goal.returns-clause-later
returns-clause-later c = apart_later

pub returns-clause-failed : goal.returns-clause-failed
returns-clause-failed c = apart_whether_failed
