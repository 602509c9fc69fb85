use Rattle.label_laws.proofs.FileLemmas as laws
use Rattle.label_laws.proofs.laws.permitted_writes_leave_others.Goals as goal

pub returns-clause-one : goal.returns-clause-one
returns-clause-one c with_temporary = laws.others_stay with_temporary

pub returns-clause-runs : goal.returns-clause-runs
returns-clause-runs c with_temporary = laws.others_stay_in_runs with_temporary
