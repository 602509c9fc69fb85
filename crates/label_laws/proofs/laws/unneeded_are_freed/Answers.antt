use Rattle.label_laws.proofs.NeededLemmas as laws
use Rattle.label_laws.proofs.laws.unneeded_are_freed.Goals as goal

pub returns-clause-crash_states : goal.returns-clause-crash_states
returns-clause-crash_states c with_temporary = laws.freed_crash_states with_temporary

pub returns-clause-all : goal.returns-clause-all
returns-clause-all c with_temporary = laws.freed_all with_temporary

pub returns-clause-needed : goal.returns-clause-needed
returns-clause-needed c with_temporary = laws.needed_if_files with_temporary

pub returns-clause-right : goal.returns-clause-right
returns-clause-right c with_temporary = laws.freed_stay_right with_temporary
