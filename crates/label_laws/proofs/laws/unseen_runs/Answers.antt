use Rattle.label_laws.proofs.QuietLemmas as quiet
use Rattle.label_laws.proofs.UnseenLemmas as laws
use Rattle.label_laws.proofs.laws.unseen_runs.Goals as goal

pub returns-clause-rows : goal.returns-clause-rows
returns-clause-rows c with_temporary id = laws.unseen_append with_temporary id

pub returns-clause-crash_states : goal.returns-clause-crash_states
returns-clause-crash_states c with_temporary id serial counter = laws.unseen_crash_states with_temporary id serial counter

pub returns-clause-orders : goal.returns-clause-orders
returns-clause-orders c with_temporary id = laws.unseen_orders with_temporary id

pub returns-clause-creation : goal.returns-clause-creation
returns-clause-creation c id = laws.unseen_creation id

pub returns-clause-quiet_rows : goal.returns-clause-quiet_rows
returns-clause-quiet_rows c with_temporary id = quiet.quiet_append with_temporary id

pub returns-clause-quiet : goal.returns-clause-quiet
returns-clause-quiet c with_temporary id serial counter = quiet.quiet_crash_states with_temporary id serial counter
