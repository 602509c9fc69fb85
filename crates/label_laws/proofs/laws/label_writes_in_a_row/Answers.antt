use Rattle.label_laws.proofs.LabelWriteLemmas as laws
use Rattle.label_laws.proofs.laws.label_writes_in_a_row.Goals as goal

pub returns-clause-rows : goal.returns-clause-rows
returns-clause-rows c = laws.label_writes_appended

pub returns-clause-states : goal.returns-clause-states
returns-clause-states c = laws.label_later_laws
