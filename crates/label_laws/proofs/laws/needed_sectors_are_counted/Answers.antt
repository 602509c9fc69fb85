use Rattle.label_laws.proofs.CountLemmas as laws
use Rattle.label_laws.proofs.TakenLemmas.{taken_by_files}
use Rattle.label_laws.proofs.laws.needed_sectors_are_counted.Goals as goal

pub returns-clause-lists : goal.returns-clause-lists
returns-clause-lists c with_temporary = laws.list_laws with_temporary

pub returns-clause-counts : goal.returns-clause-counts
returns-clause-counts c with_temporary = laws.count_laws with_temporary

pub returns-clause-taken : goal.returns-clause-taken
returns-clause-taken c with_temporary = taken_by_files with_temporary
