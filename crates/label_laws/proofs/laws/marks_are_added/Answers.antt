use Rattle.label_laws.proofs.FileLemmas as labels
use Rattle.label_laws.proofs.MarkLemmas as laws
use Rattle.label_laws.proofs.laws.marks_are_added.Goals as goal

pub returns-clause-labels : goal.returns-clause-labels
returns-clause-labels c = labels.marks_are_added

pub returns-clause-files : goal.returns-clause-files
returns-clause-files c with_temporary serial counter = laws.marks_of_files with_temporary serial counter
