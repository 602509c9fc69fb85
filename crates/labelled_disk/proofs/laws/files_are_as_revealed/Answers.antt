use Rattle.labelled_disk.proofs.LowestLemmas as laws
use Rattle.labelled_disk.proofs.laws.files_are_as_revealed.Goals as goal

pub returns : goal.returns
returns c with_temporary d = laws.files_are_as_revealed with_temporary d
