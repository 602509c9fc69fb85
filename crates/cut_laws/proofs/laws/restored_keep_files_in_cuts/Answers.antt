use Rattle.cut_laws.proofs.RestoredLemmas.{restored_keeps_files}
use Rattle.cut_laws.proofs.laws.restored_keep_files_in_cuts.Goals as goal

pub returns : goal.returns
returns c with_temporary = restored_keeps_files with_temporary
