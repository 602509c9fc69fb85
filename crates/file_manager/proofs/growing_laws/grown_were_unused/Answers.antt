use Rattle.file_manager.proofs.GrowBroken.{free_are_unused}
use Rattle.file_manager.proofs.growing_laws.grown_were_unused.Goals as goal

pub returns : goal.returns
returns c = free_are_unused
