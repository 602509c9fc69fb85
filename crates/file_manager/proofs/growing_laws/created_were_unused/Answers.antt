use Rattle.file_manager.proofs.CreateBroken.{created_unused}
use Rattle.file_manager.proofs.GrowBroken.{unused_first}
use Rattle.file_manager.proofs.growing_laws.created_were_unused.Goals as goal

pub returns-clause-made : goal.returns-clause-made
returns-clause-made c = created_unused

pub returns-clause-stopped : goal.returns-clause-stopped
returns-clause-stopped c = λ is d free. unused_first d is free
