use Rattle.label_laws.proofs.AssemblyLemmas as laws
use Rattle.label_laws.proofs.laws.right_by_room.Goals as goal

pub returns : goal.returns
returns c with_temporary = laws.right_by_room with_temporary
