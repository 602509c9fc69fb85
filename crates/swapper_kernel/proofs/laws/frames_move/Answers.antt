use Rattle.swapper_kernel.proofs.MoveLemmas.{move_laws}
use Rattle.swapper_kernel.proofs.laws.frames_move.Goals as goal

pub returns : goal.returns
returns c sectors slots memory = move_laws sectors slots memory
