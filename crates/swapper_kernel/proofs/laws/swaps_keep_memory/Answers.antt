use Rattle.swapper_kernel.specs.GoesLaws.{swaps_itself, swaps_then}
use Rattle.swapper_kernel.proofs.laws.swaps_keep_memory.Goals as goal

pub returns-clause-itself : goal.returns-clause-itself
returns-clause-itself c disk slots = swaps_itself disk slots

pub returns-clause-next : goal.returns-clause-next
returns-clause-next c a b c2 s t u first second = swaps_then first second
