use Rattle.space_calls.proofs.CoreLemmas.{same_swapper}
use Rattle.space_calls.proofs.framing.frame_count.Goals as goal

pub returns-clause-same : goal.returns-clause-same
returns-clause-same g c = same_swapper _ c.args.core.now _ _ _ c.swapper_over-swapper.ensures.value
