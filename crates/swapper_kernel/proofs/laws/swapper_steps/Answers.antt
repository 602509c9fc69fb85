use Rattle.swapper_kernel.proofs.StepLemmas.{step_laws}
use Rattle.swapper_kernel.proofs.laws.swapper_steps.Goals as goal

pub returns : goal.returns
returns c = step_laws
