use Rattle.std.proofs.Common.{refl}
use Rattle.swapper_kernel.proofs.LendLemmas.{same_facts}
use Rattle.swapper_kernel.proofs.swapper.Swapper+mut+D+A.disk.Goals as goal

pub returns : goal.returns
returns g c = ((refl, λ w. same_facts _ _ _ _ _ _ _ _ _), record { value = refl; lends = tt })
