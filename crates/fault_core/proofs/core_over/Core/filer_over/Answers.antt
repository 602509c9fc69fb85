use Rattle.std.proofs.Common.{refl}
use Rattle.fault_core.proofs.LendLemmas.{same_facts}
use Rattle.fault_core.proofs.core_over.Core.filer_over.Goals as goal

pub returns : goal.returns
returns g c = ((refl, λ w. same_facts w _ _ _ _ _ _ _ _), record { value = refl; lends = tt })
