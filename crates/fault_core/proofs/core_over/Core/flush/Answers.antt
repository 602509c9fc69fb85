use Rattle.std.proofs.Common.{refl}
use Rattle.fault_core.proofs.core_over.Core.flush.Goals as goal

pub returns-clause-stay : goal.returns-clause-stay
returns-clause-stay g c = c.write_back_range.ensures.stay refl
