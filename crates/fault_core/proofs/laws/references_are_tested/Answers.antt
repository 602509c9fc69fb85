use Rattle.fault_core.proofs.AllowedLemmas.{loads_tested, stores_tested}
use Rattle.fault_core.proofs.laws.references_are_tested.Goals as goal

pub returns : goal.returns
returns c = record { loads = loads_tested; stores = stores_tested }
