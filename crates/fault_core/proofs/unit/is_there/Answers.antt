use Rattle.fault_core.proofs.unit.is_there.Goals as goal

pub returns-clause-there : goal.returns-clause-there
returns-clause-there g c = rw c.swapper_over.ensures.value at c.has_run.ensures.there
