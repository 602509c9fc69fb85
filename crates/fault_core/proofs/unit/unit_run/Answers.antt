use Rattle.fault_core.proofs.UnitLemmas.{unit_run_is}
use Rattle.fault_core.proofs.unit.unit_run.Goals as goal

pub returns : goal.returns
returns c = unit_run_is c.args.x.now c.args.page c.unit_of-first.result c.requires.formed c.requires.holds c.requires.mapped c.unit_of-first.ensures.pages c.unit_of-first.ensures.holds c.unit_of-first.ensures.inside c.unit_of-first.ensures.size
