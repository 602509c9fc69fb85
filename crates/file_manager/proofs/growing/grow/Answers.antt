use Rattle.std.proofs.Common.{◌∙◌}
use Rattle.file_manager.proofs.SizeSteps.{most_cost}
use Rattle.file_manager.proofs.growing.grow.Goals as goal

pub returns-clause-grown : goal.returns-clause-grown
returns-clause-grown g c = λ x shapes spaces f may size. c.in-Ok.ensures.made 96 x shapes spaces f may size

pub returns-in-Err-clause-grown : goal.returns-in-Err-clause-grown
returns-in-Err-clause-grown g c = λ x shapes spaces f may size. c.in-Err.ensures.made 96 x shapes spaces f may size

pub returns-clause-cleared : goal.returns-clause-cleared
returns-clause-cleared g c = λ permanent. c.make_up.ensures.cleared (c.marks-clears.ensures.permanent ∙ permanent)

pub returns-in-Err-clause-cleared : goal.returns-in-Err-clause-cleared
returns-in-Err-clause-cleared g c = λ permanent. c.make_up.ensures.cleared (c.marks-clears.ensures.permanent ∙ permanent)

pub returns-clause-cost : goal.returns-clause-cost
returns-clause-cost g c = most_cost c.marks-clears.result.permanent _ _ _ _ c.make_up.ensures.cost

pub returns-in-Err-clause-cost : goal.returns-in-Err-clause-cost
returns-in-Err-clause-cost g c = most_cost c.marks-clears.result.permanent _ _ _ _ c.make_up.ensures.cost
