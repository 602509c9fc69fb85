-- Both are computed.
use Rattle.std.proofs.Common.{refl}
use Rattle.trace_maker.specs.Drawn.{number_after}
use Rattle.trace_maker.proofs.laws.first_call_sets_units.Goals as goal

pub returns-clause-value : goal.returns-clause-value
unfolding number_after
returns-clause-value c = refl

pub returns-clause-call : goal.returns-clause-call
unfolding number_after
returns-clause-call c = (_, _, refl)
