use Rattle.fault_core.proofs.AllowedLemmas.{loads_allowed}
use Rattle.fault_core.proofs.AnswerLemmas.{loads_answered}
use Rattle.fault_core.proofs.laws.loads_are_allowed.Goals as goal

pub returns : goal.returns
returns c = record { bytes = loads_allowed; reply = loads_answered }
