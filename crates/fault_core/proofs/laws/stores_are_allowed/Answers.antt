use Rattle.fault_core.proofs.AnswerLemmas.{stores_answered, stores_lead}
use Rattle.fault_core.proofs.laws.stores_are_allowed.Goals as goal

pub returns : goal.returns
returns c = record { reply = stores_answered; next = stores_lead }
