use Rattle.client_events.proofs.AnswerLemmas.{grow}
use Rattle.client_events.proofs.laws.answers_grow.Goals as goal

pub returns : goal.returns
returns c = grow
