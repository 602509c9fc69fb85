use Rattle.client_events.proofs.AnswerLemmas.{runs, suit}
use Rattle.client_events.proofs.laws.answers_are_runs.Goals as goal

pub returns-clause-runs : goal.returns-clause-runs
returns-clause-runs c = runs

pub returns-clause-suit : goal.returns-clause-suit
returns-clause-suit c = suit
