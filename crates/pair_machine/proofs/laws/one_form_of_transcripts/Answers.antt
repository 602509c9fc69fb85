use Rattle.pair_machine.proofs.TranscriptLemmas.{allowed, same}
use Rattle.pair_machine.proofs.laws.one_form_of_transcripts.Goals as goal

pub returns-clause-allowed : goal.returns-clause-allowed
returns-clause-allowed c = allowed

pub returns-clause-same : goal.returns-clause-same
returns-clause-same c = same
