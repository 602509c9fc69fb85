use Rattle.pair_session.proofs.LineLemmas.{answers_are_transcripts, answers_suit}
use Rattle.pair_session.proofs.laws.answers_are_transcripts.Goals as goal

pub returns-clause-transcripts : goal.returns-clause-transcripts
returns-clause-transcripts c = answers_are_transcripts

pub returns-clause-suit : goal.returns-clause-suit
returns-clause-suit c = answers_suit
