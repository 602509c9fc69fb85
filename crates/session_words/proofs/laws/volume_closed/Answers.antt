use Rattle.session_words.proofs.CloseLemmas as laws
use Rattle.session_words.proofs.laws.volume_closed.Goals as goal

pub returns : goal.returns
returns c spaces_of = laws.closed_law spaces_of
