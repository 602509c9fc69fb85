use Rattle.session_words.proofs.OpenLemmas as laws
use Rattle.session_words.proofs.laws.volume_opened.Goals as goal

pub returns : goal.returns
returns c spaces_of = laws.opened_laws spaces_of
