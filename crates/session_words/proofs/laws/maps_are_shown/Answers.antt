use Rattle.session_words.proofs.ShownLemmas as laws
use Rattle.session_words.proofs.laws.maps_are_shown.Goals as goal

pub returns : goal.returns
returns c = laws.shown_laws
