use Rattle.projection_laws.proofs.RevealLemmas as lemmas
use Rattle.projection_laws.proofs.laws.intervals_reveal.Goals as goal

pub returns : goal.returns
returns c = lemmas.intervals_reveal
