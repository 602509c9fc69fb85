use Rattle.projection_laws.proofs.FitLemmas as lemmas
use Rattle.projection_laws.proofs.laws.windows_stay_fit.Goals as goal

pub returns : goal.returns
returns c = lemmas.windows_stay_fit
