use Rattle.label_laws.proofs.StayLemmas as laws
use Rattle.label_laws.proofs.laws.permanent_files_stay.Goals as goal

pub returns : goal.returns
returns c = laws.stay_laws
