use Rattle.documents.proofs.StaysLemmas.{what_is_put_stays}
use Rattle.documents.proofs.laws.what_is_put_stays.Goals as goal

pub returns : goal.returns
returns c = what_is_put_stays
