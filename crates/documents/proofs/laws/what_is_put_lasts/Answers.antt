use Rattle.documents.proofs.LastsLemmas.{what_is_put_lasts}
use Rattle.documents.proofs.laws.what_is_put_lasts.Goals as goal

pub returns : goal.returns
returns c = what_is_put_lasts
