use Rattle.documents.proofs.RefusedLemmas.{what_is_put_is_found}
use Rattle.documents.proofs.laws.what_is_put_is_found.Goals as goal

pub returns : goal.returns
returns c = what_is_put_is_found
