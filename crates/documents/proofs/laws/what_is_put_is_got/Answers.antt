use Rattle.documents.proofs.LawLemmas.{what_is_put_is_got}
use Rattle.documents.proofs.laws.what_is_put_is_got.Goals as goal

pub returns : goal.returns
returns c = what_is_put_is_got
