use Rattle.documents.proofs.KeptLemmas.{what_is_kept_is_got}
use Rattle.documents.proofs.laws.what_is_kept_is_got.Goals as goal

pub returns : goal.returns
returns c = what_is_kept_is_got
