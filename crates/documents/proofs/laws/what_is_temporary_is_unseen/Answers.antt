use Rattle.documents.proofs.BesideLemmas.{settled_beside}
use Rattle.documents.proofs.laws.what_is_temporary_is_unseen.Goals as goal

pub returns : goal.returns
returns c = settled_beside
