use Rattle.cut_words.proofs.LastSyncLemmas.{sync_laws}
use Rattle.cut_words.proofs.laws.last_sync_is_greatest.Goals as goal

pub returns : goal.returns
returns c = sync_laws
