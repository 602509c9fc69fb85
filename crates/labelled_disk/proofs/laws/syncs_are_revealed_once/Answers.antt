use Rattle.labelled_disk.proofs.SyncLemmas.{syncing_laws}
use Rattle.labelled_disk.proofs.laws.syncs_are_revealed_once.Goals as goal

pub returns : goal.returns
returns c = syncing_laws
