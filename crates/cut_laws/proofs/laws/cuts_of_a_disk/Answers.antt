use Rattle.cut_laws.proofs.DiskSyncLemmas.{disk_sync_laws, synced_has_no_other}
use Rattle.cut_laws.proofs.laws.cuts_of_a_disk.Goals as goal

pub returns-clause-syncs : goal.returns-clause-syncs
returns-clause-syncs c = disk_sync_laws

pub returns-clause-synced : goal.returns-clause-synced
returns-clause-synced c = synced_has_no_other
