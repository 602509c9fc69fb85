use Rattle.scavenger.proofs.RowLemmas.{carries_settled, carries_unsettled}
use Rattle.volume_convert.proofs.converting.finish.Goals as goal

pub returns-in_default-sync-clause-carries : goal.returns-in_default-sync-clause-carries
returns-in_default-sync-clause-carries g c = carries_unsettled _ _ _ _ _ _ c.in-Ok.ensures c.in_default-sync.ensures

pub returns-clause-carries : goal.returns-clause-carries
returns-clause-carries g c = carries_settled _ _ _ _ c.in-Ok.ensures c.in-Ok-sync.ensures
