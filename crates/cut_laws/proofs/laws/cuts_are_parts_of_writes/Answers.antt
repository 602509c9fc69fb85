use Rattle.cut_laws.proofs.MixLemmas as mixes
use Rattle.cut_laws.proofs.CutLemmas as cuts
use Rattle.cut_laws.proofs.SyncLemmas as syncs
use Rattle.cut_laws.proofs.laws.cuts_are_parts_of_writes.Goals as goal

pub returns-clause-cuts : goal.returns-clause-cuts
returns-clause-cuts c = cuts.cut_laws

pub returns-clause-windows : goal.returns-clause-windows
returns-clause-windows c = cuts.window_laws

pub returns-clause-syncs : goal.returns-clause-syncs
returns-clause-syncs c = syncs.sync_laws

pub returns-clause-mixes : goal.returns-clause-mixes
returns-clause-mixes c = mixes.mix_laws
