use Rattle.label_laws.proofs.TemporaryLemmas as laws
use Rattle.label_laws.proofs.laws.temporary_runs_are_unseen.Goals as goal

pub returns : goal.returns
returns c = laws.temporary_runs
