use Rattle.labelled_disk.proofs.RunLemmas as laws
use Rattle.labelled_disk.proofs.laws.runs_go_one_way.Goals as goal

pub returns-clause-files : goal.returns-clause-files
returns-clause-files c with_temporary serial counter = record {
  creation_unseen = laws.creation_unseen with_temporary serial counter;
  growth_crash_states = laws.growth_crash_states with_temporary serial counter;
  creation_crash_states = laws.creation_crash_states with_temporary serial counter;
  shrinking_crash_states = laws.shrinking_crash_states with_temporary serial counter;
  deletion_crash_states = laws.deletion_crash_states with_temporary serial counter;
}

pub returns-clause-volume : goal.returns-clause-volume
returns-clause-volume c with_temporary = laws.data_runs with_temporary

pub returns-clause-sectors : goal.returns-clause-sectors
returns-clause-sectors c = laws.sectors_stay
