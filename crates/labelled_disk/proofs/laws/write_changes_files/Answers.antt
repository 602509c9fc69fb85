use Rattle.labelled_disk.proofs.WriteLemmas as laws
use Rattle.labelled_disk.proofs.laws.write_changes_files.Goals as goal

pub returns : goal.returns
returns c with_temporary serial counter = record {
  created = laws.file_created with_temporary serial counter;
  page = laws.page_written with_temporary serial counter;
  temporary = laws.temporary_written with_temporary serial counter;
  grown = laws.file_grown with_temporary serial counter;
  last_page = laws.last_page_freed with_temporary serial counter;
  leader = laws.leader_freed with_temporary serial counter;
  appears = laws.made_permanent with_temporary serial counter;
  marked = laws.leader_marked with_temporary serial counter;
  low = laws.low_written with_temporary serial counter;
  plain = laws.plain_written with_temporary serial counter;
  maps = laws.maps_may_differ with_temporary serial counter;
  raised = laws.counter_raised with_temporary serial counter;
}
