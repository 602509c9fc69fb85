use Rattle.labelled_disk.proofs.WriteLemmas as writes
use Rattle.label_laws.proofs.FileLemmas as laws
use Rattle.label_laws.proofs.LeaderLemmas as leaders
use Rattle.label_laws.proofs.laws.any_disk_keeps_files.Goals as goal

pub returns-clause-any : goal.returns-clause-any
returns-clause-any c with_temporary = record { low = laws.low_leaves with_temporary; page = laws.page_leaves with_temporary; maps = writes.maps_files with_temporary 0 0; reserved = laws.reserved_have_none with_temporary; leader = laws.leader_added with_temporary }

pub returns-clause-leader : goal.returns-clause-leader
returns-clause-leader c with_temporary serial counter = leaders.leader_right with_temporary serial counter
