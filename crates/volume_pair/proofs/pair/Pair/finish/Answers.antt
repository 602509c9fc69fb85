use Rattle.filer_kernel.specs.View.{view_of}
use Rattle.volume_pair.proofs.EndLemmas.{written_on}
use Rattle.volume_pair.proofs.pair.Pair.finish.Goals as goal

pub returns-clause-closed : goal.returns-clause-closed
returns-clause-closed g c = λ p h. rw c.into_disks-from.ensures.to (c.close_second-ended.ensures.closed p h.second h.to_is h.root)

pub returns-clause-to : goal.returns-clause-to
returns-clause-to g c = rw c.into_disks-from.ensures.to (written_on (view_of c.args.self.to) (view_of c.close_second-ended.new.to) c.close_second-ended.ensures.writes)

pub returns-clause-crash_states : goal.returns-clause-crash_states
returns-clause-crash_states g c = λ p h. rw c.into_disks-from.ensures.to (c.close_second-ended.ensures.crash_states p h.second h.to_is h.root)
