use Rattle.write_queue.specs.Queue.{view_of}
use Rattle.write_queue.proofs.QueueLemmas.{synced_beneath}
use Rattle.write_queue.proofs.queue.QueueOver.into_disk.Goals as goal

pub returns-clause-synced : goal.returns-clause-synced
returns-clause-synced g c is = synced_beneath (view_of c.args.self) c.args.self.transfers is
