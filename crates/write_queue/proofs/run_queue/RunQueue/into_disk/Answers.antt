use Rattle.write_queue.proofs.StoppingLemmas.{lies_beneath}
use Rattle.write_queue.proofs.run_queue.RunQueue.into_disk.Goals as goal

pub returns-clause-beneath : goal.returns-clause-beneath
returns-clause-beneath g c =
    let self = c.args.self in
    let queue = self.queue in
    rw c.into_disk.ensures.disk
    (lies_beneath (g.D.Disk.state queue.beneath) queue.entries.items queue.transfers queue.own queue.begun self.before queue.no_sync queue.changed queue.counted self.why self.once
    c.moved_beneath-moved.ensures.paid.moved (λ is. let stands = c.into_disk.ensures.synced is in (stands.contents, stands.synced)))
