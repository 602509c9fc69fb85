use Rattle.std.proofs.Common.{rules, ◌<◌, ◌^◌}
use Rattle.write_queue.specs.Queue.{view_of, tally_of}
use Rattle.write_queue.proofs.StoppingLemmas.{starts_of}
use Rattle.write_queue.proofs.run_queue.RunQueue.over.Goals as goal

pub returns-in-Ok-clause-starts : goal.returns-in-Ok-clause-starts
returns-in-Ok-clause-starts g c =
    let few : c.faults-before.result < 2 ^ 64 = search rules in
    starts_of (g.D.Disk.state c.args.disk) c.args.room c.faults-before.result (view_of c.in-Ok.queue) (tally_of c.in-Ok.queue) c.faults-before.ensures few c.in-Ok.ensures.view c.in-Ok.ensures.tally
