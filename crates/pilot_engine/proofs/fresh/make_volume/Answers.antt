use Rattle.pilot_engine.proofs.FreshLemmas.{failed_alone}
use Rattle.pilot_engine.proofs.fresh.make_volume.Goals as goal
use Rattle.filer_kernel.specs.View.{view_of}

pub returns-in-Err-clause-part : goal.returns-in-Err-clause-part
returns-in-Err-clause-part g c =
    let given = c.in-Err.ensures in
    let part = rw c.disk_over-disk.ensures.value at given.part in
    let bad_count = rw c.disk_over-disk.ensures.value at given.count.bad_count in
    part (failed_alone (view_of c.args.filer.now).disk.sectors c.requires.count c.in-Err.field-0 given.err bad_count)
