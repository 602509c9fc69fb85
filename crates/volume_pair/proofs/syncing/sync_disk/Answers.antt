use Rattle.std.proofs.Common.{rules}
use Rattle.labelled_disk.specs.Calls.{Syncs}
use Rattle.swapper_kernel.specs.SyncLaws.{synced_swaps}
use Rattle.label_calls.proofs.SyncedCalls.{synced_there}
use Rattle.filer_kernel.specs.View.{view_of}
use Rattle.volume_pair.proofs.syncing.sync_disk.Goals as goal

pub returns-in-Ok-clause-swaps : goal.returns-in-Ok-clause-swaps
returns-in-Ok-clause-swaps g c =
    let syncs : Syncs (view_of c.args.filer.now).disk c.sync.result (g.D.Disk.state c.sync.new.self) = search rules in
    synced_swaps (view_of c.args.filer.now).disk (g.D.Disk.state c.sync.new.self) c.sync.result (view_of c.args.filer.now).slots syncs

pub returns-in-Err-clause-swaps : goal.returns-in-Err-clause-swaps
returns-in-Err-clause-swaps g c =
    let syncs : Syncs (view_of c.args.filer.now).disk c.sync.result (g.D.Disk.state c.sync.new.self) = search rules in
    synced_swaps (view_of c.args.filer.now).disk (g.D.Disk.state c.sync.new.self) c.sync.result (view_of c.args.filer.now).slots syncs

pub returns-in-Ok-clause-there : goal.returns-in-Ok-clause-there
returns-in-Ok-clause-there g c = synced_there (view_of c.args.filer.now).disk (g.D.Disk.state c.sync.new.self) (rw c.disk_over-disk.ensures.value at c.in-Ok.ensures.sync_counts)
