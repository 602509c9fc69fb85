use Rattle.std.proofs.Common.{◌≡◌, rules}
use Rattle.labelled_disk.specs.Syncing.{synced_by}
use Rattle.labelled_disk.specs.Calls.{Syncs}
use Rattle.swapper_kernel.specs.SyncLaws.{synced_went, synced_swaps}
use Rattle.label_calls.proofs.SyncedCalls.{synced_there}
use Rattle.label_calls.proofs.label.sync.Goals as goal

pub returns-in-Ok-clause-synced : goal.returns-in-Ok-clause-synced
returns-in-Ok-clause-synced g c =
    let syncs : Syncs (g.D.Disk.state c.args.memory.now.disk) c.sync.result (g.D.Disk.state c.sync.new.self) = search rules in
    let made : (g.D.Disk.state c.sync.new.self).syncs ≡ synced_by (g.D.Disk.state c.args.memory.now.disk).writes (g.D.Disk.state c.args.memory.now.disk).syncs = search rules in
    synced_there (g.D.Disk.state c.args.memory.now.disk) (g.D.Disk.state c.sync.new.self) made

pub returns-in-Ok-clause-went : goal.returns-in-Ok-clause-went
returns-in-Ok-clause-went g c =
    let syncs : Syncs (g.D.Disk.state c.args.memory.now.disk) c.sync.result (g.D.Disk.state c.sync.new.self) = search rules in
    synced_went _ _ c.sync.result syncs

pub returns-in-Err-clause-went : goal.returns-in-Err-clause-went
returns-in-Err-clause-went g c =
    let syncs : Syncs (g.D.Disk.state c.args.memory.now.disk) c.sync.result (g.D.Disk.state c.sync.new.self) = search rules in
    synced_went _ _ c.sync.result syncs

pub returns-in-Ok-clause-makes : goal.returns-in-Ok-clause-makes
returns-in-Ok-clause-makes g c =
    let syncs : Syncs (g.D.Disk.state c.args.memory.now.disk) c.sync.result (g.D.Disk.state c.sync.new.self) = search rules in
    (synced_swaps _ _ c.sync.result c.args.memory.now.pool syncs).makes

pub returns-in-Err-clause-makes : goal.returns-in-Err-clause-makes
returns-in-Err-clause-makes g c =
    let syncs : Syncs (g.D.Disk.state c.args.memory.now.disk) c.sync.result (g.D.Disk.state c.sync.new.self) = search rules in
    (synced_swaps _ _ c.sync.result c.args.memory.now.pool syncs).makes
