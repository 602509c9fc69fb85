use Rattle.file_manager.proofs.KeepSteps.{keeps_at, keeps_revealed}
use Rattle.file_manager.proofs.SyncSteps.{synced_alone}
use Rattle.file_manager.proofs.syncing.sync_disk.Goals as goal
use Rattle.filer_kernel.specs.View.{accepted}

pub returns-in-Ok-clause-synced : goal.returns-in-Ok-clause-synced
returns-in-Ok-clause-synced g c =
    let same = rw c.swapper_over-swapper.ensures.value at c.sync.ensures.same in
    let went = rw c.swapper_over-swapper.ensures.value at c.sync.ensures.went in
    synced_alone same went (rw c.swapper_over-swapper.ensures.value at c.in-Ok.ensures.synced)

pub returns-in-Ok-clause-keeps_to : goal.returns-in-Ok-clause-keeps_to
returns-in-Ok-clause-keeps_to g c = λ o named k.
    let same = rw c.swapper_over-swapper.ensures.value at c.sync.ensures.same in
    let makes = rw c.swapper_over-swapper.ensures.value at c.sync.ensures.makes in
    let frames = rw c.swapper_over-swapper.ensures.value at c.sync.ensures.frames in
    let lay = rw c.swapper_over-swapper.ensures.value at c.sync.ensures.layout in
    keeps_at c.args.filer.now.runs lay (keeps_revealed (accepted c.args.filer.now) k same makes frames)

pub returns-in-Err-clause-keeps_to : goal.returns-in-Err-clause-keeps_to
returns-in-Err-clause-keeps_to g c = λ o named k.
    let same = rw c.swapper_over-swapper.ensures.value at c.sync.ensures.same in
    let makes = rw c.swapper_over-swapper.ensures.value at c.sync.ensures.makes in
    let frames = rw c.swapper_over-swapper.ensures.value at c.sync.ensures.frames in
    let lay = rw c.swapper_over-swapper.ensures.value at c.sync.ensures.layout in
    keeps_at c.args.filer.now.runs lay (keeps_revealed (accepted c.args.filer.now) k same makes frames)
