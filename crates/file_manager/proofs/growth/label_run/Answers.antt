use Rattle.file_manager.proofs.ClearedRun.{as_cleared, as_named, label_fails}
use Rattle.file_manager.proofs.growth.label_run.Goals as goal
use Rattle.filer_kernel.specs.View.{accepted}

pub returns-in-Err-clause-sound : goal.returns-in-Err-clause-sound
returns-in-Err-clause-sound g c = λ m stands free ones. (rw c.swapper_over-swapper.ensures.value at c.in-Err.ensures.fails).sound m stands (free, ones)

pub returns-in-Err-make_pages-clause-sound : goal.returns-in-Err-make_pages-clause-sound
returns-in-Err-make_pages-clause-sound g c = λ m stands free ones. (rw c.swapper_over-swapper.ensures.value at c.in-Err-make_pages.ensures.fails).sound m stands (free, ones)

pub returns-in-Err-clause-fails : goal.returns-in-Err-clause-fails
returns-in-Err-clause-fails g c =
    let some = rw c.swapper_over-swapper.ensures.value at c.in-Err.ensures.stopped in
    label_fails c.args.run.sector c.args.run.pages (accepted c.args.filer.now) c.requires.size some.makes.went.sectors c.requires.data c.requires.inside (rw c.swapper_over-swapper.ensures.value at c.in-Err.ensures.fails)

pub returns-in-Err-make_pages-clause-fails : goal.returns-in-Err-make_pages-clause-fails
returns-in-Err-make_pages-clause-fails g c =
    let some = rw c.swapper_over-swapper.ensures.value at c.in-Err-make_pages.ensures.stopped in
    label_fails c.args.run.sector c.args.run.pages (accepted c.args.filer.now) c.requires.size some.makes.went.sectors c.requires.data c.requires.inside (rw c.swapper_over-swapper.ensures.value at c.in-Err-make_pages.ensures.fails)

pub returns-in-Err-make_pages-clause-writes : goal.returns-in-Err-make_pages-clause-writes
returns-in-Err-make_pages-clause-writes g c = as_named (rw c.swapper_over-swapper.ensures.value at c.in-Err-make_pages.ensures.stopped)

pub returns-in-Ok-make_pages-clause-writes : goal.returns-in-Ok-make_pages-clause-writes
returns-in-Ok-make_pages-clause-writes g c = as_cleared (rw c.swapper_over-swapper.ensures.value at c.in-Ok-make_pages.ensures.made)
