use Rattle.std.proofs.Common.{◌⊎◌, ◌∙◌, rules}
use Rattle.labelled_disk.specs.Calls.{Moves, RevealsSame, RevealsWrite}
use Rattle.volume_root.specs.RootPage.{root_write}
use Rattle.volume_root.proofs.WrittenLemmas.{root_read}
use Rattle.file_manager.proofs.RootForm.{root_goes, root_may}
use Rattle.file_manager.proofs.RootKeeps.{root_keeps}
use Rattle.file_manager.proofs.creating.write_over.Goals as goal
use Rattle.filer_kernel.specs.View.{accepted, disk_of, placed, view_of}

pub returns-in-Ok-clause-writes : goal.returns-in-Ok-clause-writes
returns-in-Ok-clause-writes g c =
    let old = (view_of c.args.filer.now).disk in
    let new = g.D.Disk.state c.write_root.new.disk in
    let made : RevealsWrite (root_write c.args.root) old new = search rules in
    let moves : Moves old new = search rules in
    root_goes old new (view_of c.args.filer.now).slots (view_of c.args.filer.now).layout c.args.root (accepted c.args.filer.now) (placed c.args.filer.now) c.requires.valid c.requires.serial c.requires.counter
    (λ d revealed. g.met.D.Disk.whole (disk_of c.args.filer.now) d revealed ∙ c.requires.size) moves made

pub returns-in-Err-clause-writes : goal.returns-in-Err-clause-writes
returns-in-Err-clause-writes g c =
    let old = (view_of c.args.filer.now).disk in
    let new = g.D.Disk.state c.write_root.new.disk in
    let either : RevealsSame old new ⊎ RevealsWrite (root_write c.args.root) old new = search rules in
    let moves : Moves old new = search rules in
    root_may old new (view_of c.args.filer.now).slots (view_of c.args.filer.now).layout c.args.root (accepted c.args.filer.now) (placed c.args.filer.now) c.requires.valid c.requires.serial c.requires.counter
    (λ d revealed. g.met.D.Disk.whole (disk_of c.args.filer.now) d revealed ∙ c.requires.size) moves either

pub returns-in-Ok-clause-keeps_to : goal.returns-in-Ok-clause-keeps_to
returns-in-Ok-clause-keeps_to g c = λ o named h below.
    root_keeps c.args.root (accepted c.args.filer.now) (root_read (view_of c.args.filer.now).layout.sectors c.args.root c.requires.valid c.requires.serial c.requires.counter) h below (returns-in-Ok-clause-writes g c)
