use Rattle.std.proofs.Common.{◌⊎◌, ◌∙◌, inr, rules, subst}
use Rattle.labelled_disk.specs.Calls.{Moves, RevealsSame, RevealsWrite}
use Rattle.volume_root.specs.declared.root.Root.{Root}
use Rattle.volume_root.specs.RootPage.{root_write}
use Rattle.filer_kernel.specs.View.{disk_of, view_of}
use Rattle.volume_pair.proofs.EndLemmas.{closed_valid, root_either}
use Rattle.volume_pair.proofs.OwnedLemmas.{own_each}
use Rattle.volume_pair.proofs.ending.write_closed.Goals as goal

pub returns-in-Ok-clause-made : goal.returns-in-Ok-clause-made
returns-in-Ok-clause-made g c =
    let old = (view_of c.args.filer.now).disk in
    let new = g.D.Disk.state c.write_root.new.disk in
    let wrote : RevealsWrite (root_write c.closed.result) old new = search rules in
    subst (λ (w : Root). RevealsWrite (root_write w) old new) c.closed.ensures.root wrote

pub returns-in-Ok-clause-writes : goal.returns-in-Ok-clause-writes
returns-in-Ok-clause-writes g c =
    let filer = c.args.filer.now in
    let r = c.args.root in
    let old = (view_of filer).disk in
    let new = g.D.Disk.state c.write_root.new.disk in
    let wrote : RevealsWrite (root_write c.closed.result) old new = search rules in
    let made = subst (λ (w : Root). RevealsWrite (root_write w) old new) c.closed.ensures.root wrote in
    let moves : Moves old new = search rules in
    let both = root_either old new (view_of filer).slots (view_of filer).layout.sectors r (closed_valid _ r c.requires.valid) c.closed.ensures.serial c.closed.ensures.counter
    (λ d revealed. g.met.D.Disk.whole (disk_of filer) d revealed ∙ c.requires.size) moves (inr made) in
    record { labels = both.0; makes = both.1; own = own_each both.1.wrote both.2 }

pub returns-in-Err-clause-writes : goal.returns-in-Err-clause-writes
returns-in-Err-clause-writes g c =
    let filer = c.args.filer.now in
    let r = c.args.root in
    let old = (view_of filer).disk in
    let new = g.D.Disk.state c.write_root.new.disk in
    let wrote : RevealsSame old new ⊎ RevealsWrite (root_write c.closed.result) old new = search rules in
    let either = subst (λ (w : Root). RevealsSame old new ⊎ RevealsWrite (root_write w) old new) c.closed.ensures.root wrote in
    let moves : Moves old new = search rules in
    let both = root_either old new (view_of filer).slots (view_of filer).layout.sectors r (closed_valid _ r c.requires.valid) c.closed.ensures.serial c.closed.ensures.counter
    (λ d revealed. g.met.D.Disk.whole (disk_of filer) d revealed ∙ c.requires.size) moves either in
    record { labels = both.0; makes = both.1; own = own_each both.1.wrote both.2 }

pub returns-in-Err-clause-made : goal.returns-in-Err-clause-made
returns-in-Err-clause-made g c =
    let old = (view_of c.args.filer.now).disk in
    let new = g.D.Disk.state c.write_root.new.disk in
    let wrote : RevealsSame old new ⊎ RevealsWrite (root_write c.closed.result) old new = search rules in
    subst (λ (w : Root). RevealsSame old new ⊎ RevealsWrite (root_write w) old new) c.closed.ensures.root wrote
