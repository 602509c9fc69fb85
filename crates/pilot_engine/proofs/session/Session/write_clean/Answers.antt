use Rattle.std.proofs.Common.{rules, ◌⊎◌, inr, ◌∙◌, subst}
use Rattle.labelled_disk.specs.Calls.{Moves, RevealsSame, RevealsWrite}
use Rattle.volume_root.specs.declared.root.Root.{Root}
use Rattle.volume_root.specs.RootPage.{root_write}
use Rattle.pilot_engine.proofs.EndLemmas.{closed_valid, reveals_shut, valid_at}
use Rattle.pilot_engine.proofs.ShutBySyncLemmas.{sets_flag}
use Rattle.pilot_engine.proofs.ShutLemmas.{any_root}
use Rattle.pilot_engine.proofs.TableStops.{stops_root}
use Rattle.pilot_engine.proofs.SparedCalls.{spares_root}
use Rattle.pilot_engine.proofs.session.Session.write_clean.Goals as goal
use Rattle.filer_kernel.specs.View.{disk_of, view_of}
use Rattle.fault_core.specs.Core.{state}

pub returns-in-Ok-clause-made : goal.returns-in-Ok-clause-made
returns-in-Ok-clause-made g c = λ m ready.
    let r = c.args.self.now.volume.root in
    let wrote : RevealsWrite (root_write c.closed-root.result) (state c.args.self.now.core).disk (g.D.Disk.state c.write_root.new.disk) = search rules in
    let made = subst (λ (w : Root). RevealsWrite (root_write w) (state c.args.self.now.core).disk (g.D.Disk.state c.write_root.new.disk)) c.closed-root.ensures.closed wrote in
    let long = g.met.D.Disk.whole (disk_of c.args.self.now.core.filer) ready.sectors ready.revealed ∙ c.requires.set_up.size in
    reveals_shut m r _ _ ready (valid_at _ _ r long c.requires.set_up.opened.valid) made

pub returns-in-Ok-clause-wrote : goal.returns-in-Ok-clause-wrote
returns-in-Ok-clause-wrote g c =
    let filer = c.args.self.now.core.filer in
    let r = c.args.self.now.volume.root in
    let old = (view_of filer).disk in
    let new = g.D.Disk.state c.write_root.new.disk in
    let wrote : RevealsWrite (root_write c.closed-root.result) old new = search rules in
    let made = subst (λ (w : Root). RevealsWrite (root_write w) old new) c.closed-root.ensures.closed wrote in
    let moves : Moves old new = search rules in
    any_root old new (view_of filer).slots (view_of filer).layout.sectors r (closed_valid _ r c.requires.set_up.opened.valid) c.closed-root.ensures.serial c.closed-root.ensures.counter
    (λ d revealed. g.met.D.Disk.whole (disk_of filer) d revealed ∙ c.requires.set_up.size) moves (inr made)

pub returns-in-Err-clause-wrote : goal.returns-in-Err-clause-wrote
returns-in-Err-clause-wrote g c =
    let filer = c.args.self.now.core.filer in
    let r = c.args.self.now.volume.root in
    let old = (view_of filer).disk in
    let new = g.D.Disk.state c.write_root.new.disk in
    let wrote : RevealsSame old new ⊎ RevealsWrite (root_write c.closed-root.result) old new = search rules in
    let either = subst (λ (w : Root). RevealsSame old new ⊎ RevealsWrite (root_write w) old new) c.closed-root.ensures.closed wrote in
    let moves : Moves old new = search rules in
    any_root old new (view_of filer).slots (view_of filer).layout.sectors r (closed_valid _ r c.requires.set_up.opened.valid) c.closed-root.ensures.serial c.closed-root.ensures.counter
    (λ d revealed. g.met.D.Disk.whole (disk_of filer) d revealed ∙ c.requires.set_up.size) moves either

pub returns-in-Ok-clause-stops : goal.returns-in-Ok-clause-stops
returns-in-Ok-clause-stops g c = λ m ready start.
    let r = c.args.self.now.volume.root in
    let old = (state c.args.self.now.core).disk in
    let new = g.D.Disk.state c.write_root.new.disk in
    let wrote : RevealsWrite (root_write c.closed-root.result) old new = search rules in
    let made = subst (λ (w : Root). RevealsWrite (root_write w) old new) c.closed-root.ensures.closed wrote in
    let long = g.met.D.Disk.whole (disk_of c.args.self.now.core.filer) ready.sectors ready.revealed ∙ c.requires.set_up.size in
    stops_root m r old new ready (valid_at _ _ r long c.requires.set_up.opened.valid) start (inr made)

pub returns-in-Err-clause-stops : goal.returns-in-Err-clause-stops
returns-in-Err-clause-stops g c =
    let r = c.args.self.now.volume.root in
    let old = (state c.args.self.now.core).disk in
    let new = g.D.Disk.state c.write_root.new.disk in
    let wrote : RevealsSame old new ⊎ RevealsWrite (root_write c.closed-root.result) old new = search rules in
    let either = subst (λ (w : Root). RevealsSame old new ⊎ RevealsWrite (root_write w) old new) c.closed-root.ensures.closed wrote in
    λ m ready start.
    let long = g.met.D.Disk.whole (disk_of c.args.self.now.core.filer) ready.sectors ready.revealed ∙ c.requires.set_up.size in
    stops_root m r old new ready (valid_at _ _ r long c.requires.set_up.opened.valid) start either

pub returns-in-Ok-clause-sets : goal.returns-in-Ok-clause-sets
returns-in-Ok-clause-sets g c = λ m ready.
    let r = c.args.self.now.volume.root in
    let old = (state c.args.self.now.core).disk in
    let new = g.D.Disk.state c.write_root.new.disk in
    let wrote : RevealsWrite (root_write c.closed-root.result) old new = search rules in
    let made = subst (λ (w : Root). RevealsWrite (root_write w) old new) c.closed-root.ensures.closed wrote in
    let long = g.met.D.Disk.whole (disk_of c.args.self.now.core.filer) ready.sectors ready.revealed ∙ c.requires.set_up.size in
    sets_flag m r old new ready (valid_at _ _ r long c.requires.set_up.opened.valid) (inr made)

pub returns-in-Err-clause-sets : goal.returns-in-Err-clause-sets
returns-in-Err-clause-sets g c =
    let r = c.args.self.now.volume.root in
    let old = (state c.args.self.now.core).disk in
    let new = g.D.Disk.state c.write_root.new.disk in
    let wrote : RevealsSame old new ⊎ RevealsWrite (root_write c.closed-root.result) old new = search rules in
    let either = subst (λ (w : Root). RevealsSame old new ⊎ RevealsWrite (root_write w) old new) c.closed-root.ensures.closed wrote in
    λ m ready.
    let long = g.met.D.Disk.whole (disk_of c.args.self.now.core.filer) ready.sectors ready.revealed ∙ c.requires.set_up.size in
    sets_flag m r old new ready (valid_at _ _ r long c.requires.set_up.opened.valid) either

-- ---- Which files are spared.

pub returns-in-Ok-clause-spares : goal.returns-in-Ok-clause-spares
returns-in-Ok-clause-spares g c =
    let old = (view_of c.args.self.now.core.filer).disk in
    let new = g.D.Disk.state c.write_root.new.disk in
    let wrote : RevealsWrite (root_write c.closed-root.result) old new = search rules in
    spares_root _ _ (inr wrote)

pub returns-in-Err-clause-spares : goal.returns-in-Err-clause-spares
returns-in-Err-clause-spares g c =
    let old = (view_of c.args.self.now.core.filer).disk in
    let new = g.D.Disk.state c.write_root.new.disk in
    let wrote : RevealsSame old new ⊎ RevealsWrite (root_write c.closed-root.result) old new = search rules in
    spares_root _ _ wrote
