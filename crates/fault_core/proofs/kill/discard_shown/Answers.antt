use Rattle.std.proofs.Common.{refl, ◌≤◌, ◌-◌, ap}
use Rattle.swapper_kernel.specs.HaltLaws.{brings_same}
use Rattle.fault_core.specs.Unit.{file_page}
use Rattle.filer_kernel.specs.View.{accepted, disk_of, placed, View, view_of}
use Rattle.fault_core.proofs.DiscardLemmas.{forgot_leaves, forgot_touches}
use Rattle.fault_core.proofs.kill.discard_shown.Goals as goal

pub returns-clause-left : goal.returns-clause-left
returns-clause-left g c =
    let v = view_of c.args.filer.now in
    let x : View = view_of {D = g.row.D.Denot} {A = g.row.A.Denot} {G = g.D.Disk} (record c.args.filer.now { swapper = c.discard.new.memory }) in
    forgot_leaves v x (accepted c.args.filer.now) c.args.x.now.id (file_page c.args.x.now c.args.page) (c.args.next - c.args.page) (c.requires.shows.shows.formed.shows c.requires.shows.shows.mapped).0 (placed c.args.filer.now)
    (ap g.D.Disk.state (rw c.swapper_over.ensures.value at c.discard.ensures.disk)) (rw c.swapper_over.ensures.value at c.discard.ensures.layout) refl
    (rw c.swapper_over.ensures.value at c.discard.ensures.left) (rw c.swapper_over.ensures.value at c.discard.ensures.run) (rw c.swapper_over.ensures.value at c.discard.ensures.goes)
    (g.met.D.Disk.in_form (disk_of c.args.filer.now))

pub returns-clause-touches : goal.returns-clause-touches
returns-clause-touches g c =
    let v = view_of c.args.filer.now in
    let x : View = view_of {D = g.row.D.Denot} {A = g.row.A.Denot} {G = g.D.Disk} (record c.args.filer.now { swapper = c.discard.new.memory }) in
    forgot_touches v x (accepted c.args.filer.now) c.args.x.now.id (file_page c.args.x.now c.args.page) (c.args.next - c.args.page) (c.requires.shows.shows.formed.shows c.requires.shows.shows.mapped).0 (placed c.args.filer.now)
    (ap g.D.Disk.state (rw c.swapper_over.ensures.value at c.discard.ensures.disk)) (rw c.swapper_over.ensures.value at c.discard.ensures.layout) refl
    (rw c.swapper_over.ensures.value at c.discard.ensures.left) (rw c.swapper_over.ensures.value at c.discard.ensures.run) (rw c.swapper_over.ensures.value at c.discard.ensures.goes)

pub returns-clause-came : goal.returns-clause-came
returns-clause-came g c = brings_same (λ home. (1 ≤ home.id) × (home.id ≤ 3)) (rw c.swapper_over.ensures.value at c.discard.ensures.run).frames
