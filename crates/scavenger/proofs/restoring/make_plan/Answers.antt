use Rattle.std.proofs.Common.{◌∙◌, sym}
use Rattle.scavenger.proofs.LayoutLemmas.{of_layout}
use Rattle.scavenger.proofs.restoring.make_plan.Goals as goal

pub returns-in-Ok-plan_of-clause-plan : goal.returns-in-Ok-plan_of-clause-plan
returns-in-Ok-plan_of-clause-plan g c = λ d revealed is.
    let parts = of_layout c.args.layout.now (g.D.Disk.state c.args.disk.now).sectors c.requires.layout in
    c.in-Ok-plan_of.ensures.plan d (record { sectors = g.met.D.Disk.whole c.args.disk.now d revealed ∙ sym parts.sectors; are = c.in-Ok-read_labels.ensures.labels d revealed }) is

pub returns-in-Ok-plan_of-clause-report : goal.returns-in-Ok-plan_of-clause-report
returns-in-Ok-plan_of-clause-report g c = λ d revealed.
    let parts = of_layout c.args.layout.now (g.D.Disk.state c.args.disk.now).sectors c.requires.layout in
    c.in-Ok-plan_of.ensures.report d (record { sectors = g.met.D.Disk.whole c.args.disk.now d revealed ∙ sym parts.sectors; are = c.in-Ok-read_labels.ensures.labels d revealed })
