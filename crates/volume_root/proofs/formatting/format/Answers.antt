use Rattle.volume_root.proofs.FormatCuts.{same_volume, made_contents, made_all, made_part, cuts_made}
use Rattle.volume_root.proofs.formatting.format.Goals as goal

pub returns-in_err-make_volume-clause-cuts : goal.returns-in_err-make_volume-clause-cuts
returns-in_err-make_volume-clause-cuts g c =
    let layout = c.in_ok-layout.layout in
    let part = c.in_err-make_volume.ensures.part in
    cuts_made _ (g.D.Disk.state c.args.disk.now) (g.D.Disk.state c.make_volume.new.disk) c.args.serial c.args.counter
    (same_volume layout c.sectors.result (g.D.Disk.state c.args.disk.now).sectors c.args.serial c.args.counter c.in_ok-layout.ensures.layout.1 c.sectors.ensures)
    (g.met.D.Disk.whole c.args.disk.now) part.0 part.1

pub returns-clause-contents : goal.returns-clause-contents
returns-clause-contents g c =
    made_contents _ (g.D.Disk.state c.args.disk.now) (g.D.Disk.state c.make_volume.new.disk) c.args.serial c.args.counter
    (same_volume c.in_ok-layout.layout c.sectors.result (g.D.Disk.state c.args.disk.now).sectors c.args.serial c.args.counter c.in_ok-layout.ensures.layout.1 c.sectors.ensures)
    (g.met.D.Disk.whole c.args.disk.now) c.in_ok-make_volume.ensures.made

pub returns-clause-cuts : goal.returns-clause-cuts
returns-clause-cuts g c =
    cuts_made _ (g.D.Disk.state c.args.disk.now) (g.D.Disk.state c.make_volume.new.disk) c.args.serial c.args.counter
    (same_volume c.in_ok-layout.layout c.sectors.result (g.D.Disk.state c.args.disk.now).sectors c.args.serial c.args.counter c.in_ok-layout.ensures.layout.1 c.sectors.ensures)
    (g.met.D.Disk.whole c.args.disk.now) _ c.in_ok-make_volume.ensures.made

pub returns-clause-made : goal.returns-clause-made
returns-clause-made g c =
    made_all _ (g.D.Disk.state c.args.disk.now) (g.D.Disk.state c.make_volume.new.disk) c.args.serial c.args.counter
    (same_volume c.in_ok-layout.layout c.sectors.result (g.D.Disk.state c.args.disk.now).sectors c.args.serial c.args.counter c.in_ok-layout.ensures.layout.1 c.sectors.ensures)
    (g.met.D.Disk.whole c.args.disk.now) c.in_ok-make_volume.ensures.made

pub returns-in_err-make_volume-clause-part : goal.returns-in_err-make_volume-clause-part
returns-in_err-make_volume-clause-part g c = λ failed.
    let part = c.in_err-make_volume.ensures.part in
    made_part _ (g.D.Disk.state c.args.disk.now) (g.D.Disk.state c.make_volume.new.disk) c.args.serial c.args.counter
    (same_volume c.in_ok-layout.layout c.sectors.result (g.D.Disk.state c.args.disk.now).sectors c.args.serial c.args.counter c.in_ok-layout.ensures.layout.1 c.sectors.ensures)
    (g.met.D.Disk.whole c.args.disk.now) part.0 part.1
