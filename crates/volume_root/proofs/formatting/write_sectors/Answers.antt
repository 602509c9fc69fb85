use Rattle.std.proofs.Common.{◌≡◌, refl, arith}
use Rattle.volume_root.specs.Format.{new_sector}
use Rattle.volume_root.proofs.SectorRuns.{none_so_far, one_more, all_so_far, stopped}
use Rattle.volume_root.proofs.formatting.write_sectors.Goals as goal

pub loop-sector-init : goal.loop-sector-init
loop-sector-init g c = none_so_far c.args.layout.now c.args.from (g.D.Disk.state c.args.disk.now)

pub loop-sector-preserved : goal.loop-sector-preserved
loop-sector-preserved g c =
    one_more c.args.layout.now c.args.from c.loop-sector.sector (g.D.Disk.state c.args.disk.now) (g.D.Disk.state c.loop-sector.disk) (g.D.Disk.state c.write_sector.new.disk)
    (new_sector c.args.layout.now c.loop-sector.sector) c.loop-sector.invariant refl c.in-Ok.ensures.written c.write_sector.ensures.moves

pub returns-clause-made : goal.returns-clause-made
returns-clause-made g c =
    let end : c.loop-sector.sector ≡ c.args.to = omega (arith, c.loop-sector-test.false, c.loop-sector.auto.sector-end) in
    all_so_far c.args.layout.now c.args.from c.loop-sector.sector c.args.to (g.D.Disk.state c.args.disk.now) (g.D.Disk.state c.loop-sector.disk) c.loop-sector.invariant end

pub returns-in_default-clause-part : goal.returns-in_default-clause-part
returns-in_default-clause-part g c =
    stopped c.args.layout.now c.args.from c.loop-sector.sector (g.D.Disk.state c.args.disk.now) (g.D.Disk.state c.loop-sector.disk) (g.D.Disk.state c.write_sector.new.disk)
    (new_sector c.args.layout.now c.loop-sector.sector) c.loop-sector.invariant refl c.args.to c.loop-sector-test.true c.in_default.ensures.whole_or_absent
