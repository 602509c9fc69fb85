use Rattle.std.proofs.Common.{subst}
use Rattle.labelled_disk.specs.declared.disk.DiskWrite.{DiskWrite}
use Rattle.labelled_disk.specs.Calls.{Writes}
use Rattle.volume_root.proofs.NewSectors.{bare_write}
use Rattle.volume_root.proofs.formatting.write_sector.Goals as goal

pub returns-then-is_bare : goal.returns-then-is_bare
returns-then-is_bare g c =
    subst (λ (w : DiskWrite). Writes w (g.D.Disk.state c.args.disk.now) c.write.result (g.D.Disk.state c.write.new.self))
    (bare_write c.args.layout.now c.args.sector c.args.zeros.now (c.is_bare.ensures c.if-is_bare.true) c.requires.zeros) c.write.ensures
