use Rattle.volume_root.proofs.SectorRuns.{IsSoFar}
use Rattle.volume_root.proofs.formatting.write_sectors.Given as goal

abbrev pub invariant-loop-sector : goal.invariant-loop-sector
invariant-loop-sector g l = IsSoFar l.layout l.from (g.D.Disk.state l.fn.disk) (g.D.Disk.state l.disk) l.sector
