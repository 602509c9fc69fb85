use Rattle.scavenger.proofs.CarryLemmas.{IsSoFar}
use Rattle.scavenger.proofs.writing.free_sectors.Given as goal

abbrev pub invariant-loop-i : goal.invariant-loop-i
invariant-loop-i g l = IsSoFar l.first l.sector_states (g.D.Disk.state l.fn.disk) (g.D.Disk.state l.disk) l.i
