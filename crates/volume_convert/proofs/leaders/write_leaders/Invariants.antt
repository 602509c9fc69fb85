use Rattle.volume_convert.proofs.LeaderRuns.{IsSoFar}
use Rattle.volume_convert.proofs.leaders.write_leaders.Given as goal

abbrev pub invariant-loop-i : goal.invariant-loop-i
invariant-loop-i g l = IsSoFar l.first l.sector_states l.heads (g.D.Disk.state l.fn.disk) (g.D.Disk.state l.disk) l.i l.placed
