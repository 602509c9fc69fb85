use Rattle.label_laws.proofs.CallerLemmas.{SoFar}
use Rattle.label_laws.proofs.callers.put_pages.Given as goal

abbrev pub invariant-loop-i : goal.invariant-loop-i
invariant-loop-i g l = SoFar (g.D.Disk.state l.fn.disk) (g.D.Disk.state l.disk)
