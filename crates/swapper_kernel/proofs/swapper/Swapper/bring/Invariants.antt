use Rattle.swapper_kernel.proofs.BringLemmas.{IsBringing}
use Rattle.swapper_kernel.proofs.swapper.Swapper.bring.Given as goal

abbrev pub invariant-loop-k : goal.invariant-loop-k
invariant-loop-k g l = IsBringing l.fn.homes (g.D.Disk.state l.fn.self.disk) l.fn.self.pool l.fn.self.layout (g.D.Disk.state l.self.disk) l.self.pool l.self.layout l.k
