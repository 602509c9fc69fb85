use Rattle.label_calls.proofs.ClearingLemmas.{IsClearing}
use Rattle.label_calls.proofs.cleared.clear_pages.Given as goal

abbrev pub invariant-loop-k : goal.invariant-loop-k
invariant-loop-k g l =
    IsClearing l.fn.sector l.fn.pages l.k (g.D.Disk.state l.fn.memory.disk) l.fn.memory.pool l.fn.memory.layout (g.D.Disk.state l.memory.disk) l.memory.pool l.memory.layout
