use Rattle.force_calls.proofs.ForceLemmas.{IsForcing}
use Rattle.force_calls.proofs.writing.write_each.Given as goal

abbrev pub invariant-loop-look : goal.invariant-loop-look
invariant-loop-look g l =
    IsForcing l.by_page l.run.id l.run.first l.run.pages (g.D.Disk.state l.fn.memory.disk) l.fn.memory.pool l.fn.memory.layout (g.D.Disk.state l.memory.disk) l.memory.pool l.memory.layout l.look
