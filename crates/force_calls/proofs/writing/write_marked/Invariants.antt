use Rattle.std.proofs.Common.{true}
use Rattle.force_calls.proofs.ForceLemmas.{IsForcing}
use Rattle.force_calls.proofs.writing.write_marked.Given as goal

abbrev pub invariant-loop-place : goal.invariant-loop-place
invariant-loop-place g l =
    IsForcing true l.run.id l.run.first l.run.pages (g.D.Disk.state l.fn.memory.disk) l.fn.memory.pool l.fn.memory.layout (g.D.Disk.state l.memory.disk) l.memory.pool l.memory.layout l.place
