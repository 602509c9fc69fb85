use Rattle.std.proofs.Common.{◌≡◌}
use Rattle.force_calls.proofs.LoopLemmas.{IsForgetting}
use Rattle.force_calls.proofs.calls.discard.Given as goal

abbrev pub invariant-loop-look : goal.invariant-loop-look
invariant-loop-look g l =
    IsForgetting l.by_page l.fn.id l.fn.first l.fn.pages (g.D.Disk.state l.fn.memory.disk) l.fn.memory.pool (g.D.Disk.state l.memory.disk) l.memory.pool l.look
    × (l.memory.disk ≡ l.fn.memory.disk) × (l.memory.layout ≡ l.fn.memory.layout)
