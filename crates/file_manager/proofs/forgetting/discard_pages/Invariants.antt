use Rattle.std.proofs.Common.{◌≡◌}
use Rattle.file_manager.specs.Forgetting.{Forgets}
use Rattle.file_manager.proofs.forgetting.discard_pages.Given as goal

-- the frames of the pages up to this one are given up
abbrev pub invariant-loop-page : goal.invariant-loop-page
invariant-loop-page g l =
    Forgets l.fn.id l.fn.first l.page l.fn.memory.layout (g.D.Disk.state l.fn.memory.disk) l.fn.memory.pool l.memory.pool
    × (l.memory.disk ≡ l.fn.memory.disk) × (l.memory.layout ≡ l.fn.memory.layout)
