use Rattle.std.proofs.Common.{take}
use Rattle.volume_view.specs.Marks.{AreMarks}
use Rattle.volume_view.proofs.once.mark_pages.Given as goal

-- the pages before this one are marked
abbrev pub invariant-loop-j : goal.invariant-loop-j
invariant-loop-j g l = AreMarks l.top (take l.j l.used) l.marks.items
