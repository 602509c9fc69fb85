use Rattle.std.proofs.Common.{◌≡◌, ◌++◌, map, take}
use Rattle.volume_view.proofs.levels.add_pages.Given as goal

-- the pages before this one are added
abbrev pub invariant-loop-j : goal.invariant-loop-j
invariant-loop-j g l = l.used.items ≡ l.fn.used.items ++ map (λ c. c.page) (take l.j l.level)
