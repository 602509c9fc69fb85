use Rattle.std.proofs.Common.{◌≡◌, ◌++◌, suc}
use Rattle.volume_view.specs.Level.{key_in, items_of}
use Rattle.volume_view.specs.Walk.{values, child_at}
use Rattle.volume_view.proofs.levels.add_children.Given as goal

-- the children up to this one are added
abbrev pub invariant-loop-i : goal.invariant-loop-i
invariant-loop-i g l = items_of l.children.items ≡ items_of l.fn.children.items ++ values (child_at (key_in l.parent.key) l.page) (suc l.i)
