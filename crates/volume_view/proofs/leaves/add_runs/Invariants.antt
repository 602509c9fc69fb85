use Rattle.std.proofs.Common.{◌++◌, ℕ, List}
use Rattle.page_tree.specs.Page.{record_at}
use Rattle.volume_view.specs.Form.{AreRead}
use Rattle.volume_view.specs.Walk.{values}
use Rattle.volume_view.proofs.leaves.add_runs.Given as goal

-- the records before this one are read
abbrev pub invariant-loop-i : goal.invariant-loop-i
invariant-loop-i g l = (records : List (List ℕ)) → AreRead l.layout.sectors records l.fn.runs.items → AreRead l.layout.sectors (records ++ values (record_at 24 l.page) l.i) l.runs.items
