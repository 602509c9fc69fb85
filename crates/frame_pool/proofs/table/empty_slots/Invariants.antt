use Rattle.std.proofs.Common.{◌≡◌}
use Rattle.frame_pool.specs.Lists.{fresh_lists}
use Rattle.frame_pool.specs.Table.{lists_of}
use Rattle.frame_pool.proofs.table.empty_slots.Given as goal

abbrev pub invariant-loop-number : goal.invariant-loop-number
invariant-loop-number g l = lists_of l.all.items ≡ fresh_lists l.number
