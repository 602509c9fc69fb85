use Rattle.std.proofs.Common.{◌≡◌, ℕ, ◌-◌, ◌<◌, ◌≤◌, get_or}
use Rattle.page_tree.proofs.naming.lowest_turn.Given as goal

abbrev pub invariant-up : goal.invariant-up
invariant-up l = record {
  from : 2 ≤ l.level;
  most : l.level ≤ 7;
  straight : (m : ℕ) → 2 ≤ m → m < l.level → get_or l.path.index m 0 ≡ 0;
}

abbrev pub decreases-up : goal.decreases-up
decreases-up l = 7 - l.level
