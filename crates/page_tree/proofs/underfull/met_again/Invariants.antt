use Rattle.std.proofs.Common.{◌≢◌, ℕ, ◌-◌, ◌<◌, ◌≤◌, get_or}
use Rattle.page_tree.proofs.underfull.met_again.Given as goal

abbrev pub invariant-up : goal.invariant-up
invariant-up l = record {
  from : l.level < l.up;
  most : l.up ≤ 7;
  apart : (m : ℕ) → l.level < m → m < l.up → (get_or l.path.pages m 0 ≢ l.at) × (get_or l.path.pages m 0 ≢ l.beside);
}

abbrev pub decreases-up : goal.decreases-up
decreases-up l = 7 - l.up
