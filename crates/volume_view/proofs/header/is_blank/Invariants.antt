use Rattle.std.proofs.Common.{◌≡◌, ◌≤◌, ◌<◌, ℕ, get_or}
use Rattle.volume_view.proofs.header.is_blank.Given as goal

-- the bytes before this one are zeros
abbrev pub invariant-loop-i : goal.invariant-loop-i
invariant-loop-i l = (k : ℕ) → 17 ≤ k → k < l.i → get_or l.page k 0 ≡ 0
