use Rattle.std.proofs.Common.{◌≡◌, ◌<◌, ℕ, true}
use Rattle.volume_view.specs.Marks.{mark_at}
use Rattle.volume_view.proofs.once.are_all_set.Given as goal

-- the marks before this one are set
abbrev pub invariant-loop-q : goal.invariant-loop-q
invariant-loop-q l = (q : ℕ) → q < l.q → mark_at l.marks q ≡ true
