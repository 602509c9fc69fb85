use Rattle.std.proofs.Common.{◌≡◌, ◌<◌, ◌⊎◌, ℕ, Some, IfSome, length}
use Rattle.frame_pool.specs.Index.{bucket_at, IsAtMost, IsAtLeast, steps_left}
use Rattle.frame_pool.proofs.chain.first_above.Given as goal

abbrev pub invariant-loop-cursor : goal.invariant-loop-cursor
invariant-loop-cursor g l = record {
  above : IfSome l.above (λ a. (l.slot < a) × (a < length l.table.frames) × (bucket_at l.table.frames a ≡ Some l.bucket));
  within : IfSome l.cursor (λ c. (c < length l.table.frames) × (bucket_at l.table.frames c ≡ Some l.bucket));
  covers : (other : ℕ) → other < length l.table.frames → bucket_at l.table.frames other ≡ Some l.bucket → IsAtLeast other l.above ⊎ IsAtMost other l.cursor;
}

abbrev pub decreases-loop-cursor : goal.decreases-loop-cursor
decreases-loop-cursor g l = steps_left l.cursor
