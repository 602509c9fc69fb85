use Rattle.std.proofs.Common.{◌≡◌, ◌<◌, ℕ, true, Some, IfSome, length}
use Rattle.frame_pool.specs.Frames.{frame_at, is_of}
use Rattle.frame_pool.specs.Index.{bucket_of, bucket_at, IsAtMost, steps_left}
use Rattle.frame_pool.proofs.chain.find.Given as goal

abbrev pub invariant-loop-cursor : goal.invariant-loop-cursor
invariant-loop-cursor g l = record {
  within : IfSome l.cursor (λ slot. (slot < length l.table.frames) × (bucket_at l.table.frames slot ≡ Some (bucket_of (length l.table.frames) l.id l.page)));
  covers : (other : ℕ) → is_of l.id l.page (frame_at l.table.frames other) ≡ true → IsAtMost other l.cursor;
}

abbrev pub decreases-loop-cursor : goal.decreases-loop-cursor
decreases-loop-cursor g l = steps_left l.cursor
