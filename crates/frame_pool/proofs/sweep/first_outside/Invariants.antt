use Rattle.std.proofs.Common.{◌≡◌, ◌<◌, ◌≤◌, ℕ, true}
use Rattle.frame_pool.specs.Frames.{frame_at, is_kept}
use Rattle.frame_pool.proofs.sweep.first_outside.Given as goal

abbrev pub invariant-loop-slot : goal.invariant-loop-slot
invariant-loop-slot g l = (s : ℕ) → l.from ≤ s → s < l.slot → is_kept l.run.id l.run.first l.run.pages (frame_at l.table.frames s) ≡ true
