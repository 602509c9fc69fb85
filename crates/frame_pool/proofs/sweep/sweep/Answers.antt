use Rattle.std.proofs.Common.{◌≡◌, ◌<◌, ℕ, length, arith, inl, inr, true}
use Rattle.std.proofs.lemmas.Bool.{cases_lt}
use Rattle.frame_pool.specs.Frames.{frame_at, is_kept}
use Rattle.frame_pool.proofs.SweepLemmas.{all_kept}
use Rattle.frame_pool.proofs.sweep.sweep.Goals as goal

pub unreachable-requires : goal.unreachable-requires
unreachable-requires g c =
    let frames = c.args.table.now.frames in
    let all : (i : ℕ) → i < length frames → is_kept c.args.run.now.id c.args.run.now.first c.args.run.now.pages (frame_at frames i) ≡ true =
    λ i below. elim (cases_lt i c.min-hand.result) [
      | inl low ↦ c.first_outside-2.ensures.none c.in-None.is i (omega arith) low
      | inr least ↦ c.first_outside.ensures.none c.in_default-first_outside.is i least (rw c.len-slots.ensures below)
    ] in
    let few = all_kept frames c.args.run.now.id c.args.run.now.first c.args.run.now.pages c.requires.distinct all in
    let room = c.requires.room in
    omega (arith, few, room)
