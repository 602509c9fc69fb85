use Rattle.std.proofs.Common.{◌∙◌, ◌+◌, ◌≤◌, ℕ, sym, ap, subst, refl}
use Rattle.flat_mem.specs.Memory.{part}
use Rattle.frame_pool.specs.FrameLaws.{filled_of}
use Rattle.fault_core.specs.Unit.{file_page}
use Rattle.filer_kernel.specs.View.{accepted, placed, view_of}
use Rattle.fault_core.proofs.FrameLemmas.{frame_bytes}
use Rattle.fault_core.proofs.ReachLemmas.{known_after}
use Rattle.fault_core.proofs.load.load_in.Goals as goal

pub returns-clause-moves : goal.returns-clause-moves
returns-clause-moves g c = record {
  bytes = λ m named b known stored.
      let now = c.touch.new.filer in
      let x = c.args.x.now in
      let after = known_after (view_of c.args.filer.now) (view_of now) m named b (accepted c.args.filer.now) c.touch.ensures.brings.reaches known in
      let slot = c.in-Ok.ensures.comes.slot in
      let own = stored c.args.page c.requires.shows.holds in
      frame_bytes (accepted now) after (placed now) c.in-Ok.slot slot.0 slot.1 x.id (file_page x c.args.page) slot.2 own.of_file c.args.from c.copy_out.new.into
      (subst (λ (n : ℕ). c.args.from + n ≤ 512) (sym c.copy_out.ensures.width) c.requires.inside)
      (c.copy_out.ensures.bytes slot.0 slot.1 ∙ ap (part slot.0.bytes c.args.from) (sym c.copy_out.ensures.width));
  width = c.copy_out.ensures.width;
  intact = tt;
}

-- ---- It copies.

pub copy_out-requires-clause-below : goal.copy_out-requires-clause-below
copy_out-requires-clause-below g c = c.in-Ok.ensures.comes.below

pub copy_out-requires-clause-filled : goal.copy_out-requires-clause-filled
copy_out-requires-clause-filled g c =
    let slot = c.in-Ok.ensures.comes.slot in
    filled_of (view_of c.touch.new.filer).slots c.in-Ok.slot slot.0 slot.1

pub copy_out-requires-clause-inside : goal.copy_out-requires-clause-inside
copy_out-requires-clause-inside g c = c.requires.inside

pub returns-clause-whole : goal.returns-clause-whole
returns-clause-whole g c = rw c.copy_out.ensures.same c.in-Ok.ensures.comes.whole

pub returns-clause-fails : goal.returns-clause-fails
returns-clause-fails g c = record { cause = tt; misses = tt; sound = λ m named b known stored. tt }

pub returns-clause-brings : goal.returns-clause-brings
returns-clause-brings g c = record {
  reaches = rw c.copy_out.ensures.same c.touch.ensures.brings.reaches;
  came = rw c.copy_out.ensures.same c.touch.ensures.brings.came;
}

pub returns-clause-idle : goal.returns-clause-idle
returns-clause-idle g c = λ whole. (refl, c.copy_out.ensures.same ∙ (c.in-Ok.ensures.idle whole).1)

pub returns-clause-cost : goal.returns-clause-cost
returns-clause-cost g c = rw c.copy_out.ensures.same c.touch.ensures.cost

-- ---- The page could not be brought in.

pub returns-in-Err-clause-moves : goal.returns-in-Err-clause-moves
returns-in-Err-clause-moves g c = record { bytes = λ m named b known stored. tt; width = refl; intact = refl }

pub returns-in-Err-clause-whole : goal.returns-in-Err-clause-whole
returns-in-Err-clause-whole g c = tt

pub returns-in-Err-clause-fails : goal.returns-in-Err-clause-fails
returns-in-Err-clause-fails g c = record {
  cause = c.in-Err.ensures.fails.cause;
  misses = c.in-Err.ensures.fails.misses;
  sound = c.in-Err.ensures.fails.sound;
}

pub returns-in-Err-clause-brings : goal.returns-in-Err-clause-brings
returns-in-Err-clause-brings g c = record { reaches = c.touch.ensures.brings.reaches; came = c.touch.ensures.brings.came }

pub returns-in-Err-clause-idle : goal.returns-in-Err-clause-idle
returns-in-Err-clause-idle g c = c.in-Err.ensures.idle

pub returns-in-Err-clause-cost : goal.returns-in-Err-clause-cost
returns-in-Err-clause-cost g c = c.touch.ensures.cost
