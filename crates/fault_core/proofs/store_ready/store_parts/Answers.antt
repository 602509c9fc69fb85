use Rattle.std.proofs.Common.{◌≡◌, ℕ, arith, subst}
use Rattle.filer_kernel.specs.View.{view_of}
use Rattle.fault_core.specs.StoreReady.{AreStoredAtHand}
use Rattle.fault_core.proofs.StoreReadyLemmas.{stored_none, stored_then}
use Rattle.fault_core.proofs.store_ready.store_parts.Goals as goal

pub parts-init : goal.parts-init
parts-init g c = record {
  within = omega arith;
  here = c.requires.here;
  stored = λ kept is_kept. stored_none kept c.args.address c.args.bytes.now (view_of c.args.filer.now);
}

pub parts-preserved : goal.parts-preserved
parts-preserved g c = record {
  within = c.store_part-done.ensures.fits;
  here = c.store_part-done.ensures.here;
  stored = λ kept is_kept.
      stored_then kept c.args.address c.parts.done c.store_part-done.result c.args.bytes.now (view_of c.args.filer.now) (view_of c.parts.filer) (view_of c.store_part-done.new.filer)
      (omega (arith, c.store_part-done.ensures.fits, c.requires.within)) c.store_part-done.ensures.some (c.parts.invariant.stored kept is_kept) (c.store_part-done.ensures.changed kept is_kept);
}

pub returns : goal.returns
returns g c =
    let all : c.parts.done ≡ c.args.count = omega (arith, c.parts-test.false, c.parts.invariant.within) in
    record {
      stored = λ kept is_kept.
          subst (λ (n : ℕ). AreStoredAtHand kept c.args.address n c.args.bytes.now (view_of c.args.filer.now) (view_of c.parts.filer)) all (c.parts.invariant.stored kept is_kept);
    }
