use Rattle.std.proofs.Common.{rules, ◌∙◌, ◌/◌, ◌%◌, ◌+◌, ◌-◌, inl, inr, ℕ, List, length, take, sym, ap, subst, arith}
use Rattle.std.specs.Prelude.{OnOk}
use Rattle.labelled_disk.specs.Sectors.{Sector}
use Rattle.file_map.specs.FileMap.{Triples}
use Rattle.swap_units.specs.declared.interval.Interval.{Interval}
use Rattle.swap_units.specs.Unit.{Holds}
use Rattle.swapper_kernel.specs.Goes.{this_page}
use Rattle.swapper_kernel.specs.HaltLaws.{brings_then}
use Rattle.session_words.specs.CellLaws.{StoresAt}
use Rattle.filer_kernel.proofs.Outcomes.{err_wider, on_ok_wider}
use Rattle.fault_core.specs.Moves.{Leaves, of_reference}
use Rattle.filer_kernel.specs.Evidence.{MayBeMissing}
use Rattle.fault_core.specs.Reach.{TouchHalts, no_break}
use Rattle.fault_core.specs.Revealed.{Known}
use Rattle.fault_core.specs.Unit.{AreShownStored, IsWhole, file_page}
use Rattle.filer_kernel.specs.View.{accepted, view_of}
use Rattle.fault_core.proofs.BeforeLemmas.{halt_before, touches_then, touches_wider}
use Rattle.fault_core.proofs.LeaveLemmas.{still_stored, stored_on_one, stored_none, stored_first, stored_both, on_err_wider}
use Rattle.fault_core.proofs.PieceLemmas.{one_page, last_is_next}
use Rattle.fault_core.proofs.ShowLemmas.{came_first, came_last}
use Rattle.fault_core.proofs.store.store_shown.Given as given
use Rattle.fault_core.specs.Lack.{MissesPage, both_units, unit_pages}
use Rattle.fault_core.proofs.LackLemmas.{misses_wider}
use Rattle.fault_core.proofs.store.store_shown.Goals as goal

-- ---- On one page.

pub returns-then-bytes-room-clause-moves : goal.returns-then-bytes-room-clause-moves
returns-then-bytes-room-clause-moves g c = record {
  stored = λ m named b ss known seen also.
      let small = c.if-bytes-room.true in
      on_ok_wider c.store_in.result _ _ (stored_on_one c.args.address c.args.bytes.now c.args.first.now seen c.requires.first.holds (omega (arith, small))) (c.store_in.ensures.moves.stored m named b known seen.stored);
  halted = λ m named b ss known seen. on_err_wider c.store_in.result _ _ (stored_none c.args.address c.args.bytes.now) (c.store_in.ensures.moves.halted m named b known);
  dirty = search rules;
}

pub returns-then-bytes-room-clause-whole : goal.returns-then-bytes-room-clause-whole
returns-then-bytes-room-clause-whole g c =
    let fits = c.if-bytes-room.true in
    let pool = (view_of c.store_in.new.filer).slots in
    let page = one_page c.args.address (length c.args.bytes.now) c.requires.some (omega (arith, fits)) in
    on_ok_wider c.store_in.result _ _ (λ whole. subst (IsWhole pool c.args.last.now) page (subst (λ (x : Interval). IsWhole pool x (c.args.address / 512)) (sym (c.requires.one page)) whole)) c.store_in.ensures.whole

pub returns-then-bytes-room-clause-fails : goal.returns-then-bytes-room-clause-fails
returns-then-bytes-room-clause-fails g c = record {
  cause = search rules;
  misses =
      let x = c.args.first.now in
      let y = c.args.last.now in
      let a = c.args.address in
      let n = length c.args.bytes.now in
      err_wider c.store_in.result (MissesPage (unit_pages x (a / 512))) (MissesPage (both_units x y a n)) (misses_wider (unit_pages x (a / 512)) (both_units x y a n) (λ id number own. inl own)) c.store_in.ensures.fails.misses;
  sound = λ m named b known both. c.store_in.ensures.fails.sound m named b known both.0;
}

pub returns-then-bytes-room-clause-brings : goal.returns-then-bytes-room-clause-brings
returns-then-bytes-room-clause-brings g c = record {
  touches = touches_wider (this_page c.args.first.now.id (file_page c.args.first.now (c.args.address / 512))) (of_reference c.args.first.now c.args.last.now c.args.address (length c.args.bytes.now)) (λ id page own. inl own) c.store_in.ensures.brings.touches;
  came = came_first c.args.first.now c.args.last.now _ _ c.store_in.ensures.brings.came;
}

-- ---- The first of two failed.

pub returns-in-Err-clause-moves : goal.returns-in-Err-clause-moves
returns-in-Err-clause-moves g c = record {
  stored = search rules;
  halted = λ m named b ss known seen. stored_none c.args.address c.args.bytes.now (c.in-Err.ensures.moves.halted m named b known);
  dirty = search rules;
}

pub returns-in-Err-clause-fails : goal.returns-in-Err-clause-fails
returns-in-Err-clause-fails g c = record {
  cause = search rules;
  misses =
      let x = c.args.first.now in
      let y = c.args.last.now in
      let a = c.args.address in
      let n = length c.args.bytes.now in
      misses_wider (unit_pages x (a / 512)) (both_units x y a n) (λ id number own. inl own) c.in-Err.halt c.in-Err.ensures.fails.misses;
  sound = λ m named b known both. c.in-Err.ensures.fails.sound m named b known both.0;
}

pub returns-in-Err-clause-brings : goal.returns-in-Err-clause-brings
returns-in-Err-clause-brings g c = record {
  touches = touches_wider (this_page c.args.first.now.id (file_page c.args.first.now (c.args.address / 512))) (of_reference c.args.first.now c.args.last.now c.args.address (length c.args.bytes.now)) (λ id page own. inl own) c.store_in-2.ensures.brings.touches;
  came = came_first c.args.first.now c.args.last.now _ _ c.store_in-2.ensures.brings.came;
}

-- ---- On two pages.

low_left : (g : given.Over) (c : goal.After-store_in-3 g) (m : List Sector) (named : Triples) (b : List ℕ) → Known (view_of c.args.filer.now) m named b → AreShownStored named m c.args.first.now
    → Leaves (StoresAt c.args.first.now.id (file_page c.args.first.now (c.args.address / 512)) (c.args.address % 512) (take (512 - c.args.address % 512) c.args.bytes.now)) m named b (view_of c.store_in-2.new.filer)
low_left g c m named b known stored =
    subst (λ (bs : List ℕ). Leaves (StoresAt c.args.first.now.id (file_page c.args.first.now (c.args.address / 512)) (c.args.address % 512) bs) m named b (view_of c.store_in-2.new.filer)) c.split_at.ensures.front (c.in-Ok.ensures.moves.stored m named b known stored)

pub returns-clause-moves : goal.returns-clause-moves
returns-clause-moves g c = record {
  stored = λ m named b ss known seen also.
      let y = c.args.last.now in
      let a = c.args.address in
      let past = c.if-bytes-room.false in
      let holds : Holds y (a / 512 + 1) = search rules in
      let l = low_left g c m named b known seen.stored in
      on_ok_wider c.store_in-3.result _ _ (stored_both a c.args.bytes.now c.args.first.now seen c.requires.first.holds (omega (arith, past)) l y also holds)
      (subst (λ (bs : List ℕ). OnOk c.store_in-3.result (Leaves (StoresAt y.id (file_page y (a / 512 + 1)) 0 bs) l.memory named b (view_of c.store_in-3.new.filer))) c.split_at.ensures.back
      (c.store_in-3.ensures.moves.stored l.memory named b l.known (still_stored l y also.stored)));
  halted = λ m named b ss known seen.
      let past = c.if-bytes-room.false in
      let l = low_left g c m named b known seen.stored in
      on_err_wider c.store_in-3.result _ _ (stored_first c.args.address c.args.bytes.now c.args.first.now seen c.requires.first.holds (omega (arith, past)) l) (c.store_in-3.ensures.moves.halted l.memory named b l.known);
  dirty = search rules;
}

pub returns-clause-whole : goal.returns-clause-whole
returns-clause-whole g c =
    let past = c.if-bytes-room.false in
    let page = last_is_next c.args.address (length c.args.bytes.now) c.requires.few (omega (arith, past)) in
    on_ok_wider c.store_in-3.result _ _ (λ whole. subst (IsWhole (view_of c.store_in-3.new.filer).slots c.args.last.now) page whole) c.store_in-3.ensures.whole

pub returns-clause-fails : goal.returns-clause-fails
returns-clause-fails g c = record {
  cause =
      let v = view_of c.args.filer.now in
      let w = view_of c.store_in-2.new.filer in
      let x = view_of c.store_in-3.new.filer in
      err_wider c.store_in-3.result (TouchHalts no_break w x) (TouchHalts no_break v x)
      (halt_before v w (accepted c.args.filer.now) {pages = this_page c.args.first.now.id (file_page c.args.first.now (c.args.address / 512))} c.store_in-2.ensures.brings.touches no_break no_break (λ page none. none) MayBeMissing x x (omega arith)) c.store_in-3.ensures.fails.cause;
  misses =
      let x = c.args.first.now in
      let y = c.args.last.now in
      let a = c.args.address in
      let n = length c.args.bytes.now in
      let past = c.if-bytes-room.false in
      let page = last_is_next a n c.requires.few (omega (arith, past)) in
      err_wider c.store_in-3.result (MissesPage (unit_pages y (a / 512 + 1))) (MissesPage (both_units x y a n)) (misses_wider (unit_pages y (a / 512 + 1)) (both_units x y a n) (λ id number own. inr (subst (λ (q : ℕ). unit_pages y q id number) page own))) c.store_in-3.ensures.fails.misses;
  sound = λ m named b known both.
      let l = low_left g c m named b known both.0 in
      c.store_in-3.ensures.fails.sound l.memory named b l.known (still_stored l c.args.last.now both.1);
}

pub returns-clause-brings : goal.returns-clause-brings
returns-clause-brings g c = record {
  touches =
      let past = c.if-bytes-room.false in
      let page = last_is_next c.args.address (length c.args.bytes.now) c.requires.few (omega (arith, past)) in
      let pages = of_reference c.args.first.now c.args.last.now c.args.address (length c.args.bytes.now) in
      touches_then (view_of c.args.filer.now) (view_of c.store_in-2.new.filer) (accepted c.args.filer.now) (touches_wider (this_page c.args.first.now.id (file_page c.args.first.now (c.args.address / 512))) pages (λ id number own. inl own) c.store_in-2.ensures.brings.touches) (view_of c.store_in-3.new.filer)
      (touches_wider (this_page c.args.last.now.id (file_page c.args.last.now (c.args.address / 512 + 1))) pages (λ id number own. inr (own.0, own.1 ∙ ap (λ (p : ℕ). file_page c.args.last.now p) page)) c.store_in-3.ensures.brings.touches);
  came =
      brings_then (came_first c.args.first.now c.args.last.now _ _ c.store_in-2.ensures.brings.came) (came_last c.args.first.now c.args.last.now _ _ c.store_in-3.ensures.brings.came);
}

pub returns-clause-idle : goal.returns-clause-idle
returns-clause-idle g c = λ first last.
    let past = c.if-bytes-room.false in
    let one = c.in-Ok.ensures.idle first in
    let page = last_is_next c.args.address (length c.args.bytes.now) c.requires.few (omega (arith, past)) in
    let was : IsWhole (view_of c.args.filer.now).slots c.args.last.now (c.args.address / 512 + 1) = rw page last in
    let two = c.store_in-3.ensures.idle (λ other own. one.2 c.args.last.now.id (file_page c.args.last.now other) (was other own)) in
    (two.0, two.1 ∙ one.1)

pub returns-then-bytes-room-clause-idle : goal.returns-then-bytes-room-clause-idle
returns-then-bytes-room-clause-idle g c = λ first last. let one = c.store_in.ensures.idle first in (one.0, one.1)

pub returns-then-bytes-room-clause-cost : goal.returns-then-bytes-room-clause-cost
returns-then-bytes-room-clause-cost g c = omega (arith, c.store_in.ensures.cost)

pub returns-in-Err-clause-whole : goal.returns-in-Err-clause-whole
returns-in-Err-clause-whole g c = tt

pub returns-in-Err-clause-idle : goal.returns-in-Err-clause-idle
returns-in-Err-clause-idle g c = λ first last. let one = c.in-Err.ensures.idle first in (one.0, one.1)

pub returns-in-Err-clause-cost : goal.returns-in-Err-clause-cost
returns-in-Err-clause-cost g c = omega (arith, c.store_in-2.ensures.cost)

pub returns-clause-cost : goal.returns-clause-cost
returns-clause-cost g c = omega (arith, c.store_in-2.ensures.cost, c.store_in-3.ensures.cost)
