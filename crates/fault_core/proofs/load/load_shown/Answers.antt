use Rattle.std.proofs.Common.{rules, ◌≡◌, ◌∙◌, ◌/◌, ◌%◌, ◌+◌, ◌-◌, ◌≤◌, length, sym, subst, arith, inl, inr, ℕ}
use Rattle.swap_units.specs.declared.interval.Interval.{Interval}
use Rattle.swap_units.specs.Unit.{Holds}
use Rattle.swapper_kernel.specs.HaltLaws.{brings_then}
use Rattle.filer_kernel.proofs.Outcomes.{err_wider, on_ok_wider}
use Rattle.filer_kernel.specs.Evidence.{MayBeMissing}
use Rattle.fault_core.specs.Reach.{TouchHalts, no_break}
use Rattle.fault_core.specs.Unit.{IsWhole}
use Rattle.filer_kernel.specs.View.{accepted, view_of}
use Rattle.fault_core.proofs.PieceLemmas.{one_page, last_is_next, loads_first, loads_next, one_loaded, two_loaded}
use Rattle.fault_core.proofs.ReachLemmas.{known_after, finds_before, reaches_then}
use Rattle.fault_core.proofs.ShowLemmas.{came_first, came_last}
use Rattle.fault_core.specs.Lack.{MissesPage, both_units, unit_pages}
use Rattle.fault_core.proofs.LackLemmas.{misses_wider}
use Rattle.fault_core.proofs.load.load_shown.Goals as goal

-- ---- On one page.

pub returns-then-into-room-clause-moves : goal.returns-then-into-room-clause-moves
returns-then-into-room-clause-moves g c = record {
  bytes = λ m named b ss known seen also.
      let into = c.load_in.new.into in
      on_ok_wider c.load_in.result _ _ (λ has. one_loaded ss named m c.args.address into has.inside (loads_first ss named m c.args.address c.args.first.now into seen c.requires.first.holds has))
      (c.load_in.ensures.moves.bytes m named b known seen.stored);
  width = search rules;
  intact = λ one. c.load_in.ensures.moves.intact;
}

pub returns-then-into-room-clause-whole : goal.returns-then-into-room-clause-whole
returns-then-into-room-clause-whole g c =
    let fits = c.if-into-room.true in
    let pool = (view_of c.load_in.new.filer).slots in
    let page = one_page c.args.address (length c.args.into.now) c.requires.some (omega (arith, fits)) in
    on_ok_wider c.load_in.result _ _ (λ whole. subst (IsWhole pool c.args.last.now) page (subst (λ (x : Interval). IsWhole pool x (c.args.address / 512)) (sym (c.requires.one page)) whole)) c.load_in.ensures.whole

pub returns-then-into-room-clause-fails : goal.returns-then-into-room-clause-fails
returns-then-into-room-clause-fails g c = record {
  cause = search rules;
  misses =
      let x = c.args.first.now in
      let y = c.args.last.now in
      let a = c.args.address in
      let n = length c.args.into.now in
      err_wider c.load_in.result (MissesPage (unit_pages x (a / 512))) (MissesPage (both_units x y a n)) (misses_wider (unit_pages x (a / 512)) (both_units x y a n) (λ id number own. inl own)) c.load_in.ensures.fails.misses;
  sound = λ m named b known both. c.load_in.ensures.fails.sound m named b known both.0;
}

pub returns-then-into-room-clause-brings : goal.returns-then-into-room-clause-brings
returns-then-into-room-clause-brings g c = record {
  reaches = search rules;
  came = came_first c.args.first.now c.args.last.now _ _ c.load_in.ensures.brings.came;
}

-- ---- The first of two failed.

pub returns-in-Err-clause-fails : goal.returns-in-Err-clause-fails
returns-in-Err-clause-fails g c = record {
  cause = search rules;
  misses =
      let x = c.args.first.now in
      let y = c.args.last.now in
      let a = c.args.address in
      let n = length c.args.into.now in
      misses_wider (unit_pages x (a / 512)) (both_units x y a n) (λ id number own. inl own) c.in-Err.halt c.in-Err.ensures.fails.misses;
  sound = λ m named b known both. c.in-Err.ensures.fails.sound m named b known both.0;
}

pub returns-in-Err-clause-moves : goal.returns-in-Err-clause-moves
returns-in-Err-clause-moves g c = record {
  bytes = search rules;
  width = search rules;
  intact = λ one.
      let past = c.if-into-room.false in
      absurd (omega (arith, past, one));
}

pub returns-in-Err-clause-brings : goal.returns-in-Err-clause-brings
returns-in-Err-clause-brings g c = record {
  reaches = search rules;
  came = came_first c.args.first.now c.args.last.now _ _ c.load_in-2.ensures.brings.came;
}

-- ---- On two pages.

pub returns-clause-moves : goal.returns-clause-moves
returns-clause-moves g c = record {
  bytes = λ m named b ss known seen also.
      let v = view_of c.args.filer.now in
      let after = known_after v (view_of c.load_in-2.new.filer) m named b (accepted c.args.filer.now) c.load_in-2.ensures.brings.reaches known in
      let low = c.load_in-2.new.into in
      let high = c.load_in-3.new.into in
      let past = c.if-into-room.false in
      let prefix : length low ≡ 512 - c.args.address % 512 = search rules in
      let back : 1 ≤ length high = search rules in
      let holds : Holds c.args.last.now (c.args.address / 512 + 1) = search rules in
      let first = loads_first ss named m c.args.address c.args.first.now low seen c.requires.first.holds (c.in-Ok.ensures.moves.bytes m named b known seen.stored) in
      on_ok_wider c.load_in-3.result _ _ (λ has. two_loaded ss named m c.args.address low high prefix back first (loads_next ss named m c.args.address c.args.last.now high also holds has))
      (c.load_in-3.ensures.moves.bytes m named b after also.stored);
  width = search rules;
  intact = λ one.
      let past = c.if-into-room.false in
      absurd (omega (arith, past, one));
}

pub returns-clause-whole : goal.returns-clause-whole
returns-clause-whole g c =
    let past = c.if-into-room.false in
    let page = last_is_next c.args.address (length c.args.into.now) c.requires.few (omega (arith, past)) in
    on_ok_wider c.load_in-3.result _ _ (λ whole. subst (IsWhole (view_of c.load_in-3.new.filer).slots c.args.last.now) page whole) c.load_in-3.ensures.whole

pub returns-clause-fails : goal.returns-clause-fails
returns-clause-fails g c = record {
  cause =
      let v = view_of c.args.filer.now in
      let w = view_of c.load_in-2.new.filer in
      let x = view_of c.load_in-3.new.filer in
      err_wider c.load_in-3.result (TouchHalts no_break w x) (TouchHalts no_break v x)
      (finds_before v w (accepted c.args.filer.now) c.load_in-2.ensures.brings.reaches MayBeMissing no_break no_break (λ page none. none) x x (omega arith)) c.load_in-3.ensures.fails.cause;
  misses =
      let x = c.args.first.now in
      let y = c.args.last.now in
      let a = c.args.address in
      let n = length c.args.into.now in
      let past = c.if-into-room.false in
      let page = last_is_next a n c.requires.few (omega (arith, past)) in
      err_wider c.load_in-3.result (MissesPage (unit_pages y (a / 512 + 1))) (MissesPage (both_units x y a n)) (misses_wider (unit_pages y (a / 512 + 1)) (both_units x y a n) (λ id number own. inr (subst (λ (q : ℕ). unit_pages y q id number) page own))) c.load_in-3.ensures.fails.misses;
  sound = λ m named b known both.
      c.load_in-3.ensures.fails.sound m named b (known_after (view_of c.args.filer.now) (view_of c.load_in-2.new.filer) m named b (accepted c.args.filer.now) c.load_in-2.ensures.brings.reaches known) both.1;
}

pub returns-clause-brings : goal.returns-clause-brings
returns-clause-brings g c = record {
  reaches =
      reaches_then (view_of c.args.filer.now) (view_of c.load_in-2.new.filer) (accepted c.args.filer.now) c.load_in-2.ensures.brings.reaches (view_of c.load_in-3.new.filer) c.load_in-3.ensures.brings.reaches;
  came =
      brings_then (came_first c.args.first.now c.args.last.now _ _ c.load_in-2.ensures.brings.came) (came_last c.args.first.now c.args.last.now _ _ c.load_in-3.ensures.brings.came);
}

pub returns-clause-idle : goal.returns-clause-idle
returns-clause-idle g c = λ first last.
    let past = c.if-into-room.false in
    let one = c.in-Ok.ensures.idle first in
    let page = last_is_next c.args.address (length c.args.into.now) c.requires.few (omega (arith, past)) in
    let whole : IsWhole (view_of c.load_in-2.new.filer).slots c.args.last.now (c.args.address / 512 + 1) = rw (one.1, page) last in
    let two = c.load_in-3.ensures.idle whole in
    (two.0, two.1 ∙ one.1)

pub returns-then-into-room-clause-idle : goal.returns-then-into-room-clause-idle
returns-then-into-room-clause-idle g c = λ first last. c.load_in.ensures.idle first

pub returns-then-into-room-clause-cost : goal.returns-then-into-room-clause-cost
returns-then-into-room-clause-cost g c = omega (arith, c.load_in.ensures.cost)

pub returns-in-Err-clause-whole : goal.returns-in-Err-clause-whole
returns-in-Err-clause-whole g c = tt

pub returns-in-Err-clause-idle : goal.returns-in-Err-clause-idle
returns-in-Err-clause-idle g c = λ first last. c.in-Err.ensures.idle first

pub returns-in-Err-clause-cost : goal.returns-in-Err-clause-cost
returns-in-Err-clause-cost g c = omega (arith, c.load_in-2.ensures.cost)

pub returns-clause-cost : goal.returns-clause-cost
returns-clause-cost g c = omega (arith, c.load_in-2.ensures.cost, c.load_in-3.ensures.cost)
