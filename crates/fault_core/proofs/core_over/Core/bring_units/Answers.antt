use Rattle.std.proofs.Common.{rules, ℕ, ◌<◌, ◌+◌, subst, arith}
use Rattle.swapper_kernel.specs.HaltLaws.{brings_then}
use Rattle.fault_core.specs.Activate.{AreUnits, start_at}
use Rattle.fault_core.specs.Core.{kept, state}
use Rattle.fault_core.proofs.ActivateLemmas.{activating_none, activating_more, activating_halt, activating_reaches, activating_known, activating_came, activating_shown, activating_whole, activated_all, activated_most, activated_some, some_is}
use Rattle.fault_core.proofs.RoomLemmas.{room_itself}
use Rattle.fault_core.specs.Lack.{range_units, shown_unit}
use Rattle.fault_core.proofs.LackLemmas.{misses_wider}
use Rattle.fault_core.proofs.core_over.Core.bring_units.Goals as goal
use Rattle.filer_kernel.specs.View.{accepted}

pub loop-turn-init : goal.loop-turn-init
loop-turn-init g c =
    rw c.half_of-half.ensures.same (activating_none (state c.args.self.now) (kept c.args.self.now) c.args.self.now.intervals c.args.first (c.args.first + c.args.pages) c.end_of-end.result c.half_of-half.result c.requires.size c.half_of-half.ensures.some)

pub loop-turn-preserved : goal.loop-turn-preserved
loop-turn-preserved g c =
    let new = c.bring_next.new.self in
    let e = c.in-Ok-Some.ensures in
    activating_more (accepted c.args.self.now.filer) c.loop-turn.invariant (state new) (kept new) new.intervals c.in-Ok-Some.further c.end_of-end.ensures.within c.if-so_far-end.false
    (some_is _ c.in-Ok-Some.field-0 c.in-Ok-Some.further c.in-Ok-Some.field-0-is e.comes.turn)
    (λ m named ss knows. some_is _ c.in-Ok-Some.field-0 c.in-Ok-Some.further c.in-Ok-Some.field-0-is (e.comes.further m named ss knows)) e.stays.same e.brings.came
    (λ m named ss knows. some_is _ c.in-Ok-Some.field-0 c.in-Ok-Some.further c.in-Ok-Some.field-0-is (e.comes.whole m named ss knows)) e.brings.room e.stays.sees e.brings.reaches e.stays.intervals e.cost

-- ---- The end of the range is reached.

pub returns-then-so_far-end-clause-comes : goal.returns-then-so_far-end-clause-comes
returns-then-so_far-end-clause-comes g c = record {
  within = search rules;
  units = λ m named ss knows.
      subst (λ (n : ℕ). AreUnits ss (c.args.first + c.args.pages) (start_at c.args.first n) c.loop-turn.so_far.units c.loop-turn.so_far.last) c.half_of-half.ensures.half
      (activated_all (accepted c.args.self.now.filer) c.loop-turn.invariant m named ss knows c.end_of-end.ensures.all c.if-so_far-end.true);
  shown = activating_shown (accepted c.args.self.now.filer) c.loop-turn.invariant;
  all = activating_whole (accepted c.args.self.now.filer) c.loop-turn.invariant (state c.loop-turn.self).slots (room_itself (state c.loop-turn.self).slots);
}

pub returns-then-so_far-end-clause-stays : goal.returns-then-so_far-end-clause-stays
returns-then-so_far-end-clause-stays g c = record {
  sees = c.loop-turn.invariant.sees;
  same = activating_known (accepted c.args.self.now.filer) c.loop-turn.invariant;
  intervals = search rules;
}

pub returns-then-so_far-end-clause-brings : goal.returns-then-so_far-end-clause-brings
returns-then-so_far-end-clause-brings g c = record {
  reaches = search rules;
  came = activating_came (accepted c.args.self.now.filer) c.loop-turn.invariant;
}

-- ---- The next unit has too many pages.

pub returns-in-Ok-None-clause-comes : goal.returns-in-Ok-None-clause-comes
returns-in-Ok-None-clause-comes g c = record {
  within = search rules;
  units = λ m named ss knows.
      let upto = c.end_of-end.ensures.within in
      let test = c.if-so_far-end.false in
      subst (λ (n : ℕ). AreUnits ss (c.args.first + c.args.pages) (start_at c.args.first n) c.loop-turn.so_far.units c.loop-turn.so_far.last) c.half_of-half.ensures.half
      (activated_some (accepted c.args.self.now.filer) c.loop-turn.invariant m named ss knows (omega (arith, upto, test))
      (c.in-Ok-None.ensures.comes.too_long m named ss (activating_known (accepted c.args.self.now.filer) c.loop-turn.invariant m named ss knows) c.in-Ok-None.field-0-is));
  shown = activating_shown (accepted c.args.self.now.filer) c.loop-turn.invariant;
  all = activating_whole (accepted c.args.self.now.filer) c.loop-turn.invariant (state c.bring_next.new.self).slots c.bring_next.ensures.brings.room;
}

pub returns-in-Ok-None-clause-stays : goal.returns-in-Ok-None-clause-stays
returns-in-Ok-None-clause-stays g c = record {
  sees = λ ss s. c.bring_next.ensures.stays.sees ss (c.loop-turn.invariant.sees ss s);
  same = λ m named ss knows. c.bring_next.ensures.stays.same m named ss (activating_known (accepted c.args.self.now.filer) c.loop-turn.invariant m named ss knows);
  intervals = search rules;
}

pub returns-in-Ok-None-clause-brings : goal.returns-in-Ok-None-clause-brings
returns-in-Ok-None-clause-brings g c = record {
  reaches = activating_reaches (accepted c.args.self.now.filer) c.loop-turn.invariant (state c.bring_next.new.self) c.bring_next.ensures.brings.reaches;
  came = λ m named ss knows.
      let was = c.loop-turn.invariant.revealed m named ss knows in
      brings_then was.1 (c.bring_next.ensures.brings.came m named ss was.0);
}

-- ---- A unit could not be brought in.

pub returns-in-Err-clause-fails : goal.returns-in-Err-clause-fails
returns-in-Err-clause-fails g c =
    let upto = c.end_of-end.ensures.within in
    let test = c.if-so_far-end.false in
    let from = c.loop-turn.invariant.from in
    let page = c.loop-turn.so_far.page in
    let to = c.args.first + c.args.pages in
    let below : page < to = omega (arith, upto, test) in
    let was = c.loop-turn.invariant.sees in
    let cause = activating_halt (accepted c.args.self.now.filer) c.loop-turn.invariant (state c.bring_next.new.self) below c.in-Err.halt c.in-Err.ensures.fails.cause in
    record {
      cause = cause;
      missing = λ ss s. misses_wider (shown_unit ss page) (range_units ss c.args.first to) (λ id number own. (page, from, below, own)) c.in-Err.halt (c.in-Err.ensures.fails.missing ss (was ss s));
      right = λ ss s. c.in-Err.ensures.fails.right ss (was ss s);
      sound = λ m named ss knows. c.in-Err.ensures.fails.sound m named ss (activating_known (accepted c.args.self.now.filer) c.loop-turn.invariant m named ss knows);
    }

pub returns-in-Err-clause-stays : goal.returns-in-Err-clause-stays
returns-in-Err-clause-stays g c = record {
  sees = λ ss s. c.bring_next.ensures.stays.sees ss (c.loop-turn.invariant.sees ss s);
  same = λ m named ss knows. c.bring_next.ensures.stays.same m named ss (activating_known (accepted c.args.self.now.filer) c.loop-turn.invariant m named ss knows);
  intervals = search rules;
}

pub returns-in-Err-clause-brings : goal.returns-in-Err-clause-brings
returns-in-Err-clause-brings g c = record {
  reaches = activating_reaches (accepted c.args.self.now.filer) c.loop-turn.invariant (state c.bring_next.new.self) c.bring_next.ensures.brings.reaches;
  came = λ m named ss knows.
      let was = c.loop-turn.invariant.revealed m named ss knows in
      brings_then was.1 (c.bring_next.ensures.brings.came m named ss was.0);
}

-- ---- So many turns are enough.

pub returns-clause-comes : goal.returns-clause-comes
returns-clause-comes g c = record {
  within = search rules;
  units = λ m named ss knows.
      let past = c.loop-turn-test.false in
      let most : c.args.self.now.intervals + c.half_of-half.result < c.loop-turn._turn = omega (arith, past) in
      subst (λ (n : ℕ). AreUnits ss (c.args.first + c.args.pages) (start_at c.args.first n) c.loop-turn.so_far.units c.loop-turn.so_far.last) c.half_of-half.ensures.half
      (activated_most (accepted c.args.self.now.filer) c.loop-turn.invariant m named ss knows c.end_of-end.ensures.all most);
  shown = activating_shown (accepted c.args.self.now.filer) c.loop-turn.invariant;
  all = activating_whole (accepted c.args.self.now.filer) c.loop-turn.invariant (state c.loop-turn.self).slots (room_itself (state c.loop-turn.self).slots);
}

pub returns-clause-stays : goal.returns-clause-stays
returns-clause-stays g c = record {
  sees = c.loop-turn.invariant.sees;
  same = activating_known (accepted c.args.self.now.filer) c.loop-turn.invariant;
  intervals = search rules;
}

pub returns-clause-brings : goal.returns-clause-brings
returns-clause-brings g c = record {
  reaches = search rules;
  came = activating_came (accepted c.args.self.now.filer) c.loop-turn.invariant;
}
