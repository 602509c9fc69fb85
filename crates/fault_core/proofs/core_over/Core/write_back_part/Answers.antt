use Rattle.std.proofs.Common.{rules, refl, ◌≡◌, ◌+◌, ◌≤◌, true, false, inl, inr, arith}
use Rattle.swap_units.specs.Mode.{is_mapped}
use Rattle.swapper_kernel.specs.HaltLaws.{brings_then}
use Rattle.fault_core.specs.Core.{core_view, state}
use Rattle.fault_core.specs.Reach.{no_break}
use Rattle.fault_core.specs.Revealed.{BreaksTables}
use Rattle.filer_kernel.specs.View.{accepted, view_of}
use Rattle.fault_core.proofs.AccessLemmas.{at_of}
use Rattle.fault_core.proofs.ReachLemmas.{reaches_then, halts_before}
use Rattle.fault_core.proofs.KeptLemmas.{same_answer}
use Rattle.fault_core.proofs.RestLemmas.{run_yields, none_written_back, bare_written_back, run_written_back, next_of, leaves_same, part_all, part_leaves}
use Rattle.fault_core.proofs.RevealedLemmas.{interval_of}
use Rattle.fault_core.proofs.NeverBlamesLemmas.{table_never_blames}
use Rattle.fault_core.proofs.OutcomeLemmas.{failed_on, stays_found, stays_then}
use Rattle.fault_core.specs.ReachLaws.{touch_of_reach}
use Rattle.fault_core.proofs.core_over.Core.write_back_part.Goals as goal

pub returns-in-Ok-None-clause-comes : goal.returns-in-Ok-None-clause-comes
returns-in-Ok-None-clause-comes g c = record {
  further = search rules;
  rest = λ m named ss knows.
      none_written_back knows.tables c.args.write_back (state c.describe.new.self).slots c.args.page c.args.end (c.in-Ok-None.ensures.comes.none.0 c.in-Ok-None.field-0-is);
  part = search rules;
}

-- the tables were not asked
pub returns-in-Ok-None-clause-frames : goal.returns-in-Ok-None-clause-frames
returns-in-Ok-None-clause-frames g c = λ y found inside.
    let idle = c.describe.ensures.idle y found in
    leaves_same c.args.write_back y.id _ _ (state c.args.self.now).slots (state c.describe.new.self).slots (λ i. (view_of (idle.1 i)).slots)

pub returns-in-Err-clause-frames : goal.returns-in-Err-clause-frames
returns-in-Err-clause-frames g c = λ y found inside.
    let idle = c.describe.ensures.idle y found in
    leaves_same c.args.write_back y.id _ _ (state c.args.self.now).slots (state c.describe.new.self).slots (λ i. (view_of (idle.1 i)).slots)

-- ---- No window shows the interval.

pub returns-then-not-is_mapped-clause-frames : goal.returns-then-not-is_mapped-clause-frames
returns-then-not-is_mapped-clause-frames g c = λ y found inside.
    let idle = c.describe.ensures.idle y found in
    leaves_same c.args.write_back y.id _ _ (state c.args.self.now).slots (state c.describe.new.self).slots (λ i. (view_of (idle.1 i)).slots)

pub returns-then-not-is_mapped-clause-all : goal.returns-then-not-is_mapped-clause-all
returns-then-not-is_mapped-clause-all g c = λ y found inside.
    let idle = c.describe.ensures.idle y found in
    part_all c.in-Ok-Some.x y c.min-next.result c.args.end c.min-next.ensures (same_answer c.describe.result y c.in-Ok-Some.x c.in-Ok-Some.field-0 idle.0 c.in-Ok-Some.is c.in-Ok-Some.field-0-is) inside

pub returns-then-not-is_mapped-clause-comes : goal.returns-then-not-is_mapped-clause-comes
returns-then-not-is_mapped-clause-comes g c = record {
  further = search rules;
  rest = λ m named ss knows.
      let x = c.in-Ok-Some.x in
      let at = at_of ss c.in-Ok-Some.field-0 x c.args.page c.in-Ok-Some.field-0-is (c.in-Ok-Some.ensures.comes.interval m named ss knows) in
      let least = c.min-next.ensures in
      let inside : c.min-next.result ≤ x.first + x.pages = omega (arith, least) in
      let bare : is_mapped x.mode ≡ false = search rules in
      bare_written_back knows.tables c.args.write_back (state c.describe.new.self).slots c.args.page c.min-next.result x (interval_of ss c.args.page x at) at.holds inside bare;
  part = λ m named ss knows.
      let x = c.in-Ok-Some.x in
      let at = at_of ss c.in-Ok-Some.field-0 x c.args.page c.in-Ok-Some.field-0-is (c.in-Ok-Some.ensures.comes.interval m named ss knows) in
      elim (next_of c.min-next.result (x.first + x.pages) c.args.end c.min-next.ensures) [ inl is ↦ inl is | inr is ↦ inr (x, at, is) ];
}

-- ---- One shows it.

pub returns-in-Ok-clause-comes : goal.returns-in-Ok-clause-comes
returns-in-Ok-clause-comes g c = record {
  further = search rules;
  rest = λ m named ss knows.
      let x = c.in-Ok-Some.x in
      let at = at_of ss c.in-Ok-Some.field-0 x c.args.page c.in-Ok-Some.field-0-is (c.in-Ok-Some.ensures.comes.interval m named ss knows) in
      let least = c.min-next.ensures in
      let inside : c.min-next.result ≤ x.first + x.pages = omega (arith, least) in
      let mapped : is_mapped x.mode ≡ true = search rules in
      run_written_back knows.tables c.args.write_back (view_of c.write_back_run.new.filer).slots c.args.page c.min-next.result x (interval_of ss c.args.page x at) at.holds inside mapped c.in-Ok.ensures.rest;
  part = λ m named ss knows.
      let x = c.in-Ok-Some.x in
      let at = at_of ss c.in-Ok-Some.field-0 x c.args.page c.in-Ok-Some.field-0-is (c.in-Ok-Some.ensures.comes.interval m named ss knows) in
      elim (next_of c.min-next.result (x.first + x.pages) c.args.end c.min-next.ensures) [ inl is ↦ inl is | inr is ↦ inr (x, at, is) ];
}

pub returns-in-Ok-clause-stays : goal.returns-in-Ok-clause-stays
returns-in-Ok-clause-stays g c = stays_then c.describe.ensures.stays (stays_found (core_view c.describe.new.self) (view_of c.write_back_run.new.filer) (accepted c.describe.new.self.filer) c.write_back_run.ensures.reaches)

pub returns-in-Ok-clause-brings : goal.returns-in-Ok-clause-brings
returns-in-Ok-clause-brings g c = record {
  reaches = reaches_then (state c.args.self.now) (state c.describe.new.self) (accepted c.args.self.now.filer) c.describe.ensures.brings.reaches (view_of c.write_back_run.new.filer) c.write_back_run.ensures.reaches;
  came = brings_then c.describe.ensures.brings.came c.write_back_run.ensures.came;
}

pub returns-in-Ok-clause-cost : goal.returns-in-Ok-clause-cost
returns-in-Ok-clause-cost g c =
    let first = c.describe.ensures.cost in
    let next = c.write_back_run.ensures.cost in
    let count = c.describe.ensures.brings.reaches.goes.makes.count in
    omega (arith, first, next, count)

pub returns-in-Ok-clause-frames : goal.returns-in-Ok-clause-frames
returns-in-Ok-clause-frames g c = λ y found inside.
    let idle = c.describe.ensures.idle y found in
    let same = same_answer c.describe.result y c.in-Ok-Some.x c.in-Ok-Some.field-0 idle.0 c.in-Ok-Some.is c.in-Ok-Some.field-0-is in
    part_leaves c.args.write_back c.in-Ok-Some.x y c.args.page c.min-next.result c.args.end (state c.args.self.now).slots (state c.describe.new.self).slots (view_of c.write_back_run.new.filer).slots same
    (part_all c.in-Ok-Some.x y c.min-next.result c.args.end c.min-next.ensures same inside) (λ i. (view_of (idle.1 i)).slots) c.write_back_run.ensures.frames

pub returns-in-Ok-clause-all : goal.returns-in-Ok-clause-all
returns-in-Ok-clause-all g c = λ y found inside.
    let idle = c.describe.ensures.idle y found in
    part_all c.in-Ok-Some.x y c.min-next.result c.args.end c.min-next.ensures (same_answer c.describe.result y c.in-Ok-Some.x c.in-Ok-Some.field-0 idle.0 c.in-Ok-Some.is c.in-Ok-Some.field-0-is) inside

-- ---- A frame could not be written out.

pub returns-in-Err-write_back_run-clause-fails : goal.returns-in-Err-write_back_run-clause-fails
returns-in-Err-write_back_run-clause-fails g c =
    let v = (state c.args.self.now) in
    let x = view_of c.write_back_run.new.filer in
    let e = c.in-Err-write_back_run.halt in
    let cause = halts_before v (state c.describe.new.self) (accepted c.args.self.now.filer) c.describe.ensures.brings.reaches no_break (BreaksTables v c.args.self.now.intervals c.args.page) (λ page none. absurd none) x x (omega arith) e c.in-Err-write_back_run.ensures.cause in
    record {
      cause = cause;
      right = λ ss s. table_never_blames s c.args.self.now.some x e c.args.page (touch_of_reach (BreaksTables v c.args.self.now.intervals c.args.page) v x e cause);
      sound = λ m named ss knows. let after = c.describe.ensures.stays.same m named ss knows in c.in-Err-write_back_run.ensures.sound m named after.bytes after.known;
    }

pub returns-in-Err-write_back_run-clause-stays : goal.returns-in-Err-write_back_run-clause-stays
returns-in-Err-write_back_run-clause-stays g c = stays_then c.describe.ensures.stays (stays_found (core_view c.describe.new.self) (view_of c.write_back_run.new.filer) (accepted c.describe.new.self.filer) c.write_back_run.ensures.reaches)

pub returns-in-Err-write_back_run-clause-brings : goal.returns-in-Err-write_back_run-clause-brings
returns-in-Err-write_back_run-clause-brings g c = record {
  reaches = reaches_then (state c.args.self.now) (state c.describe.new.self) (accepted c.args.self.now.filer) c.describe.ensures.brings.reaches (view_of c.write_back_run.new.filer) c.write_back_run.ensures.reaches;
  came = brings_then c.describe.ensures.brings.came c.write_back_run.ensures.came;
}

pub returns-in-Err-write_back_run-clause-cost : goal.returns-in-Err-write_back_run-clause-cost
returns-in-Err-write_back_run-clause-cost g c =
    let first = c.describe.ensures.cost in
    let next = c.write_back_run.ensures.cost in
    let count = c.describe.ensures.brings.reaches.goes.makes.count in
    omega (arith, first, next, count)

pub returns-in-Err-write_back_run-clause-frames : goal.returns-in-Err-write_back_run-clause-frames
returns-in-Err-write_back_run-clause-frames g c = λ y found inside.
    let idle = c.describe.ensures.idle y found in
    let same = same_answer c.describe.result y c.in-Ok-Some.x c.in-Ok-Some.field-0 idle.0 c.in-Ok-Some.is c.in-Ok-Some.field-0-is in
    part_leaves c.args.write_back c.in-Ok-Some.x y c.args.page c.min-next.result c.args.end (state c.args.self.now).slots (state c.describe.new.self).slots (view_of c.write_back_run.new.filer).slots same
    (part_all c.in-Ok-Some.x y c.min-next.result c.args.end c.min-next.ensures same inside) (λ i. (view_of (idle.1 i)).slots) c.write_back_run.ensures.frames

-- ---- Frames stay where they are forced.

pub returns-in-Ok-None-clause-stay : goal.returns-in-Ok-None-clause-stay
returns-in-Ok-None-clause-stay g c = λ forced. c.describe.ensures.brings.stay

pub returns-in-Err-clause-stay : goal.returns-in-Err-clause-stay
returns-in-Err-clause-stay g c = λ forced. c.describe.ensures.brings.stay

pub returns-then-not-is_mapped-clause-stay : goal.returns-then-not-is_mapped-clause-stay
returns-then-not-is_mapped-clause-stay g c = λ forced. c.describe.ensures.brings.stay

pub returns-in-Ok-clause-stay : goal.returns-in-Ok-clause-stay
returns-in-Ok-clause-stay g c = run_yields c.args.write_back _ _ _ (state c.args.self.now).slots (state c.describe.new.self).slots (view_of c.write_back_run.new.filer).slots c.describe.ensures.brings.stay c.write_back_run.ensures.frames

pub returns-in-Err-write_back_run-clause-stay : goal.returns-in-Err-write_back_run-clause-stay
returns-in-Err-write_back_run-clause-stay g c = run_yields c.args.write_back _ _ _ (state c.args.self.now).slots (state c.describe.new.self).slots (view_of c.write_back_run.new.filer).slots c.describe.ensures.brings.stay c.write_back_run.ensures.frames

-- ---- The tables are revealed.

pub returns-in-Err-clause-fails : goal.returns-in-Err-clause-fails
returns-in-Err-clause-fails g c = failed_on c.in-Err.halt c.in-Err.ensures.fails

pub returns-in-Ok-None-clause-fails : goal.returns-in-Ok-None-clause-fails
returns-in-Ok-None-clause-fails g c = record { cause = tt; right = λ ss s. tt; sound = λ m named ss knows. tt }

pub returns-in-Ok-None-clause-stays : goal.returns-in-Ok-None-clause-stays
returns-in-Ok-None-clause-stays g c = c.describe.ensures.stays

pub returns-in-Ok-None-clause-brings : goal.returns-in-Ok-None-clause-brings
returns-in-Ok-None-clause-brings g c = record { reaches = c.describe.ensures.brings.reaches; came = c.describe.ensures.brings.came }

pub returns-in-Ok-None-clause-all : goal.returns-in-Ok-None-clause-all
returns-in-Ok-None-clause-all g c = λ x is within. refl

pub returns-in-Ok-None-clause-cost : goal.returns-in-Ok-None-clause-cost
returns-in-Ok-None-clause-cost g c = omega (arith, c.describe.ensures.cost)

pub returns-in-Err-clause-comes : goal.returns-in-Err-clause-comes
returns-in-Err-clause-comes g c = record { further = tt; rest = λ m named ss knows. tt; part = λ m named ss knows. tt }

pub returns-in-Err-clause-stays : goal.returns-in-Err-clause-stays
returns-in-Err-clause-stays g c = c.describe.ensures.stays

pub returns-in-Err-clause-brings : goal.returns-in-Err-clause-brings
returns-in-Err-clause-brings g c = record { reaches = c.describe.ensures.brings.reaches; came = c.describe.ensures.brings.came }

pub returns-in-Err-clause-all : goal.returns-in-Err-clause-all
returns-in-Err-clause-all g c = λ x is within. tt

pub returns-in-Err-clause-cost : goal.returns-in-Err-clause-cost
returns-in-Err-clause-cost g c = omega (arith, c.describe.ensures.cost)

pub returns-then-not-is_mapped-clause-fails : goal.returns-then-not-is_mapped-clause-fails
returns-then-not-is_mapped-clause-fails g c = record { cause = tt; right = λ ss s. tt; sound = λ m named ss knows. tt }

pub returns-then-not-is_mapped-clause-stays : goal.returns-then-not-is_mapped-clause-stays
returns-then-not-is_mapped-clause-stays g c = c.describe.ensures.stays

pub returns-then-not-is_mapped-clause-brings : goal.returns-then-not-is_mapped-clause-brings
returns-then-not-is_mapped-clause-brings g c = record { reaches = c.describe.ensures.brings.reaches; came = c.describe.ensures.brings.came }

pub returns-then-not-is_mapped-clause-cost : goal.returns-then-not-is_mapped-clause-cost
returns-then-not-is_mapped-clause-cost g c = omega (arith, c.describe.ensures.cost)

pub returns-in-Ok-clause-fails : goal.returns-in-Ok-clause-fails
returns-in-Ok-clause-fails g c = record { cause = tt; right = λ ss s. tt; sound = λ m named ss knows. tt }

pub returns-in-Err-write_back_run-clause-comes : goal.returns-in-Err-write_back_run-clause-comes
returns-in-Err-write_back_run-clause-comes g c = record { further = tt; rest = λ m named ss knows. tt; part = λ m named ss knows. tt }

pub returns-in-Err-write_back_run-clause-all : goal.returns-in-Err-write_back_run-clause-all
returns-in-Err-write_back_run-clause-all g c = λ x is within. tt
