use Rattle.std.proofs.Common.{◌<◌, ◌+◌, ◌∙◌, arith, refl}
use Rattle.swapper_kernel.specs.HaltLaws.{brings_then}
use Rattle.fault_core.specs.Core.{kept, state}
use Rattle.fault_core.proofs.BeforeLemmas.{touches_then}
use Rattle.fault_core.proofs.KillLemmas.{killing_none, killing_more, killing_left, killing_halt, killing_sound, killing_cost, killing_found, killed_all, killed_cost, killed_goes, killed_known, killed_most, range_of}
use Rattle.fault_core.proofs.KeptLemmas.{looked}
use Rattle.fault_core.proofs.core_over.Core.kill.Goals as goal
use Rattle.filer_kernel.specs.View.{accepted}

pub loop-part-init : goal.loop-part-init
loop-part-init g c = killing_none (state c.args.self.now) (kept c.args.self.now) c.args.self.now.intervals c.args.first c.args.pages c.end_of-end.result c.requires.size

pub kill_part-requires-clause-size : goal.kill_part-requires-clause-size
kill_part-requires-clause-size g c = c.loop-part.invariant.size

pub loop-part-preserved : goal.loop-part-preserved
loop-part-preserved g c =
    killing_more (accepted c.args.self.now.filer) c.loop-part.invariant (state c.kill_part.new.self) (kept c.kill_part.new.self) c.kill_part.new.self.intervals c.end_of-end.ensures.within c.kill_part.ensures.left
    c.in-Ok.next c.if-page-end.false c.in-Ok.ensures.comes.next.0 c.kill_part.ensures.brings.touches c.kill_part.ensures.brings.came c.kill_part.ensures.stays.sees c.kill_part.ensures.stays.intervals c.in-Ok.ensures.comes.gone c.in-Ok.ensures.comes.part
    (λ y found. let e = c.in-Ok.ensures.idle y found in (e.1, e.2)) c.kill_part.ensures.cost

-- ---- A page could not be looked up.

pub returns-in-Err-clause-fails : goal.returns-in-Err-clause-fails
returns-in-Err-clause-fails g c =
    let upto = c.end_of-end.ensures.within in
    let test = c.if-page-end.false in
    let to = c.args.first + c.args.pages in
    record {
      cause = killing_halt (accepted c.args.self.now.filer) c.loop-part.invariant (state c.kill_part.new.self) (omega (arith, upto, test)) c.in-Err.halt c.in-Err.ensures.fails.cause;
      right = λ ss s. c.in-Err.ensures.fails.right ss (c.loop-part.invariant.sees ss s);
      sound = λ m named ss knows. killing_sound (accepted c.args.self.now.filer) c.loop-part.invariant m named ss c.in-Err.halt knows c.in-Err.ensures.fails.sound;
    }

pub returns-in-Err-clause-killed : goal.returns-in-Err-clause-killed
returns-in-Err-clause-killed g c = λ m named ss range knows from_first so_many.
    killed_goes range knows (killing_left (accepted c.args.self.now.filer) c.loop-part.invariant (state c.kill_part.new.self) (kept c.kill_part.new.self) c.kill_part.new.self.intervals c.end_of-end.ensures.within c.kill_part.ensures.left
    m named ss range knows from_first so_many)
    (touches_then (state c.args.self.now) (state c.loop-part.self) (accepted c.args.self.now.filer) c.loop-part.invariant.touches (state c.kill_part.new.self) c.kill_part.ensures.brings.touches)

pub returns-in-Err-clause-stays : goal.returns-in-Err-clause-stays
returns-in-Err-clause-stays g c = record {
  sees = λ ss s. c.kill_part.ensures.stays.sees ss (c.loop-part.invariant.sees ss s);
  known = λ m n named ss knows stands.
      killed_known (range_of c.args.first c.args.pages) knows
      (killing_left (accepted c.args.self.now.filer) c.loop-part.invariant (state c.kill_part.new.self) (kept c.kill_part.new.self) c.kill_part.new.self.intervals c.end_of-end.ensures.within c.kill_part.ensures.left
      m named ss (range_of c.args.first c.args.pages) knows refl refl) n stands;
  intervals = c.kill_part.ensures.stays.intervals ∙ c.loop-part.invariant.intervals;
}

pub returns-in-Err-clause-brings : goal.returns-in-Err-clause-brings
returns-in-Err-clause-brings g c = record {
  touches =
      touches_then (state c.args.self.now) (state c.loop-part.self) (accepted c.args.self.now.filer) c.loop-part.invariant.touches (state c.kill_part.new.self) c.kill_part.ensures.brings.touches;
  came = brings_then c.loop-part.invariant.came c.kill_part.ensures.brings.came;
}

pub returns-in-Err-clause-cost : goal.returns-in-Err-clause-cost
returns-in-Err-clause-cost g c = killing_cost (accepted c.args.self.now.filer) c.loop-part.invariant (state c.kill_part.new.self) (c.args.self.now.intervals + 1) c.loop-part-test.true c.kill_part.ensures.cost

-- ---- All are given up.

pub returns-then-page-end-clause-gone : goal.returns-then-page-end-clause-gone
returns-then-page-end-clause-gone g c = killed_all (accepted c.args.self.now.filer) c.loop-part.invariant c.end_of-end.ensures.all c.if-page-end.true

pub returns-then-page-end-clause-killed : goal.returns-then-page-end-clause-killed
returns-then-page-end-clause-killed g c = λ m named ss range knows from_first so_many. killed_goes range knows (c.loop-part.invariant.left m named ss range knows from_first so_many) c.loop-part.invariant.touches

pub returns-then-page-end-clause-stays : goal.returns-then-page-end-clause-stays
returns-then-page-end-clause-stays g c = record {
  sees = c.loop-part.invariant.sees;
  known = λ m n named ss knows stands.
      killed_known (range_of c.args.first c.args.pages) knows (c.loop-part.invariant.left m named ss (range_of c.args.first c.args.pages) knows refl refl) n stands;
  intervals = c.loop-part.invariant.intervals;
}

pub returns-then-page-end-clause-brings : goal.returns-then-page-end-clause-brings
returns-then-page-end-clause-brings g c = record {
  touches = c.loop-part.invariant.touches;
  came = c.loop-part.invariant.came;
}

pub returns-then-page-end-clause-cost : goal.returns-then-page-end-clause-cost
returns-then-page-end-clause-cost g c = killed_cost (accepted c.args.self.now.filer) c.loop-part.invariant (c.args.self.now.intervals + 1) c.loop-part.auto._part-end

-- ---- So many intervals are all.

pub returns-clause-gone : goal.returns-clause-gone
returns-clause-gone g c =
    let past = c.loop-part-test.false in
    let most : c.args.self.now.intervals < c.loop-part._part = omega (arith, past) in
    killed_most (accepted c.args.self.now.filer) c.loop-part.invariant c.end_of-end.ensures.all most

pub returns-clause-killed : goal.returns-clause-killed
returns-clause-killed g c = λ m named ss range knows from_first so_many. killed_goes range knows (c.loop-part.invariant.left m named ss range knows from_first so_many) c.loop-part.invariant.touches

pub returns-clause-stays : goal.returns-clause-stays
returns-clause-stays g c = record {
  sees = c.loop-part.invariant.sees;
  known = λ m n named ss knows stands.
      killed_known (range_of c.args.first c.args.pages) knows (c.loop-part.invariant.left m named ss (range_of c.args.first c.args.pages) knows refl refl) n stands;
  intervals = c.loop-part.invariant.intervals;
}

pub returns-clause-brings : goal.returns-clause-brings
returns-clause-brings g c = record {
  touches = c.loop-part.invariant.touches;
  came = c.loop-part.invariant.came;
}

pub returns-clause-cost : goal.returns-clause-cost
returns-clause-cost g c = killed_cost (accepted c.args.self.now.filer) c.loop-part.invariant (c.args.self.now.intervals + 1) c.loop-part.auto._part-end

-- ---- No table was asked.

pub returns-in-Err-clause-idle : goal.returns-in-Err-clause-idle
returns-in-Err-clause-idle g c = λ found.
    let upto = c.end_of-end.ensures.within in
    let test = c.if-page-end.false in
    let was = c.loop-part.invariant.idle found in
    let one = killing_found (accepted c.args.self.now.filer) c.loop-part.invariant (omega (arith, upto, test)) found in
    let e = c.in-Err.ensures.idle one.0 one.1 in
    (e.0, e.1 ∙ was.0, e.2 ∙ was.1)

pub returns-then-page-end-clause-idle : goal.returns-then-page-end-clause-idle
returns-then-page-end-clause-idle g c = λ found. let was = c.loop-part.invariant.idle found in (refl, was.0, was.1)

pub returns-clause-idle : goal.returns-clause-idle
returns-clause-idle g c = λ found. let was = c.loop-part.invariant.idle found in (refl, was.0, was.1)
