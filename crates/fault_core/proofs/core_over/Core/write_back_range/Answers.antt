use Rattle.std.proofs.Common.{◌∙◌, ◌+◌, ◌<◌, arith}
use Rattle.swapper_kernel.specs.HaltLaws.{brings_then}
use Rattle.fault_core.specs.Core.{kept, state}
use Rattle.fault_core.proofs.YieldLemmas.{yield_then}
use Rattle.fault_core.proofs.RangeLemmas.{writing_back_none, resting_more, resting_halt, resting_stopped, resting_done, resting_all, resting_cost, stopped_cost, frames_stopped, frames_done}
use Rattle.fault_core.proofs.core_over.Core.write_back_range.Goals as goal
use Rattle.filer_kernel.specs.View.{accepted}

pub loop-part-init : goal.loop-part-init
loop-part-init g c = writing_back_none (state c.args.self.now) (kept c.args.self.now) c.args.self.now.intervals c.args.write_back c.args.first c.end_of-end.result c.requires.size

-- ---- All was passed.

pub returns-then-page-end-clause-rest : goal.returns-then-page-end-clause-rest
returns-then-page-end-clause-rest g c = resting_done (accepted c.args.self.now.filer) c.loop-part.invariant (c.args.first + c.args.pages) c.end_of-end.ensures.all c.if-page-end.true

pub returns-then-page-end-clause-stays : goal.returns-then-page-end-clause-stays
returns-then-page-end-clause-stays g c = record {
  sees = c.loop-part.invariant.sees;
  same = λ m named ss knows. (c.loop-part.invariant.revealed m named ss knows).0;
  intervals = c.loop-part.invariant.same_count;
}

pub returns-then-page-end-clause-brings : goal.returns-then-page-end-clause-brings
returns-then-page-end-clause-brings g c = record {
  reaches = c.loop-part.invariant.reaches;
  came = c.loop-part.invariant.came;
}

pub returns-then-page-end-clause-stay : goal.returns-then-page-end-clause-stay
returns-then-page-end-clause-stay g c = c.loop-part.invariant.stay

pub returns-then-page-end-clause-cost : goal.returns-then-page-end-clause-cost
returns-then-page-end-clause-cost g c = resting_cost (accepted c.args.self.now.filer) c.loop-part.invariant (c.args.self.now.intervals + 1) c.loop-part.auto._part-end

pub returns-then-page-end-clause-frames : goal.returns-then-page-end-clause-frames
returns-then-page-end-clause-frames g c = frames_done (accepted c.args.self.now.filer) c.loop-part.invariant c.args.self.now.formed c.args.pages c.end_of-end.ensures.within c.end_of-end.ensures.all

-- ---- One interval more.

pub write_back_part-requires-clause-size : goal.write_back_part-requires-clause-size
write_back_part-requires-clause-size g c = c.loop-part.invariant.size

pub loop-part-preserved : goal.loop-part-preserved
loop-part-preserved g c =
    let new = c.write_back_part.new.self in
    let further = c.in-Ok.ensures.comes.further in
    resting_more (accepted c.args.self.now.filer) c.loop-part.invariant (state new) (kept new) new.intervals c.in-Ok.next c.if-page-end.false further.0 c.in-Ok.ensures.comes.rest c.in-Ok.ensures.comes.part c.in-Ok.ensures.stays.same
    c.write_back_part.ensures.frames c.in-Ok.ensures.all c.write_back_part.ensures.stay
    c.write_back_part.ensures.stays.sees c.write_back_part.ensures.brings.reaches c.write_back_part.ensures.brings.came c.write_back_part.ensures.stays.intervals c.write_back_part.ensures.cost

-- ---- The disk failed.

pub returns-in-Err-clause-fails : goal.returns-in-Err-clause-fails
returns-in-Err-clause-fails g c =
    let upto = c.end_of-end.ensures.within in
    let test = c.if-page-end.false in
    let to = c.args.first + c.args.pages in
    record {
      cause = resting_halt (accepted c.args.self.now.filer) c.loop-part.invariant to (omega (arith, upto, test)) (state c.write_back_part.new.self) c.in-Err.halt c.in-Err.ensures.fails.cause;
      right = λ ss s. c.in-Err.ensures.fails.right ss (c.loop-part.invariant.sees ss s);
      sound = λ m named ss knows. c.in-Err.ensures.fails.sound m named ss (c.loop-part.invariant.revealed m named ss knows).0;
    }

pub returns-in-Err-clause-stays : goal.returns-in-Err-clause-stays
returns-in-Err-clause-stays g c = record {
  sees = λ ss s. c.write_back_part.ensures.stays.sees ss (c.loop-part.invariant.sees ss s);
  same = λ m named ss knows. c.in-Err.ensures.stays.same m named ss (c.loop-part.invariant.revealed m named ss knows).0;
  intervals = c.write_back_part.ensures.stays.intervals ∙ c.loop-part.invariant.same_count;
}

pub returns-in-Err-clause-brings : goal.returns-in-Err-clause-brings
returns-in-Err-clause-brings g c = record {
  reaches = resting_stopped (accepted c.args.self.now.filer) c.loop-part.invariant (state c.write_back_part.new.self) c.write_back_part.ensures.brings.reaches;
  came = brings_then c.loop-part.invariant.came c.write_back_part.ensures.brings.came;
}

pub returns-in-Err-clause-stay : goal.returns-in-Err-clause-stay
returns-in-Err-clause-stay g c = λ forced. yield_then (c.loop-part.invariant.stay forced) (c.write_back_part.ensures.stay forced)

pub returns-in-Err-clause-cost : goal.returns-in-Err-clause-cost
returns-in-Err-clause-cost g c = stopped_cost (accepted c.args.self.now.filer) c.loop-part.invariant (state c.write_back_part.new.self) (c.args.self.now.intervals + 1) c.loop-part-test.true c.write_back_part.ensures.cost

pub returns-in-Err-clause-frames : goal.returns-in-Err-clause-frames
returns-in-Err-clause-frames g c =
    frames_stopped (accepted c.args.self.now.filer) c.loop-part.invariant c.args.self.now.formed c.args.pages c.end_of-end.ensures.within c.end_of-end.ensures.all (state c.write_back_part.new.self) c.if-page-end.false c.write_back_part.ensures.frames

-- ---- So many intervals are all.

pub returns-clause-rest : goal.returns-clause-rest
returns-clause-rest g c =
    let past = c.loop-part-test.false in
    let most : c.args.self.now.intervals < c.loop-part._part = omega (arith, past) in
    resting_all (accepted c.args.self.now.filer) c.loop-part.invariant (c.args.first + c.args.pages) c.end_of-end.ensures.all most

pub returns-clause-stays : goal.returns-clause-stays
returns-clause-stays g c = record {
  sees = c.loop-part.invariant.sees;
  same = λ m named ss knows. (c.loop-part.invariant.revealed m named ss knows).0;
  intervals = c.loop-part.invariant.same_count;
}

pub returns-clause-brings : goal.returns-clause-brings
returns-clause-brings g c = record {
  reaches = c.loop-part.invariant.reaches;
  came = c.loop-part.invariant.came;
}

pub returns-clause-stay : goal.returns-clause-stay
returns-clause-stay g c = c.loop-part.invariant.stay

pub returns-clause-cost : goal.returns-clause-cost
returns-clause-cost g c = resting_cost (accepted c.args.self.now.filer) c.loop-part.invariant (c.args.self.now.intervals + 1) c.loop-part.auto._part-end

pub returns-clause-frames : goal.returns-clause-frames
returns-clause-frames g c = frames_done (accepted c.args.self.now.filer) c.loop-part.invariant c.args.self.now.formed c.args.pages c.end_of-end.ensures.within c.end_of-end.ensures.all
