use Rattle.std.proofs.Common.{◌∙◌, sym, subst, ◌+◌, refl}
use Rattle.std.proofs.lemmas.Option.{none-some}
use Rattle.flat_machine.specs.declared.call.Call.TheVariants as call
use Rattle.flat_machine.specs.declared.call.Reply.TheVariants as reply
use Rattle.frame_pool.specs.Frames.{Slots}
use Rattle.filer_kernel.specs.View.{accepted, disk_of}
use Rattle.fault_core.specs.Core.{state}
use Rattle.fault_core.specs.Range.{AreClean}
use Rattle.fault_core.proofs.YieldLemmas.{yield_same, yield_then}
use Rattle.running_words.proofs.RunningLemmas.{running_laws}
use Rattle.space_tables.specs.Shows.{IsRunAt}
use Rattle.table_calls.specs.Answers.{TablesSay}
use Rattle.space_calls.specs.Calls.{Looks}
use Rattle.space_calls.specs.Ranges.{BreaksRange}
use Rattle.space_calls.proofs.CameLemmas.{came_own, came_then, knows, still_runs, whole_after, whole_of}
use Rattle.space_calls.proofs.CarryLemmas.{allowed_done}
use Rattle.space_calls.proofs.LookLemmas.{looked_fault, looked_word, looks_asked, looks_fits, looks_reached, looks_then, looks_waited}
use Rattle.space_calls.proofs.MovedLemmas.{flush_runs}
use Rattle.space_calls.proofs.OutcomeLemmas.{halts_after, halts_at, halts_written, halts_wider, on_looked, own_looked}
use Rattle.space_calls.proofs.RangeLemmas.{asked_halt, fault_halt, found_run, found_word, given_so, never_refused, no_frame_came, of_space, within_halt}
use Rattle.space_calls.proofs.RefusedCalls.{force_refused, force_there}
use Rattle.space_calls.proofs.RunLemmas.{knows as knows_of, quiet_passes}
use Rattle.space_calls.proofs.range.force_out.Given as given
use Rattle.space_calls.proofs.range.force_out.Goals as goal
use Rattle.space_calls.proofs.range.force_out.Goals.{After-flush, After-range_of, After-sync}

asked : (g : given.Over) (c : After-range_of g) → Looks c.args.core.now c.range_of.new.core
asked g c = looks_asked c.requires.size c.range_of.ensures.asked c.range_of.ensures.still

looked : (g : given.Over) (c : After-flush g) → Looks c.args.core.now c.flush.new.self
looked g c =
    let e = c.flush.ensures in
    let looks = looks_asked c.requires.size c.range_of.ensures.asked c.range_of.ensures.still in
    looks_then looks (looks_reached (looks_fits looks c.requires.size) e.brings.reaches e.brings.came e.stays.intervals e.stays.same e.stays.sees)

settled : (g : given.Over) (c : After-sync g) → Looks c.args.core.now c.sync.new.core
settled g c =
    let e = c.flush.ensures in
    let looks = looks_asked c.requires.size c.range_of.ensures.asked c.range_of.ensures.still in
    let flushed = looks_then looks (looks_reached (looks_fits looks c.requires.size) e.brings.reaches e.brings.came e.stays.intervals e.stays.same e.stays.sees) in
    looks_then flushed (looks_waited (looks_fits flushed c.requires.size) c.sync.ensures.waits)

-- ---- There is no such space.

pub returns-in-Ok-Err-clause-answers : goal.returns-in-Ok-Err-clause-answers
returns-in-Ok-Err-clause-answers g c = λ volume m r.
    let old = c.args.core.now in
    let known = knows_of old (accepted old.filer) c.requires.size volume m r in
    let is = force_refused m c.args.space c.in-Ok-Err.word (found_word m.spaces c.args.space c.in-Ok-Err.word c.in-Ok-Err.field-0 c.in-Ok-Err.field-0-is (c.in-Ok-Err.ensures.answer _ _ m.spaces known)) in
    looked_word (asked g (goal.at.returns-in-Ok-Err-clause-answers g c).After-range_of) (g.met.D.Disk.in_form (disk_of old.filer)) r (call.ForceOut c.args.space) c.in-Ok-Err.word is

pub returns-in-Ok-Err-clause-clean : goal.returns-in-Ok-Err-clause-clean
returns-in-Ok-Err-clause-clean g c = λ volume m s r there.
    let old = c.args.core.now in
    let known = knows_of old (accepted old.filer) c.requires.size volume m r in
    absurd (never_refused m.spaces c.args.space s c.in-Ok-Err.word there (found_word m.spaces c.args.space c.in-Ok-Err.word c.in-Ok-Err.field-0 c.in-Ok-Err.field-0-is (c.in-Ok-Err.ensures.answer _ _ m.spaces known)))

pub returns-in-Ok-Err-clause-synced : goal.returns-in-Ok-Err-clause-synced
returns-in-Ok-Err-clause-synced g c = λ volume m r free.
    let old = c.args.core.now in
    let known = knows_of old (accepted old.filer) c.requires.size volume m r in
    absurd (none-some c.in-Ok-Err.word (sym free ∙ force_refused m c.args.space c.in-Ok-Err.word
    (found_word m.spaces c.args.space c.in-Ok-Err.word c.in-Ok-Err.field-0 c.in-Ok-Err.field-0-is (c.in-Ok-Err.ensures.answer _ _ m.spaces known))))

-- ---- The disk failed.

pub returns-in-Err-clause-answers : goal.returns-in-Err-clause-answers
returns-in-Err-clause-answers g c = λ volume m r.
    let old = c.args.core.now in
    let known = knows_of old (accepted old.filer) c.requires.size volume m r in
    looked_fault (asked g (goal.at.returns-in-Err-clause-answers g c).After-range_of) (g.met.D.Disk.in_form (disk_of old.filer)) r (call.ForceOut c.args.space) c.in-Err.halt (c.in-Err.ensures.answer _ _ m.spaces known)

pub returns-in-Err-clause-fails : goal.returns-in-Err-clause-fails
returns-in-Err-clause-fails g c =
    let old = c.args.core.now in
    halts_wider c.in-Err.ensures.fails (asked_halt (state old) (state c.range_of.new.core) (accepted old.filer) c.args.space old.intervals c.in-Err.halt c.in-Err.ensures.fails.cause)

pub returns-in-Err-flush-clause-answers : goal.returns-in-Err-flush-clause-answers
returns-in-Err-flush-clause-answers g c = λ volume m r.
    let old = c.args.core.now in
    let known = knows_of old (accepted old.filer) c.requires.size volume m r in
    let sound = c.in-Err-flush.ensures.fails.sound _ _ m.spaces (c.range_of.ensures.asked.same _ _ m.spaces known) in
    looked_fault (looked g (goal.at.returns-in-Err-flush-clause-answers g c).After-flush) (g.met.D.Disk.in_form (disk_of old.filer)) r (call.ForceOut c.args.space) c.in-Err-flush.halt sound

pub returns-in-Err-flush-clause-fails : goal.returns-in-Err-flush-clause-fails
returns-in-Err-flush-clause-fails g c =
    let old = c.args.core.now in
    let mid = c.range_of.new.core in
    let first = c.range_of.ensures.asked in
    let looks = asked g (goal.at.returns-in-Err-flush-clause-fails g c).After-range_of in
    let fails = halts_at (looks_fits looks c.requires.size) c.flush.ensures.brings.reaches.goes.makes c.in-Err-flush.halt c.in-Err-flush.ensures.fails.cause c.in-Err-flush.ensures.fails.right in
    let read = given_so (TablesSay (state old) (λ b. IsRunAt b c.args.space)) c.in-Ok-Ok.found c.in-Ok-Ok.field-0 c.in-Ok-Ok.field-0-is c.in-Ok-Ok.ensures.read in
    halts_after looks fails (within_halt (state old) (state mid) (accepted old.filer) c.args.space first.reaches old.intervals mid.intervals first.intervals (state c.flush.new.self) c.in-Ok-Ok.found read c.in-Err-flush.halt c.in-Err-flush.ensures.fails.cause)

pub returns-in-Err-sync-clause-answers : goal.returns-in-Err-sync-clause-answers
returns-in-Err-sync-clause-answers g c = λ volume m r.
    let old = c.args.core.now in
    looked_fault (settled g (goal.at.returns-in-Err-sync-clause-answers g c).After-sync) (g.met.D.Disk.in_form (disk_of old.filer)) r (call.ForceOut c.args.space) c.in-Err-sync.halt c.in-Err-sync.ensures.fails.cause

pub returns-in-Err-sync-clause-fails : goal.returns-in-Err-sync-clause-fails
returns-in-Err-sync-clause-fails g c =
    let old = c.args.core.now in
    let looks = looked g (goal.at.returns-in-Err-sync-clause-fails g c).After-flush in
    halts_written looks.makes c.in-Err-sync.ensures.fails (fault_halt (BreaksRange (state old) old.intervals c.args.space) (state old) (state c.flush.new.self) (state c.sync.new.core) c.in-Err-sync.halt looks.makes.went.faults c.in-Err-sync.ensures.fails.cause)

-- ---- It is done.

pub returns-in-Ok-sync-clause-answers : goal.returns-in-Ok-sync-clause-answers
returns-in-Ok-sync-clause-answers g c = λ volume m r. record {
  carried = (let whole = whole_of c.args.core.now c.requires.size in
      let known = knows running_laws whole r in
      let asked = c.range_of.ensures.asked in
      let found = found_run m.spaces c.args.space c.in-Ok-Ok.found c.in-Ok-Ok.field-0 c.in-Ok-Ok.field-0-is (c.in-Ok-Ok.ensures.answer _ _ m.spaces known) in
      let free = force_there m c.args.space found.0 in
      let forced = c.flush.ensures in
      let settled = c.sync.ensures.waits in
      let came = came_then (state c.args.core.now) (state c.range_of.new.core) (state c.flush.new.self) whole.layout
      (came_own asked.reaches asked.came asked.same asked.intervals) (came_own forced.brings.reaches forced.brings.came forced.stays.same forced.stays.intervals) in
      let s = found.1.0 in
      let rest = of_space m.spaces c.args.space s c.in-Ok-Ok.found (AreClean m.spaces (state c.flush.new.self).slots) found.1 found.1.1 (c.in-Ok.ensures.clean _ _ m.spaces (asked.same _ _ m.spaces known)) in
      record {
        allowed = allowed_done m (call.ForceOut c.args.space) reply.Done free refl;
        runs = still_runs running_laws (whole_after whole came.reaches) (flush_runs running_laws whole r came c.args.space s free found.1.1 rest)
            (came_own settled.reaches (no_frame_came (state c.flush.new.self).slots (state c.sync.new.core).slots settled.frames) settled.known settled.intervals);
      });
  sound = tt;
  passes = quiet_passes c.args.core.now c.sync.new.core volume m _ (g.met.D.Disk.in_form (disk_of c.args.core.now.filer)) r (settled g (goal.at.returns-in-Ok-sync-clause-answers g c).After-sync).makes;
}

pub returns-in-Ok-sync-clause-clean : goal.returns-in-Ok-sync-clause-clean
returns-in-Ok-sync-clause-clean g c = λ volume m s r there.
    let old = c.args.core.now in
    let known = knows_of old (accepted old.filer) c.requires.size volume m r in
    let found = found_run m.spaces c.args.space c.in-Ok-Ok.found c.in-Ok-Ok.field-0 c.in-Ok-Ok.field-0-is (c.in-Ok-Ok.ensures.answer _ _ m.spaces known) in
    subst (λ (p : Slots). AreClean m.spaces p s.first (s.first + s.pages)) (sym c.sync.ensures.waits.frames)
    (of_space m.spaces c.args.space s c.in-Ok-Ok.found (AreClean m.spaces (state c.flush.new.self).slots) found.1 there (c.in-Ok.ensures.clean _ _ m.spaces (c.range_of.ensures.asked.same _ _ m.spaces known)))

-- ---- The frames stay, or give way.

pub returns-in-Ok-Err-clause-stay : goal.returns-in-Ok-Err-clause-stay
returns-in-Ok-Err-clause-stay g c = c.range_of.ensures.asked.stay

pub returns-in-Err-clause-stay : goal.returns-in-Err-clause-stay
returns-in-Err-clause-stay g c = c.range_of.ensures.asked.stay

pub returns-in-Err-flush-clause-stay : goal.returns-in-Err-flush-clause-stay
returns-in-Err-flush-clause-stay g c = yield_then c.range_of.ensures.asked.stay c.flush.ensures.stay

pub returns-in-Ok-sync-clause-stay : goal.returns-in-Ok-sync-clause-stay
returns-in-Ok-sync-clause-stay g c = yield_then (yield_then c.range_of.ensures.asked.stay c.flush.ensures.stay) (yield_same (state c.flush.new.self).slots (state c.sync.new.core).slots c.sync.ensures.waits.frames)

pub returns-in-Err-sync-clause-stay : goal.returns-in-Err-sync-clause-stay
returns-in-Err-sync-clause-stay g c = yield_then (yield_then c.range_of.ensures.asked.stay c.flush.ensures.stay) (yield_same (state c.flush.new.self).slots (state c.sync.new.core).slots c.sync.ensures.waits.frames)

-- ---- Whatever it came to.

pub returns-in-Ok-Err-clause-went : goal.returns-in-Ok-Err-clause-went
returns-in-Ok-Err-clause-went g c = own_looked (asked g (goal.at.returns-in-Ok-Err-clause-went g c).After-range_of)

pub returns-in-Err-clause-went : goal.returns-in-Err-clause-went
returns-in-Err-clause-went g c = own_looked (asked g (goal.at.returns-in-Err-clause-went g c).After-range_of)

pub returns-in-Err-flush-clause-went : goal.returns-in-Err-flush-clause-went
returns-in-Err-flush-clause-went g c = own_looked (looked g (goal.at.returns-in-Err-flush-clause-went g c).After-flush)

pub returns-in-Ok-sync-clause-went : goal.returns-in-Ok-sync-clause-went
returns-in-Ok-sync-clause-went g c = own_looked (settled g (goal.at.returns-in-Ok-sync-clause-went g c).After-sync)

pub returns-in-Err-sync-clause-went : goal.returns-in-Err-sync-clause-went
returns-in-Err-sync-clause-went g c = own_looked (settled g (goal.at.returns-in-Err-sync-clause-went g c).After-sync)

pub returns-in-Ok-Err-clause-sees : goal.returns-in-Ok-Err-clause-sees
returns-in-Ok-Err-clause-sees g c = on_looked (asked g (goal.at.returns-in-Ok-Err-clause-sees g c).After-range_of)

pub returns-in-Ok-sync-clause-sees : goal.returns-in-Ok-sync-clause-sees
returns-in-Ok-sync-clause-sees g c = on_looked (settled g (goal.at.returns-in-Ok-sync-clause-sees g c).After-sync)
