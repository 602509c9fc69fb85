use Rattle.std.proofs.Common.{refl}
use Rattle.flat_machine.specs.declared.call.Call.TheVariants as call
use Rattle.flat_machine.specs.declared.call.Reply.TheVariants as reply
use Rattle.filer_kernel.specs.View.{accepted, disk_of}
use Rattle.fault_core.specs.Core.{state}
use Rattle.fault_core.specs.Range.{AreGone}
use Rattle.space_tables.specs.Shows.{IsRunAt}
use Rattle.table_calls.specs.Answers.{TablesSay}
use Rattle.space_calls.specs.Calls.{Looks}
use Rattle.space_calls.proofs.LookLemmas.{looked_done, looked_fault, looked_word, looks_asked, looks_fits, looks_reached, looks_then}
use Rattle.space_calls.proofs.OutcomeLemmas.{halts_after, halts_at, halts_wider, on_looked, own_looked}
use Rattle.space_calls.proofs.RangeLemmas.{asked_halt, deactivate_stays, found_run, found_word, given_so, never_refused, of_space, within_halt}
use Rattle.space_calls.proofs.RefusedCalls.{deactivate_refused, deactivate_there}
use Rattle.space_calls.proofs.RunLemmas.{knows}
use Rattle.space_calls.proofs.range.deactivate.Given as given
use Rattle.space_calls.proofs.range.deactivate.Goals as goal
use Rattle.space_calls.proofs.range.deactivate.Goals.{After-evict, After-range_of}

asked : (g : given.Over) (c : After-range_of g) → Looks c.args.core.now c.range_of.new.core
asked g c = looks_asked c.requires.size c.range_of.ensures.asked c.range_of.ensures.still

looked : (g : given.Over) (c : After-evict g) → Looks c.args.core.now c.evict.new.self
looked g c =
    let e = c.evict.ensures in
    let looks = looks_asked c.requires.size c.range_of.ensures.asked c.range_of.ensures.still in
    looks_then looks (looks_reached (looks_fits looks c.requires.size) e.brings.reaches e.brings.came e.stays.intervals e.stays.same e.stays.sees)

-- ---- There is no such space.

pub returns-in-Ok-Err-clause-answers : goal.returns-in-Ok-Err-clause-answers
returns-in-Ok-Err-clause-answers g c = λ volume m r.
    let old = c.args.core.now in
    let known = knows old (accepted old.filer) c.requires.size volume m r in
    let is = deactivate_refused m c.args.space c.in-Ok-Err.word (found_word m.spaces c.args.space c.in-Ok-Err.word c.in-Ok-Err.field-0 c.in-Ok-Err.field-0-is (c.in-Ok-Err.ensures.answer _ _ m.spaces known)) in
    looked_word (asked g (goal.at.returns-in-Ok-Err-clause-answers g c).After-range_of) (g.met.D.Disk.in_form (disk_of old.filer)) r (call.Deactivate c.args.space) c.in-Ok-Err.word is

pub returns-in-Ok-Err-clause-gone : goal.returns-in-Ok-Err-clause-gone
returns-in-Ok-Err-clause-gone g c = λ volume m s r there.
    let old = c.args.core.now in
    let known = knows old (accepted old.filer) c.requires.size volume m r in
    absurd (never_refused m.spaces c.args.space s c.in-Ok-Err.word there (found_word m.spaces c.args.space c.in-Ok-Err.word c.in-Ok-Err.field-0 c.in-Ok-Err.field-0-is (c.in-Ok-Err.ensures.answer _ _ m.spaces known)))

-- ---- The disk failed.

pub returns-in-Err-clause-answers : goal.returns-in-Err-clause-answers
returns-in-Err-clause-answers g c = λ volume m r.
    let old = c.args.core.now in
    let known = knows old (accepted old.filer) c.requires.size volume m r in
    looked_fault (asked g (goal.at.returns-in-Err-clause-answers g c).After-range_of) (g.met.D.Disk.in_form (disk_of old.filer)) r (call.Deactivate c.args.space) c.in-Err.halt (c.in-Err.ensures.answer _ _ m.spaces known)

pub returns-in-Err-clause-fails : goal.returns-in-Err-clause-fails
returns-in-Err-clause-fails g c =
    let old = c.args.core.now in
    halts_wider c.in-Err.ensures.fails (asked_halt (state old) (state c.range_of.new.core) (accepted old.filer) c.args.space old.intervals c.in-Err.halt c.in-Err.ensures.fails.cause)

pub returns-in-Err-evict-clause-answers : goal.returns-in-Err-evict-clause-answers
returns-in-Err-evict-clause-answers g c = λ volume m r.
    let old = c.args.core.now in
    let known = knows old (accepted old.filer) c.requires.size volume m r in
    let sound = c.in-Err-evict.ensures.fails.sound _ _ m.spaces (c.range_of.ensures.asked.same _ _ m.spaces known) in
    looked_fault (looked g (goal.at.returns-in-Err-evict-clause-answers g c).After-evict) (g.met.D.Disk.in_form (disk_of old.filer)) r (call.Deactivate c.args.space) c.in-Err-evict.halt sound

pub returns-in-Err-evict-clause-fails : goal.returns-in-Err-evict-clause-fails
returns-in-Err-evict-clause-fails g c =
    let old = c.args.core.now in
    let mid = c.range_of.new.core in
    let first = c.range_of.ensures.asked in
    let looks = asked g (goal.at.returns-in-Err-evict-clause-fails g c).After-range_of in
    let fails = halts_at (looks_fits looks c.requires.size) c.evict.ensures.brings.reaches.goes.makes c.in-Err-evict.halt c.in-Err-evict.ensures.fails.cause c.in-Err-evict.ensures.fails.right in
    let read = given_so (TablesSay (state old) (λ b. IsRunAt b c.args.space)) c.in-Ok-Ok.found c.in-Ok-Ok.field-0 c.in-Ok-Ok.field-0-is c.in-Ok-Ok.ensures.read in
    halts_after looks fails (within_halt (state old) (state mid) (accepted old.filer) c.args.space first.reaches old.intervals mid.intervals first.intervals (state c.evict.new.self) c.in-Ok-Ok.found read c.in-Err-evict.halt c.in-Err-evict.ensures.fails.cause)

-- ---- It is done.

pub returns-clause-answers : goal.returns-clause-answers
returns-clause-answers g c = λ volume m r.
    let old = c.args.core.now in
    let known = knows old (accepted old.filer) c.requires.size volume m r in
    let found = found_run m.spaces c.args.space c.in-Ok-Ok.found c.in-Ok-Ok.field-0 c.in-Ok-Ok.field-0-is (c.in-Ok-Ok.ensures.answer _ _ m.spaces known) in
    looked_done (looked g (goal.at.returns-clause-answers g c).After-evict) (g.met.D.Disk.in_form (disk_of old.filer)) r (call.Deactivate c.args.space) reply.Done (deactivate_there m c.args.space found.0) refl (deactivate_stays m c.args.space)

pub returns-clause-gone : goal.returns-clause-gone
returns-clause-gone g c = λ volume m s r there.
    let old = c.args.core.now in
    let known = knows old (accepted old.filer) c.requires.size volume m r in
    let found = found_run m.spaces c.args.space c.in-Ok-Ok.found c.in-Ok-Ok.field-0 c.in-Ok-Ok.field-0-is (c.in-Ok-Ok.ensures.answer _ _ m.spaces known) in
    of_space m.spaces c.args.space s c.in-Ok-Ok.found (AreGone m.spaces (state c.evict.new.self).slots) found.1 there (c.in-Ok.ensures.gone _ _ m.spaces (c.range_of.ensures.asked.same _ _ m.spaces known))

-- ---- Whatever it came to.

pub returns-in-Ok-Err-clause-went : goal.returns-in-Ok-Err-clause-went
returns-in-Ok-Err-clause-went g c = own_looked (asked g (goal.at.returns-in-Ok-Err-clause-went g c).After-range_of)

pub returns-in-Err-clause-went : goal.returns-in-Err-clause-went
returns-in-Err-clause-went g c = own_looked (asked g (goal.at.returns-in-Err-clause-went g c).After-range_of)

pub returns-in-Err-evict-clause-went : goal.returns-in-Err-evict-clause-went
returns-in-Err-evict-clause-went g c = own_looked (looked g (goal.at.returns-in-Err-evict-clause-went g c).After-evict)

pub returns-clause-went : goal.returns-clause-went
returns-clause-went g c = own_looked (looked g (goal.at.returns-clause-went g c).After-evict)

pub returns-in-Ok-Err-clause-sees : goal.returns-in-Ok-Err-clause-sees
returns-in-Ok-Err-clause-sees g c = on_looked (asked g (goal.at.returns-in-Ok-Err-clause-sees g c).After-range_of)

pub returns-clause-sees : goal.returns-clause-sees
returns-clause-sees g c = on_looked (looked g (goal.at.returns-clause-sees g c).After-evict)
