use Rattle.std.proofs.Common.{refl}
use Rattle.flat_machine.specs.declared.call.Call.TheVariants as call
use Rattle.flat_machine.specs.declared.call.Reply.TheVariants.{Done}
use Rattle.filer_kernel.specs.View.{accepted, disk_of}
use Rattle.fault_core.specs.Core.{state}
use Rattle.space_calls.specs.Calls.{Looks}
use Rattle.space_calls.proofs.AdviceLemmas.{activate_refused, activate_stays, activate_there, asked_range, asked_word}
use Rattle.space_calls.proofs.LookLemmas.{looked_done, looked_fault, looked_word, looks_asked}
use Rattle.space_calls.proofs.OutcomeLemmas.{halts_at, halts_wider, on_looked, own_looked}
use Rattle.space_calls.proofs.RangeLemmas.{asked_halt}
use Rattle.space_calls.proofs.RunLemmas.{knows}
use Rattle.space_calls.proofs.advice.try_activate.Given as given
use Rattle.space_calls.proofs.advice.try_activate.Goals as goal
use Rattle.space_calls.proofs.advice.try_activate.Goals.{After-bounds}

looks : (g : given.Over) (c : After-bounds g) → Looks c.args.core.now c.bounds.new.core
looks g c = looks_asked c.requires.size c.bounds.ensures.asked c.bounds.ensures.sees

-- ---- There is such a space.

pub returns-in-Ok-Ok-clause-answers : goal.returns-in-Ok-Ok-clause-answers
returns-in-Ok-Ok-clause-answers g c = λ volume m r.
    let old = c.args.core.now in
    let known = knows old (accepted old.filer) c.requires.size volume m r in
    let found = asked_range m.spaces c.args.space c.in-Ok-Ok.field-0 c.in-Ok-Ok._run c.in-Ok-Ok.field-0-is (c.in-Ok-Ok.ensures.answer _ _ m.spaces known) in
    looked_done (looks g (goal.at.returns-in-Ok-Ok-clause-answers g c).After-bounds) (g.met.D.Disk.in_form (disk_of old.filer)) r (call.Activate c.args.space) Done (activate_there m c.args.space found.0) refl (activate_stays m c.args.space)

-- ---- There is none.

pub returns-in-Ok-Err-clause-answers : goal.returns-in-Ok-Err-clause-answers
returns-in-Ok-Err-clause-answers g c = λ volume m r.
    let old = c.args.core.now in
    let known = knows old (accepted old.filer) c.requires.size volume m r in
    let is = asked_word m.spaces c.args.space c.in-Ok-Err.field-0 c.in-Ok-Err.word c.in-Ok-Err.field-0-is (c.in-Ok-Err.ensures.answer _ _ m.spaces known) in
    looked_word (looks g (goal.at.returns-in-Ok-Err-clause-answers g c).After-bounds) (g.met.D.Disk.in_form (disk_of old.filer)) r (call.Activate c.args.space) c.in-Ok-Err.word (activate_refused m c.args.space c.in-Ok-Err.word is)

-- ---- The tables could not be asked.

pub returns-in-Err-clause-answers : goal.returns-in-Err-clause-answers
returns-in-Err-clause-answers g c = λ volume m r.
    let old = c.args.core.now in
    let known = knows old (accepted old.filer) c.requires.size volume m r in
    looked_fault (looks g (goal.at.returns-in-Err-clause-answers g c).After-bounds) (g.met.D.Disk.in_form (disk_of old.filer)) r (call.Activate c.args.space) c.in-Err.halt (c.in-Err.ensures.sound _ _ m.spaces known)

pub returns-in-Err-clause-fails : goal.returns-in-Err-clause-fails
returns-in-Err-clause-fails g c =
    let old = c.args.core.now in
    let fails = halts_at c.requires.size c.bounds.ensures.asked.reaches.goes.makes c.in-Err.halt c.in-Err.ensures.cause c.in-Err.ensures.right in
    halts_wider fails (asked_halt (state old) (state c.bounds.new.core) (accepted old.filer) c.args.space old.intervals c.in-Err.halt c.in-Err.ensures.cause)

-- ---- Whatever it came to.

pub returns-in-Ok-Ok-clause-went : goal.returns-in-Ok-Ok-clause-went
returns-in-Ok-Ok-clause-went g c = own_looked (looks g (goal.at.returns-in-Ok-Ok-clause-went g c).After-bounds)

pub returns-in-Ok-Err-clause-went : goal.returns-in-Ok-Err-clause-went
returns-in-Ok-Err-clause-went g c = own_looked (looks g (goal.at.returns-in-Ok-Err-clause-went g c).After-bounds)

pub returns-in-Err-clause-went : goal.returns-in-Err-clause-went
returns-in-Err-clause-went g c = own_looked (looks g (goal.at.returns-in-Err-clause-went g c).After-bounds)

pub returns-in-Ok-Ok-clause-sees : goal.returns-in-Ok-Ok-clause-sees
returns-in-Ok-Ok-clause-sees g c = on_looked (looks g (goal.at.returns-in-Ok-Ok-clause-sees g c).After-bounds)

pub returns-in-Ok-Err-clause-sees : goal.returns-in-Ok-Err-clause-sees
returns-in-Ok-Err-clause-sees g c = on_looked (looks g (goal.at.returns-in-Ok-Err-clause-sees g c).After-bounds)
