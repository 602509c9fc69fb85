use Rattle.space_calls.proofs.LookLemmas.{retabled_fault, retabled_reply}
use Rattle.space_calls.proofs.RunLemmas.{knows}
use Rattle.space_calls.proofs.SpaceLemmas.{unit_refused, unit_set}
use Rattle.space_calls.specs.FilesLaws.{shown_here}
use Rattle.space_calls.specs.Sees.{IsShown, SeesFiles}
use Rattle.space_calls.proofs.OnLemmas.{unit_still_on}
use Rattle.space_calls.proofs.SeesLemmas.{either_way}
use Rattle.space_calls.proofs.spaces.set_units.Goals as goal
use Rattle.space_calls.proofs.OutcomeLemmas.{halts_reached, own_tables}
use Rattle.std.proofs.Common.{Err}
use Rattle.filer_kernel.specs.View.{accepted, disk_of}

pub returns-in-Ok-answer-clause-answers : goal.returns-in-Ok-answer-clause-answers
returns-in-Ok-answer-clause-answers g c = λ volume m r.
    let old = c.args.core.now in
    retabled_reply c.set_unit.ensures.retabled (g.met.D.Disk.in_form (disk_of old.filer)) r _ c.frame_count-frames.ensures.same
    (unit_set old c.set_unit.new.core c.frame_count-frames.new.core (accepted old.filer) c.requires.size (g.met.D.Disk.in_form (disk_of c.set_unit.new.core.filer))
    c.frame_count-frames.ensures.pages c.frame_count-frames.ensures.same c.set_unit.ensures.retabled volume m r c.args.space c.args.pages c.in-Ok.answer c.in-Ok-answer.is
    (c.in-Ok.ensures.answer _ _ m.spaces (knows old (accepted old.filer) c.requires.size volume m r)))

pub returns-in-Err-answer-clause-answers : goal.returns-in-Err-answer-clause-answers
returns-in-Err-answer-clause-answers g c = λ volume m r.
    let old = c.args.core.now in
    retabled_reply c.set_unit.ensures.retabled (g.met.D.Disk.in_form (disk_of old.filer)) r _ c.frame_count-frames.ensures.same
    (unit_refused old c.set_unit.new.core c.frame_count-frames.new.core (accepted old.filer) c.requires.size (g.met.D.Disk.in_form (disk_of c.set_unit.new.core.filer))
    c.frame_count-frames.ensures.pages c.frame_count-frames.ensures.same c.set_unit.ensures.retabled volume m r c.args.space c.args.pages c.in-Ok.answer c.in-Err-answer.word c.in-Err-answer.is
    (c.in-Ok.ensures.answer _ _ m.spaces (knows old (accepted old.filer) c.requires.size volume m r)))

-- ---- The tables are revealed.

pub returns-in-Ok-answer-clause-sees : goal.returns-in-Ok-answer-clause-sees
returns-in-Ok-answer-clause-sees g c = λ ss s.
    rw c.frame_count-frames.ensures.same (either_way _ _ _ (SeesFiles (IsShown ss) c.set_unit.new.core) (λ a h. (_, (h, unit_still_on (IsShown ss) ss (shown_here ss) c.args.space c.args.pages))) (λ h. (ss, (h, shown_here ss))) c.in-Ok.answer (c.in-Ok.ensures.sees ss s))

pub returns-in-Err-answer-clause-sees : goal.returns-in-Err-answer-clause-sees
returns-in-Err-answer-clause-sees g c = λ ss s.
    rw c.frame_count-frames.ensures.same (either_way _ _ _ (SeesFiles (IsShown ss) c.set_unit.new.core) (λ a h. (_, (h, unit_still_on (IsShown ss) ss (shown_here ss) c.args.space c.args.pages))) (λ h. (ss, (h, shown_here ss))) c.in-Ok.answer (c.in-Ok.ensures.sees ss s))

-- ---- Why it failed.

pub returns-in-Err-clause-answers : goal.returns-in-Err-clause-answers
returns-in-Err-clause-answers g c = λ volume m r.
    let old = c.args.core.now in
    retabled_fault c.set_unit.ensures.retabled (g.met.D.Disk.in_form (disk_of old.filer)) r _ c.in-Err.halt (c.in-Err.ensures.sound _ _ m.spaces (knows old (accepted old.filer) c.requires.size volume m r))

pub returns-in-Err-clause-fails : goal.returns-in-Err-clause-fails
returns-in-Err-clause-fails g c = halts_reached c.requires.size c.set_unit.ensures.retabled.beside.goes.makes (Err c.in-Err.halt) c.in-Err.ensures.cause c.in-Err.ensures.right

-- ---- What was written.

pub returns-in-Err-clause-went : goal.returns-in-Err-clause-went
returns-in-Err-clause-went g c = own_tables c.set_unit.ensures.retabled

pub returns-in-Ok-answer-clause-went : goal.returns-in-Ok-answer-clause-went
returns-in-Ok-answer-clause-went g c = rw c.frame_count-frames.ensures.same (own_tables c.set_unit.ensures.retabled)

pub returns-in-Err-answer-clause-went : goal.returns-in-Err-answer-clause-went
returns-in-Err-answer-clause-went g c = rw c.frame_count-frames.ensures.same (own_tables c.set_unit.ensures.retabled)
