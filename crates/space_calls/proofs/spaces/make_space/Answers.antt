use Rattle.std.proofs.Common.{Err, refl}
use Rattle.projection_laws.specs.Tests.{made}
use Rattle.space_calls.proofs.LookLemmas.{retabled_fault, retabled_reply}
use Rattle.space_calls.proofs.RunLemmas.{knows}
use Rattle.space_calls.proofs.SpaceLemmas.{make_refused, space_made}
use Rattle.space_calls.specs.FilesLaws.{shown_here}
use Rattle.space_calls.specs.Sees.{IsShown, SeesFiles}
use Rattle.space_calls.proofs.OnLemmas.{put_on}
use Rattle.space_calls.proofs.SeesLemmas.{either_way}
use Rattle.space_calls.proofs.spaces.make_space.Goals as goal
use Rattle.space_calls.proofs.OutcomeLemmas.{halts_reached, own_tables}
use Rattle.filer_kernel.specs.View.{accepted, disk_of}

pub returns-in-Ok-answer-clause-answers : goal.returns-in-Ok-answer-clause-answers
returns-in-Ok-answer-clause-answers g c = λ volume m r.
    let old = c.args.core.now in
    retabled_reply c.add.ensures.retabled (g.met.D.Disk.in_form (disk_of old.filer)) r _ c.frame_count-frames.ensures.same
    (space_made old c.add.new.core c.frame_count-frames.new.core (accepted old.filer) c.requires.size (g.met.D.Disk.in_form (disk_of c.add.new.core.filer))
    c.frame_count-frames.ensures.pages c.frame_count-frames.ensures.same c.add.ensures.retabled volume m r c.args.parent c.args.pages c.args.first c.in-Ok.answer c.in-Ok-answer.handle c.in-Ok-answer.first c.in-Ok-answer.is
    (c.in-Ok.ensures.answer _ _ m.spaces (knows old (accepted old.filer) c.requires.size volume m r)))

pub returns-in-Err-answer-clause-answers : goal.returns-in-Err-answer-clause-answers
returns-in-Err-answer-clause-answers g c = λ volume m r.
    let old = c.args.core.now in
    retabled_reply c.add.ensures.retabled (g.met.D.Disk.in_form (disk_of old.filer)) r _ c.frame_count-frames.ensures.same
    (make_refused old c.add.new.core c.frame_count-frames.new.core (accepted old.filer) c.requires.size (g.met.D.Disk.in_form (disk_of c.add.new.core.filer))
    c.frame_count-frames.ensures.pages c.frame_count-frames.ensures.same c.add.ensures.retabled volume m r c.args.parent c.args.pages c.args.first c.in-Ok.answer c.in-Err-answer.word c.in-Err-answer.is
    (c.in-Ok.ensures.answer _ _ m.spaces (knows old (accepted old.filer) c.requires.size volume m r)))

-- ---- The tables are revealed.

pub returns-in-Ok-answer-clause-sees : goal.returns-in-Ok-answer-clause-sees
returns-in-Ok-answer-clause-sees g c = λ ss s.
    rw c.frame_count-frames.ensures.same (either_way _ _ _ (SeesFiles (IsShown ss) c.add.new.core) (λ a h. (_, (h.0, put_on (IsShown ss) ss (shown_here ss) (made ss c.args.parent c.args.pages c.args.first) refl))) (λ h. (ss, (h, shown_here ss))) c.in-Ok.answer (c.in-Ok.ensures.sees ss s))

pub returns-in-Err-answer-clause-sees : goal.returns-in-Err-answer-clause-sees
returns-in-Err-answer-clause-sees g c = λ ss s.
    rw c.frame_count-frames.ensures.same (either_way _ _ _ (SeesFiles (IsShown ss) c.add.new.core) (λ a h. (_, (h.0, put_on (IsShown ss) ss (shown_here ss) (made ss c.args.parent c.args.pages c.args.first) refl))) (λ h. (ss, (h, shown_here ss))) c.in-Ok.answer (c.in-Ok.ensures.sees ss s))

-- ---- Why it failed.

pub returns-in-Err-clause-answers : goal.returns-in-Err-clause-answers
returns-in-Err-clause-answers g c = λ volume m r.
    let old = c.args.core.now in
    retabled_fault c.add.ensures.retabled (g.met.D.Disk.in_form (disk_of old.filer)) r _ c.in-Err.halt (c.in-Err.ensures.sound _ _ m.spaces (knows old (accepted old.filer) c.requires.size volume m r))

pub returns-in-Err-clause-fails : goal.returns-in-Err-clause-fails
returns-in-Err-clause-fails g c = halts_reached c.requires.size c.add.ensures.retabled.beside.goes.makes (Err c.in-Err.halt) c.in-Err.ensures.cause c.in-Err.ensures.right

-- ---- What was written.

pub returns-in-Err-clause-went : goal.returns-in-Err-clause-went
returns-in-Err-clause-went g c = own_tables c.add.ensures.retabled

pub returns-in-Ok-answer-clause-went : goal.returns-in-Ok-answer-clause-went
returns-in-Ok-answer-clause-went g c = rw c.frame_count-frames.ensures.same (own_tables c.add.ensures.retabled)

pub returns-in-Err-answer-clause-went : goal.returns-in-Err-answer-clause-went
returns-in-Err-answer-clause-went g c = rw c.frame_count-frames.ensures.same (own_tables c.add.ensures.retabled)
