use Rattle.std.proofs.Common.{Err, ◌≡◌, ◌⊎◌, ℕ, Some, refl, subst}
use Rattle.flat_machine.specs.Space.{space_at}
use Rattle.swapper_kernel.specs.Goes.{Pages}
use Rattle.space_calls.specs.Mapping.{IsLastFrom}
use Rattle.space_calls.proofs.RunLemmas.{knows}
use Rattle.space_calls.proofs.TableAnswers.{not_refused}
use Rattle.space_calls.proofs.WindowLemmas.{window_given}
use Rattle.space_calls.specs.Sees.{IsShown, SeesFiles}
use Rattle.space_calls.proofs.OnLemmas.{window_given_on}
use Rattle.space_calls.proofs.SeesLemmas.{are_seen, set_so}
use Rattle.space_calls.proofs.mapping.give_window.Goals as goal
use Rattle.space_calls.proofs.OutcomeLemmas.{halts_reached, made_tables}
use Rattle.filer_kernel.specs.View.{accepted, disk_of}

pub returns-in-Err-clause-sound : goal.returns-in-Err-clause-sound
returns-in-Err-clause-sound g c = λ volume m x r may named bare fits.
    c.in-Err.ensures.sound _ _ m.spaces x (knows c.args.core.now (accepted c.args.core.now.filer) c.requires.size volume m r) may named fits

pub returns-in-Ok-answer-clause-given : goal.returns-in-Ok-answer-clause-given
returns-in-Ok-answer-clause-given g c = λ volume m x r may named bare fits is.
    let old = c.args.core.now in
    let known = knows old (accepted old.filer) c.requires.size volume m r in
    window_given old c.set_window.new.core c.frame_count-frames.new.core (accepted old.filer) c.requires.size (g.met.D.Disk.in_form (disk_of c.set_window.new.core.filer))
    c.frame_count-frames.ensures.pages c.frame_count-frames.ensures.same c.set_window.ensures.retabled volume m r c.args.space x may named bare c.args.shown is c.in-Ok.answer c.in-Ok-answer.is
    (c.in-Ok.ensures.done _ _ m.spaces x known may named fits)

pub returns-in-Err-answer-clause-given : goal.returns-in-Err-answer-clause-given
returns-in-Err-answer-clause-given g c = λ volume m x r may named bare fits is.
    let known = knows c.args.core.now (accepted c.args.core.now.filer) c.requires.size volume m r in
    absurd (not_refused _ c.in-Ok.answer c.in-Err-answer.word c.in-Err-answer.is (c.in-Ok.ensures.done _ _ m.spaces x known may named fits))

-- ---- The tables are revealed.

pub returns-in-Ok-answer-clause-sees : goal.returns-in-Ok-answer-clause-sees
returns-in-Ok-answer-clause-sees g c = λ ss x s may named fits.
    let pages : Pages = λ file last. IsShown ss file last ⊎ ((file ≡ c.args.shown.id) × IsLastFrom ss c.args.space c.args.shown.page last) in
    let on = window_given_on ss (are_seen s) c.args.space c.args.shown x (subst (λ (n : ℕ). space_at ss n ≡ Some x) named may.there) in
    (refl, rw c.frame_count-frames.ensures.same (set_so _ (SeesFiles pages c.set_window.new.core) (λ h. (_, (h, on))) c.in-Ok.answer (c.in-Ok.ensures.sees ss x s may named fits)))

pub returns-in-Err-answer-clause-sees : goal.returns-in-Err-answer-clause-sees
returns-in-Err-answer-clause-sees g c = λ ss x s may named fits. absurd (not_refused _ c.in-Ok.answer c.in-Err-answer.word c.in-Err-answer.is (c.in-Ok.ensures.sees ss x s may named fits))

-- ---- Why it failed.

pub returns-in-Err-clause-fails : goal.returns-in-Err-clause-fails
returns-in-Err-clause-fails g c = halts_reached c.requires.size c.set_window.ensures.retabled.beside.goes.makes (Err c.in-Err.halt) c.in-Err.ensures.cause c.in-Err.ensures.right

-- ---- What was written.

pub returns-in-Err-clause-went : goal.returns-in-Err-clause-went
returns-in-Err-clause-went g c = made_tables c.set_window.ensures.retabled

pub returns-in-Ok-answer-clause-went : goal.returns-in-Ok-answer-clause-went
returns-in-Ok-answer-clause-went g c = rw c.frame_count-frames.ensures.same (made_tables c.set_window.ensures.retabled)

pub returns-in-Err-answer-clause-went : goal.returns-in-Err-answer-clause-went
returns-in-Err-answer-clause-went g c = rw c.frame_count-frames.ensures.same (made_tables c.set_window.ensures.retabled)
