use Rattle.std.proofs.Common.{ℕ, subst}
use Rattle.std.specs.Prelude.{IfErr}
use Rattle.space_tables.specs.Answer.{IfMem, IfMalformed}
use Rattle.space_tables.specs.Form.{BreaksFor, first_in_slot}
use Rattle.filer_kernel.specs.declared.filer.Filer.{Filer}
use Rattle.fault_core.specs.Core.{state}
use Rattle.filer_kernel.specs.View.{view_of}
use Rattle.table_calls.proofs.HaltingLemmas.{Accounted, answered, halted, whole, sound, known_spaces}
use Rattle.table_calls.proofs.SeenLemmas.{changed, seen_spaces, sees_revealed, blameless}
use Rattle.table_calls.proofs.adding.remove.Goals as goal

pub returns-clause-answer : goal.returns-clause-answer
returns-clause-answer g c = λ m named ss knows.
    rw (c.refused_or_halted.ensures, c.keep_count.ensures.filer, c.keep_count.ensures.intervals) (answered c.remove_in-answer.result.0 _ _ _ (c.remove_in-answer.ensures.answer ss (rw (c.opened-intervals.ensures.count, c.opened-intervals.ensures.filer) (known_spaces knows))))

pub returns-clause-cause : goal.returns-clause-cause
returns-clause-cause g c =
    let cause = subst (λ (f : Filer _ _ _). IfErr c.remove_in-answer.result.0 (IfMem (Accounted (view_of f) (view_of c.remove_in-answer.new.filer)))) c.opened-intervals.ensures.filer c.remove_in-answer.ensures.cause in
    rw (c.refused_or_halted.ensures, c.keep_count.ensures.filer)
    (halted c.remove_in-answer.result.0 (state c.args.core.now) (view_of c.remove_in-answer.new.filer) (λ b page. BreaksFor (first_in_slot b c.args.space) c.args.core.now.intervals b page)
    (λ b reveals. subst (λ (n : ℕ). IfErr c.remove_in-answer.result.0 (IfMalformed (λ page. BreaksFor (first_in_slot b c.args.space) n b page))) c.opened-intervals.ensures.count (c.remove_in-answer.ensures.malformed b (rw c.opened-intervals.ensures.filer reveals)))
    cause)

pub returns-clause-sound : goal.returns-clause-sound
returns-clause-sound g c = λ m named ss knows.
    let cause = subst (λ (f : Filer _ _ _). IfErr c.remove_in-answer.result.0 (IfMem (Accounted (view_of f) (view_of c.remove_in-answer.new.filer)))) c.opened-intervals.ensures.filer c.remove_in-answer.ensures.cause in
    rw c.refused_or_halted.ensures (sound c.remove_in-answer.result.0 (view_of c.remove_in-answer.new.filer) knows (whole c.remove_in-answer.result.0 _ _ _ (c.remove_in-answer.ensures.answer ss (rw (c.opened-intervals.ensures.count, c.opened-intervals.ensures.filer) (known_spaces knows)))) cause)

-- ---- The tables are revealed.

pub returns-clause-sees : goal.returns-clause-sees
returns-clause-sees g c = λ ss s.
    rw (c.refused_or_halted.ensures, c.keep_count.ensures.filer, c.keep_count.ensures.intervals, c.keep_count.ensures.kept, c.opened-intervals.ensures.kept) (changed c.remove_in-answer.result.0 _ _ _ _ _ (λ at h. sees_revealed h) (λ h. sees_revealed h) (c.remove_in-answer.ensures.answer ss (rw (c.opened-intervals.ensures.count, c.opened-intervals.ensures.filer) (seen_spaces s))))

pub returns-clause-right : goal.returns-clause-right
returns-clause-right g c = λ ss s.
    let cause = subst (λ (f : Filer _ _ _). IfErr c.remove_in-answer.result.0 (IfMem (Accounted (view_of f) (view_of c.remove_in-answer.new.filer)))) c.opened-intervals.ensures.filer c.remove_in-answer.ensures.cause in
    rw c.refused_or_halted.ensures (blameless c.remove_in-answer.result.0 (view_of c.remove_in-answer.new.filer) s.revealed (whole c.remove_in-answer.result.0 _ _ _ (c.remove_in-answer.ensures.answer ss (rw (c.opened-intervals.ensures.count, c.opened-intervals.ensures.filer) (seen_spaces s)))) cause)
