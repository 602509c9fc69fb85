use Rattle.std.proofs.Common.{ℕ, subst}
use Rattle.std.specs.Prelude.{◌⊎◌, IfErr}
use Rattle.space_tables.specs.Answer.{IfMem, IfMalformed}
use Rattle.space_tables.specs.Form.{BreaksHierarchy, BreaksAt, MakesTooMany}
use Rattle.filer_kernel.specs.declared.filer.Filer.{Filer}
use Rattle.fault_core.specs.Core.{state}
use Rattle.filer_kernel.specs.View.{view_of}
use Rattle.table_calls.proofs.HaltingLemmas.{Accounted, answered, halted, whole, sound, known_spaces}
use Rattle.table_calls.proofs.SeenLemmas.{changed, seen_spaces, sees_revealed, blameless}
use Rattle.table_calls.proofs.adding.add.Goals as goal

pub returns-clause-answer : goal.returns-clause-answer
returns-clause-answer g c = λ m named ss knows.
    rw (c.refused_or_halted.ensures, c.keep_count.ensures.filer, c.keep_count.ensures.intervals) (answered c.add_in-answer.result.0 _ _ _ (c.add_in-answer.ensures.answer ss (rw (c.opened-intervals.ensures.count, c.opened-intervals.ensures.filer) (known_spaces knows))))

pub returns-clause-cause : goal.returns-clause-cause
returns-clause-cause g c =
    let cause = subst (λ (f : Filer _ _ _). IfErr c.add_in-answer.result.0 (IfMem (Accounted (view_of f) (view_of c.add_in-answer.new.filer)))) c.opened-intervals.ensures.filer c.add_in-answer.ensures.cause in
    rw (c.refused_or_halted.ensures, c.keep_count.ensures.filer)
    (halted c.add_in-answer.result.0 (state c.args.core.now) (view_of c.add_in-answer.new.filer) (λ b page. BreaksHierarchy b page ⊎ (BreaksAt c.args.first c.args.core.now.intervals b page ⊎ MakesTooMany c.args.core.now.intervals b c.args.parent c.args.pages c.args.first page))
    (λ b reveals. subst (λ (n : ℕ). IfErr c.add_in-answer.result.0 (IfMalformed (λ page. BreaksHierarchy b page ⊎ (BreaksAt c.args.first n b page ⊎ MakesTooMany n b c.args.parent c.args.pages c.args.first page)))) c.opened-intervals.ensures.count (c.add_in-answer.ensures.malformed b (rw c.opened-intervals.ensures.filer reveals)))
    cause)

pub returns-clause-sound : goal.returns-clause-sound
returns-clause-sound g c = λ m named ss knows.
    let cause = subst (λ (f : Filer _ _ _). IfErr c.add_in-answer.result.0 (IfMem (Accounted (view_of f) (view_of c.add_in-answer.new.filer)))) c.opened-intervals.ensures.filer c.add_in-answer.ensures.cause in
    rw c.refused_or_halted.ensures (sound c.add_in-answer.result.0 (view_of c.add_in-answer.new.filer) knows (whole c.add_in-answer.result.0 _ _ _ (c.add_in-answer.ensures.answer ss (rw (c.opened-intervals.ensures.count, c.opened-intervals.ensures.filer) (known_spaces knows)))) cause)

-- ---- The tables are revealed.

pub returns-clause-sees : goal.returns-clause-sees
returns-clause-sees g c = λ ss s.
    rw (c.refused_or_halted.ensures, c.keep_count.ensures.filer, c.keep_count.ensures.intervals, c.keep_count.ensures.kept, c.opened-intervals.ensures.kept) (changed c.add_in-answer.result.0 _ _ _ _ _ (λ at h. (sees_revealed h.0, h.1, h.2)) (λ h. sees_revealed h) (c.add_in-answer.ensures.answer ss (rw (c.opened-intervals.ensures.count, c.opened-intervals.ensures.filer) (seen_spaces s))))

pub returns-clause-right : goal.returns-clause-right
returns-clause-right g c = λ ss s.
    let cause = subst (λ (f : Filer _ _ _). IfErr c.add_in-answer.result.0 (IfMem (Accounted (view_of f) (view_of c.add_in-answer.new.filer)))) c.opened-intervals.ensures.filer c.add_in-answer.ensures.cause in
    rw c.refused_or_halted.ensures (blameless c.add_in-answer.result.0 (view_of c.add_in-answer.new.filer) s.revealed (whole c.add_in-answer.result.0 _ _ _ (c.add_in-answer.ensures.answer ss (rw (c.opened-intervals.ensures.count, c.opened-intervals.ensures.filer) (seen_spaces s)))) cause)
