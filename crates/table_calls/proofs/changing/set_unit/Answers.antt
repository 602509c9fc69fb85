use Rattle.std.proofs.Common.{ℕ, subst}
use Rattle.std.specs.Prelude.{IfErr}
use Rattle.space_tables.specs.Answer.{IfMem, IfMalformed}
use Rattle.space_tables.specs.Form.{Breaks}
use Rattle.filer_kernel.specs.declared.filer.Filer.{Filer}
use Rattle.fault_core.specs.Core.{state}
use Rattle.filer_kernel.specs.View.{view_of}
use Rattle.table_calls.proofs.HaltingLemmas.{Accounted, answered, halted, whole, sound, known_spaces}
use Rattle.table_calls.proofs.SeenLemmas.{changed, seen_spaces, sees_revealed, blameless}
use Rattle.table_calls.proofs.changing.set_unit.Goals as goal

pub returns-clause-answer : goal.returns-clause-answer
returns-clause-answer g c = λ m named ss knows.
    rw (c.refused_or_halted.ensures, c.opened-intervals.ensures.intervals, ← c.opened-intervals.ensures.count) (answered c.set_unit_in.result _ _ _ (c.set_unit_in.ensures.answer ss (rw (c.opened-intervals.ensures.count, c.opened-intervals.ensures.filer) (known_spaces knows))))

pub returns-clause-cause : goal.returns-clause-cause
returns-clause-cause g c =
    let cause = subst (λ (f : Filer _ _ _). IfErr c.set_unit_in.result (IfMem (Accounted (view_of f) (view_of c.set_unit_in.new.filer)))) c.opened-intervals.ensures.filer c.set_unit_in.ensures.cause in
    rw c.refused_or_halted.ensures
    (halted c.set_unit_in.result (state c.args.core.now) (view_of c.set_unit_in.new.filer) (λ b page. Breaks c.args.core.now.intervals b page)
    (λ b reveals. subst (λ (n : ℕ). IfErr c.set_unit_in.result (IfMalformed (λ page. Breaks n b page))) c.opened-intervals.ensures.count (c.set_unit_in.ensures.malformed b (rw c.opened-intervals.ensures.filer reveals)))
    cause)

pub returns-clause-sound : goal.returns-clause-sound
returns-clause-sound g c = λ m named ss knows.
    let cause = subst (λ (f : Filer _ _ _). IfErr c.set_unit_in.result (IfMem (Accounted (view_of f) (view_of c.set_unit_in.new.filer)))) c.opened-intervals.ensures.filer c.set_unit_in.ensures.cause in
    rw c.refused_or_halted.ensures (sound c.set_unit_in.result (view_of c.set_unit_in.new.filer) knows (whole c.set_unit_in.result _ _ _ (c.set_unit_in.ensures.answer ss (rw (c.opened-intervals.ensures.count, c.opened-intervals.ensures.filer) (known_spaces knows)))) cause)

-- ---- The tables are revealed.

pub returns-clause-sees : goal.returns-clause-sees
returns-clause-sees g c = λ ss s.
    rw (c.refused_or_halted.ensures, c.opened-intervals.ensures.kept, c.opened-intervals.ensures.intervals, ← c.opened-intervals.ensures.count) (changed c.set_unit_in.result _ _ _ _ _ (λ at h. sees_revealed h) (λ h. sees_revealed h) (c.set_unit_in.ensures.answer ss (rw (c.opened-intervals.ensures.count, c.opened-intervals.ensures.filer) (seen_spaces s))))

pub returns-clause-right : goal.returns-clause-right
returns-clause-right g c = λ ss s.
    let cause = subst (λ (f : Filer _ _ _). IfErr c.set_unit_in.result (IfMem (Accounted (view_of f) (view_of c.set_unit_in.new.filer)))) c.opened-intervals.ensures.filer c.set_unit_in.ensures.cause in
    rw c.refused_or_halted.ensures (blameless c.set_unit_in.result (view_of c.set_unit_in.new.filer) s.revealed (whole c.set_unit_in.result _ _ _ (c.set_unit_in.ensures.answer ss (rw (c.opened-intervals.ensures.count, c.opened-intervals.ensures.filer) (seen_spaces s)))) cause)
