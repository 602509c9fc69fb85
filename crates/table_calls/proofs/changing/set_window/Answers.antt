use Rattle.std.proofs.Common.{ℕ, subst}
use Rattle.std.specs.Prelude.{IfErr}
use Rattle.space_tables.specs.Answer.{IfMem, IfMalformed}
use Rattle.space_tables.specs.Form.{Breaks}
use Rattle.filer_kernel.specs.declared.filer.Filer.{Filer}
use Rattle.fault_core.specs.Core.{state}
use Rattle.filer_kernel.specs.View.{view_of}
use Rattle.table_calls.proofs.HaltingLemmas.{Accounted, done, halted, from_memory, sound, known_spaces, right}
use Rattle.table_calls.proofs.SeenLemmas.{done_so, seen_spaces, sees_revealed, blameless_form}
use Rattle.table_calls.proofs.changing.set_window.Goals as goal

pub returns-clause-done : goal.returns-clause-done
returns-clause-done g c = λ m named ss x knows may is fits.
    rw (c.refused_or_halted.ensures, c.opened-intervals.ensures.intervals, ← c.opened-intervals.ensures.count) (done c.set_window_in.result _ (c.set_window_in.ensures.done ss x (rw (c.opened-intervals.ensures.count, c.opened-intervals.ensures.filer) (known_spaces knows)) may is fits))

pub returns-clause-cause : goal.returns-clause-cause
returns-clause-cause g c =
    let cause = subst (λ (f : Filer _ _ _). IfErr c.set_window_in.result (IfMem (Accounted (view_of f) (view_of c.set_window_in.new.filer)))) c.opened-intervals.ensures.filer c.set_window_in.ensures.cause in
    rw c.refused_or_halted.ensures
    (halted c.set_window_in.result (state c.args.core.now) (view_of c.set_window_in.new.filer) (Breaks c.args.core.now.intervals)
    (λ b reveals. subst (λ (n : ℕ). IfErr c.set_window_in.result (IfMalformed (Breaks n b))) c.opened-intervals.ensures.count (c.set_window_in.ensures.malformed b (rw c.opened-intervals.ensures.filer reveals)))
    cause)

pub returns-clause-sound : goal.returns-clause-sound
returns-clause-sound g c = λ m named ss x knows may is fits.
    let cause = subst (λ (f : Filer _ _ _). IfErr c.set_window_in.result (IfMem (Accounted (view_of f) (view_of c.set_window_in.new.filer)))) c.opened-intervals.ensures.filer c.set_window_in.ensures.cause in
    rw c.refused_or_halted.ensures (sound c.set_window_in.result (view_of c.set_window_in.new.filer) knows (from_memory c.set_window_in.result (right c.set_window_in.result _ (c.set_window_in.ensures.done ss x (rw (c.opened-intervals.ensures.count, c.opened-intervals.ensures.filer) (known_spaces knows)) may is fits))) cause)

-- ---- The tables are revealed.

pub returns-clause-sees : goal.returns-clause-sees
returns-clause-sees g c = λ ss x s may is fits.
    rw (c.refused_or_halted.ensures, c.opened-intervals.ensures.kept, c.opened-intervals.ensures.intervals, ← c.opened-intervals.ensures.count) (done_so c.set_window_in.result _ _ (λ h. sees_revealed h) (c.set_window_in.ensures.done ss x (rw (c.opened-intervals.ensures.count, c.opened-intervals.ensures.filer) (seen_spaces s)) may is fits))

pub returns-clause-right : goal.returns-clause-right
returns-clause-right g c = λ ss s. blameless_form c.refused_or_halted.result (view_of c.set_window_in.new.filer) s (returns-clause-cause g c)
