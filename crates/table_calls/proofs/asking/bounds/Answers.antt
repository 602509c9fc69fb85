use Rattle.std.proofs.Common.{inl, refl}
use Rattle.space_tables.specs.Form.{BreaksSlot}
use Rattle.space_tables.specs.Shows.{IsRunAt}
use Rattle.fault_core.specs.Core.{state}
use Rattle.filer_kernel.specs.View.{view_of}
use Rattle.table_calls.proofs.AskedLemmas.{asked}
use Rattle.table_calls.proofs.HaltingLemmas.{answered, halted, read_from, whole, sound, known_spaces}
use Rattle.fault_core.proofs.LackLemmas.{sees_after}
use Rattle.table_calls.proofs.SeenLemmas.{seen_spaces, blameless}
use Rattle.table_calls.proofs.asking.bounds.Goals as goal

pub returns-clause-answer : goal.returns-clause-answer
returns-clause-answer g c = λ m named ss knows. rw c.refused_or_halted.ensures (answered c.ask_bounds.result _ _ _ (c.ask_bounds.ensures.answer ss (rw c.interval_count-intervals.ensures (known_spaces knows))))

pub returns-clause-read : goal.returns-clause-read
returns-clause-read g c = rw c.refused_or_halted.ensures (read_from c.ask_bounds.result (state c.args.core.now) (λ b. IsRunAt b c.args.space) c.ask_bounds.ensures.read)

pub returns-clause-cause : goal.returns-clause-cause
returns-clause-cause g c = rw c.refused_or_halted.ensures (halted c.ask_bounds.result (state c.args.core.now) (view_of c.ask_bounds.new.filer) (λ b page. BreaksSlot b page c.args.space) c.ask_bounds.ensures.malformed c.ask_bounds.ensures.cause)

pub returns-clause-sound : goal.returns-clause-sound
returns-clause-sound g c = λ m named ss knows.
    rw c.refused_or_halted.ensures (sound c.ask_bounds.result (view_of c.ask_bounds.new.filer) knows (whole c.ask_bounds.result _ _ _ (c.ask_bounds.ensures.answer ss (rw c.interval_count-intervals.ensures (known_spaces knows)))) c.ask_bounds.ensures.cause)

pub returns-clause-asked : goal.returns-clause-asked
returns-clause-asked g c = asked c.args.core.now _ c.ask_bounds.ensures.asked refl refl

-- ---- The tables are revealed.

pub returns-clause-seen : goal.returns-clause-seen
returns-clause-seen g c = λ ss s. rw c.refused_or_halted.ensures (answered c.ask_bounds.result _ _ _ (c.ask_bounds.ensures.answer ss (rw c.interval_count-intervals.ensures (seen_spaces s))))

pub returns-clause-sees : goal.returns-clause-sees
returns-clause-sees g c = λ ss s. sees_after s _ _ (returns-clause-asked g c).reaches (λ x one. inl one)

pub returns-clause-right : goal.returns-clause-right
returns-clause-right g c = λ ss s. rw c.refused_or_halted.ensures (blameless c.ask_bounds.result (view_of c.ask_bounds.new.filer) s.revealed (whole c.ask_bounds.result _ _ _ (c.ask_bounds.ensures.answer ss (rw c.interval_count-intervals.ensures (seen_spaces s)))) c.ask_bounds.ensures.cause)
