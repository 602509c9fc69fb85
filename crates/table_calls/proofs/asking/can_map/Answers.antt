use Rattle.std.proofs.Common.{inl, refl}
use Rattle.space_tables.specs.Form.{BreaksHierarchy}
use Rattle.fault_core.specs.Core.{state}
use Rattle.filer_kernel.specs.View.{view_of}
use Rattle.table_calls.proofs.AskedLemmas.{asked}
use Rattle.table_calls.proofs.HaltingLemmas.{answered, halted, whole, sound, known_spaces}
use Rattle.fault_core.proofs.LackLemmas.{sees_after}
use Rattle.table_calls.proofs.SeenLemmas.{seen_spaces, blameless}
use Rattle.table_calls.proofs.asking.can_map.Goals as goal

pub returns-clause-answer : goal.returns-clause-answer
returns-clause-answer g c = λ m named ss knows. rw c.refused_or_halted.ensures (answered c.ask_can_map.result _ _ _ (c.ask_can_map.ensures.answer ss (rw c.interval_count-intervals.ensures (known_spaces knows))))

pub returns-clause-cause : goal.returns-clause-cause
returns-clause-cause g c = rw c.refused_or_halted.ensures (halted c.ask_can_map.result (state c.args.core.now) (view_of c.ask_can_map.new.filer) (λ b page. BreaksHierarchy b page) c.ask_can_map.ensures.malformed c.ask_can_map.ensures.cause)

pub returns-clause-sound : goal.returns-clause-sound
returns-clause-sound g c = λ m named ss knows.
    rw c.refused_or_halted.ensures (sound c.ask_can_map.result (view_of c.ask_can_map.new.filer) knows (whole c.ask_can_map.result _ _ _ (c.ask_can_map.ensures.answer ss (rw c.interval_count-intervals.ensures (known_spaces knows)))) c.ask_can_map.ensures.cause)

pub returns-clause-asked : goal.returns-clause-asked
returns-clause-asked g c = asked c.args.core.now _ c.ask_can_map.ensures.asked refl refl

-- ---- The tables are revealed.

pub returns-clause-seen : goal.returns-clause-seen
returns-clause-seen g c = λ ss s. rw c.refused_or_halted.ensures (answered c.ask_can_map.result _ _ _ (c.ask_can_map.ensures.answer ss (rw c.interval_count-intervals.ensures (seen_spaces s))))

pub returns-clause-sees : goal.returns-clause-sees
returns-clause-sees g c = λ ss s. sees_after s _ _ (returns-clause-asked g c).reaches (λ x one. inl one)

pub returns-clause-right : goal.returns-clause-right
returns-clause-right g c = λ ss s. rw c.refused_or_halted.ensures (blameless c.ask_can_map.result (view_of c.ask_can_map.new.filer) s.revealed (whole c.ask_can_map.result _ _ _ (c.ask_can_map.ensures.answer ss (rw c.interval_count-intervals.ensures (seen_spaces s)))) c.ask_can_map.ensures.cause)
