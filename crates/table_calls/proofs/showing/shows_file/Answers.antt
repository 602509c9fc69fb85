use Rattle.std.proofs.Common.{◌∙◌, inl, refl, sym, subst, Result, Option, ℕ, ◌≡◌}
use Rattle.std.specs.Prelude.{IfOk, IfErr}
use Rattle.labelled_disk.specs.declared.evidence.Halt.{Halt}
use Rattle.labelled_disk.specs.declared.evidence.Halt.TheVariants.{Disk}
use Rattle.flat_machine.specs.declared.call.Refusal.{Refusal}
use Rattle.space_tables.specs.declared.shown.Shown.{Shown}
use Rattle.space_tables.specs.Form.{BreaksHierarchy}
use Rattle.space_tables.specs.Shows.{shows, IsFirstWith}
use Rattle.fault_core.specs.Core.{state}
use Rattle.fault_core.specs.Reach.{ReachHalts}
use Rattle.filer_kernel.specs.View.{view_of}
use Rattle.table_calls.specs.Answers.{IfGiven, TablesBreak}
use Rattle.table_calls.proofs.AskedLemmas.{asked}
use Rattle.table_calls.proofs.HaltingLemmas.{given, halted, from_memory, sound, known_spaces}
use Rattle.fault_core.specs.NeverBlames.{NeverBlamesTables}
use Rattle.fault_core.proofs.LackLemmas.{sees_after}
use Rattle.table_calls.proofs.SeenLemmas.{seen_spaces, blameless}
use Rattle.table_calls.proofs.showing.shows_file.Goals as goal

abbrev Answer : Type 0
Answer = Result (Result (Option (ℕ × Shown)) Refusal) Halt

pub returns-in-Ok-Ok-clause-answer : goal.returns-in-Ok-Ok-clause-answer
returns-in-Ok-Ok-clause-answer g c = λ m named ss knows.
    let first = IsFirstWith (shows c.args.id c.args.writable_only) ss in
    subst (IfGiven first) c.in-Ok-Ok.field-0-is
    (subst (λ (x : Answer). IfOk x (IfGiven first)) (sym c.refused_or_halted.ensures ∙ c.in-Ok-Ok.is) (given c.ask_shows_file.result first (c.ask_shows_file.ensures.answer ss (rw c.interval_count-intervals.ensures (known_spaces knows)))))

pub returns-in-Ok-Ok-clause-asked : goal.returns-in-Ok-Ok-clause-asked
returns-in-Ok-Ok-clause-asked g c = asked c.args.core.now _ c.ask_shows_file.ensures.asked refl refl

pub returns-in-Err-clause-cause : goal.returns-in-Err-clause-cause
returns-in-Err-clause-cause g c =
    let old = state c.args.core.now in
    let new = view_of c.ask_shows_file.new.filer in
    subst (λ (x : Answer). IfErr x (ReachHalts (TablesBreak old BreaksHierarchy) old new)) (sym c.refused_or_halted.ensures ∙ c.in-Err.is)
    (halted c.ask_shows_file.result old new BreaksHierarchy c.ask_shows_file.ensures.malformed c.ask_shows_file.ensures.cause)

pub returns-in-Err-clause-sound : goal.returns-in-Err-clause-sound
returns-in-Err-clause-sound g c = λ m named ss knows.
    let right = from_memory c.ask_shows_file.result (c.ask_shows_file.ensures.right ss (rw c.interval_count-intervals.ensures (known_spaces knows))) in
    subst (λ (x : Answer). IfErr x (λ e. e ≡ Disk)) (sym c.refused_or_halted.ensures ∙ c.in-Err.is) (sound c.ask_shows_file.result (view_of c.ask_shows_file.new.filer) knows right c.ask_shows_file.ensures.cause)

pub returns-in-Err-clause-asked : goal.returns-in-Err-clause-asked
returns-in-Err-clause-asked g c = asked c.args.core.now _ c.ask_shows_file.ensures.asked refl refl

-- ---- The tables are revealed.

pub returns-in-Ok-Ok-clause-seen : goal.returns-in-Ok-Ok-clause-seen
returns-in-Ok-Ok-clause-seen g c = λ ss s.
    let first = IsFirstWith (shows c.args.id c.args.writable_only) ss in
    subst (IfGiven first) c.in-Ok-Ok.field-0-is
    (subst (λ (x : Answer). IfOk x (IfGiven first)) (sym c.refused_or_halted.ensures ∙ c.in-Ok-Ok.is) (given c.ask_shows_file.result first (c.ask_shows_file.ensures.answer ss (rw c.interval_count-intervals.ensures (seen_spaces s)))))

pub returns-in-Ok-Ok-clause-sees : goal.returns-in-Ok-Ok-clause-sees
returns-in-Ok-Ok-clause-sees g c = λ ss s. sees_after s _ _ (returns-in-Ok-Ok-clause-asked g c).reaches (λ x one. inl one)

pub returns-in-Err-clause-sees : goal.returns-in-Err-clause-sees
returns-in-Err-clause-sees g c = λ ss s. sees_after s _ _ (returns-in-Err-clause-asked g c).reaches (λ x one. inl one)

pub returns-in-Err-clause-right : goal.returns-in-Err-clause-right
returns-in-Err-clause-right g c = λ ss s.
    let right = from_memory c.ask_shows_file.result (c.ask_shows_file.ensures.right ss (rw c.interval_count-intervals.ensures (seen_spaces s))) in
    subst (λ (x : Answer). IfErr x NeverBlamesTables) (sym c.refused_or_halted.ensures ∙ c.in-Err.is) (blameless c.ask_shows_file.result (view_of c.ask_shows_file.new.filer) s.revealed right c.ask_shows_file.ensures.cause)
