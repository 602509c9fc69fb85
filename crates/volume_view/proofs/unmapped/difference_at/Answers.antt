use Rattle.std.proofs.Common.{inr, refl, sym, ◌∙◌}
use Rattle.volume_view.proofs.unmapped.difference_at.Goals as goal

pub returns-in-Ok-true-clause-difference : goal.returns-in-Ok-true-clause-difference
returns-in-Ok-true-clause-difference g c = λ named is. inr (sym (c.in-Ok-true.ensures.mapped named is) ∙ c.in-Ok-true.field-0-test)

pub returns-in-Ok-false-clause-difference : goal.returns-in-Ok-false-clause-difference
returns-in-Ok-false-clause-difference g c = λ named is. (sym c.is_free.ensures ∙ c.if-is_free.false, sym (c.in-Ok-false.ensures.mapped named is) ∙ c.in-Ok-false.field-0-test, refl)

pub returns-in-Ok-true-clause-recorded : goal.returns-in-Ok-true-clause-recorded
returns-in-Ok-true-clause-recorded g c = λ none used. c.in-Ok-true.ensures.recorded c.in-Ok-true.field-0-test
