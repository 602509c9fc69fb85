-- One line more.
use Rattle.std.proofs.Common.{◌≡◌, zero, suc, List, [], ◌∷◌, ◌++◌, Some, refl, sym, ◌∙◌, ap, subst, length}
use Rattle.std.specs.Prelude.{slice_get}
use Rattle.std.proofs.lemmas.Option.{same_Some, none-some}
use Rattle.std.proofs.lemmas.List.{flat_map_more}
use Rattle.flat_machine.specs.declared.call.Reply.{Reply}
use Rattle.flat_machine.specs.Text.{text}
use Rattle.flat_machine.specs.Machine.{Machine}
use Rattle.flat_machine.specs.After.{TraceLine, AllowsLine, AllowsAll, next_line, after}
use Rattle.flat_machine.specs.Laws.{TranscriptBegins, TranscriptGrows, AfterGrows}

pub transcript_begins : TranscriptBegins
transcript_begins m lines = record { replies = []; one_a_line = refl; allowed = tt; text_is = refl }

pub after_grows : AfterGrows
after_grows m [] zero line e = absurd (none-some line e)
after_grows m [] (suc k) line e = absurd (none-some line e)
after_grows m (l ∷ ls) zero line e = ap (λ x. next_line m x) (same_Some l line e)
after_grows m (l ∷ ls) (suc k) line e = after_grows (next_line m l) ls k line e

longer : (rs : List Reply) (r : Reply) → length (rs ++ r ∷ []) ≡ suc (length rs)
longer [] r = refl
longer (x ∷ rs) r = ap suc (longer rs r)

more_allowed : (m : Machine) (lines : List TraceLine) (rs : List Reply) (line : TraceLine) (r : Reply) → AllowsAll m lines rs
    → slice_get lines (length rs) ≡ Some line → AllowsLine (after m lines (length rs)) line r → AllowsAll m lines (rs ++ r ∷ [])
more_allowed m [] [] line r all e a = absurd (none-some line e)
more_allowed m (l ∷ ls) [] line r all e a = (subst (λ x. AllowsLine m x r) (sym (same_Some l line e)) a, tt)
more_allowed m [] (x ∷ rs) line r all e a = all
more_allowed m (l ∷ ls) (x ∷ rs) line r all e a = (all.0, more_allowed (next_line m l) ls rs line r all.1 e a)

pub transcript_grows : TranscriptGrows
transcript_grows m lines k bytes line r t e a = record {
  replies = t.replies ++ r ∷ [];
  one_a_line = longer t.replies r ∙ ap suc t.one_a_line;
  allowed = more_allowed m lines t.replies line r t.allowed
      (ap (λ n. slice_get lines n) t.one_a_line ∙ e)
      (subst (λ n. AllowsLine (after m lines n) line r) (sym t.one_a_line) a);
  text_is = ap (λ b. b ++ text r) t.text_is ∙ flat_map_more text [] t.replies r;
}
