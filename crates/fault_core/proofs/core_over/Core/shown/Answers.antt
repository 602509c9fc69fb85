use Rattle.std.proofs.Common.{rules, ◌≡◌, true, false, ◌∙◌, sym, ap, subst, refl, Option}
use Rattle.std.specs.Prelude.{IfSome, is_ok}
use Rattle.std.proofs.lemmas.Bool.{true≢false}
use Rattle.std.proofs.lemmas.Option.{none-some}
use Rattle.swap_units.specs.declared.interval.Interval.{Interval}
use Rattle.swap_units.specs.Mode.{is_mapped}
use Rattle.space_tables.specs.SpaceTables.{IsIntervalAt}
use Rattle.fault_core.specs.Unit.{IsWhole}
use Rattle.fault_core.proofs.KeptLemmas.{ready_found, same_answer}
use Rattle.fault_core.proofs.ShowLemmas.{shown_is, shown_none, none_past}
use Rattle.fault_core.proofs.RevealedLemmas.{interval_of}
use Rattle.fault_core.specs.Core.{kept, state}
use Rattle.fault_core.proofs.core_over.Core.shown.Goals as goal

pub returns-in-Ok-None-clause-comes : goal.returns-in-Ok-None-clause-comes
returns-in-Ok-None-clause-comes g c = record {
  form = search rules;
  is_kept = search rules;
  interval = search rules;
  none = λ m named ss knows. (λ _. none_past knows.tables c.args.page (c.in-Ok-None.ensures.comes.none.0 c.in-Ok-None.field-0-is), λ _. refl);
}

pub returns-in-Err-clause-idle : goal.returns-in-Err-clause-idle
returns-in-Err-clause-idle g c = λ ready apart.
    let e = c.describe.ensures.idle ready.interval (ready_found (kept c.args.self.now) (state c.args.self.now).slots c.args.page ready apart) in
    absurd (true≢false (ap is_ok (sym e.0 ∙ c.in-Err.is)))

pub returns-then-not-is_mapped-clause-comes : goal.returns-then-not-is_mapped-clause-comes
returns-then-not-is_mapped-clause-comes g c = record {
  form = search rules;
  is_kept = search rules;
  interval = search rules;
  none = λ m named ss knows.
      let at = subst (λ (o : Option Interval). IfSome o (IsIntervalAt ss c.args.page)) c.in-Ok-Some.field-0-is (c.in-Ok-Some.ensures.comes.interval m named ss knows) in
      let bare : is_mapped c.in-Ok-Some.x.mode ≡ false = search rules in
      (λ _. shown_none knows.tables c.in-Ok-Some.x (interval_of ss c.args.page c.in-Ok-Some.x at) c.args.page at.holds bare, λ _. refl);
}

pub returns-then-not-is_mapped-clause-idle : goal.returns-then-not-is_mapped-clause-idle
returns-then-not-is_mapped-clause-idle g c = λ ready apart.
    let e = c.describe.ensures.idle ready.interval (ready_found (kept c.args.self.now) (state c.args.self.now).slots c.args.page ready apart) in
    let same : ready.interval ≡ c.in-Ok-Some.x = same_answer c.describe.result ready.interval c.in-Ok-Some.x c.in-Ok-Some.field-0 e.0 c.in-Ok-Some.is c.in-Ok-Some.field-0-is in
    let bare : is_mapped c.in-Ok-Some.x.mode ≡ false = search rules in
    absurd (true≢false (sym ready.mapped ∙ ap (λ (x : Interval). is_mapped x.mode) same ∙ bare))

pub returns-clause-comes : goal.returns-clause-comes
returns-clause-comes g c = record {
  form = search rules;
  is_kept = search rules;
  interval = λ m named ss knows. subst (λ (o : Option Interval). IfSome o (IsIntervalAt ss c.args.page)) c.in-Ok-Some.field-0-is (c.in-Ok-Some.ensures.comes.interval m named ss knows);
  none = λ m named ss knows.
      let at = subst (λ (o : Option Interval). IfSome o (IsIntervalAt ss c.args.page)) c.in-Ok-Some.field-0-is (c.in-Ok-Some.ensures.comes.interval m named ss knows) in
      let mapped : is_mapped c.in-Ok-Some.x.mode ≡ true = search rules in (
        λ e. absurd (none-some c.in-Ok-Some.x (sym e)),
        λ none. absurd (none-some _ (sym none ∙ shown_is knows.tables c.in-Ok-Some.x (interval_of ss c.args.page c.in-Ok-Some.x at) c.args.page at.holds mapped)),
      );
}

pub returns-clause-idle : goal.returns-clause-idle
returns-clause-idle g c = λ ready apart.
    let e = c.describe.ensures.idle ready.interval (ready_found (kept c.args.self.now) (state c.args.self.now).slots c.args.page ready apart) in
    let same : ready.interval ≡ c.in-Ok-Some.x = same_answer c.describe.result ready.interval c.in-Ok-Some.x c.in-Ok-Some.field-0 e.0 c.in-Ok-Some.is c.in-Ok-Some.field-0-is in
    ((subst (λ (x : Interval). IsWhole (state c.args.self.now).slots x c.args.page) same ready.whole, λ none. absurd (none-some c.in-Ok-Some.x (sym none))), refl, e.1, e.2)
