use Rattle.std.proofs.Common.{rules, inl, inr, ◌+◌, ◌∙◌, true≢false, refl, sym, ap, subst, Option}
use Rattle.std.specs.Prelude.{IfSome, is_ok}
use Rattle.swap_units.specs.declared.interval.Interval.{Interval}
use Rattle.space_tables.specs.SpaceTables.{IsIntervalAt}
use Rattle.fault_core.proofs.AccessLemmas.{at_of}
use Rattle.fault_core.proofs.RestLemmas.{next_of}
use Rattle.fault_core.proofs.OutcomeLemmas.{failed_on}
use Rattle.fault_core.proofs.core_over.Core.part_at.Goals as goal

pub returns-in-Ok-Some-clause-comes : goal.returns-in-Ok-Some-clause-comes
returns-in-Ok-Some-clause-comes g c = record {
  form = search rules;
  part = search rules;
  next = λ m named ss knows.
      let x = c.in-Ok-Some.x in
      let at = at_of ss c.in-Ok-Some.field-0 x c.args.page c.in-Ok-Some.field-0-is (c.in-Ok-Some.ensures.comes.interval m named ss knows) in
      elim (next_of c.min.result c.args.end (x.first + x.pages) c.min.ensures) [ inl is ↦ inr (x, at, is) | inr is ↦ inl is ];
  interval = λ m named ss knows. subst (λ (o : Option Interval). IfSome o (IsIntervalAt ss c.args.page)) c.in-Ok-Some.field-0-is (c.in-Ok-Some.ensures.comes.interval m named ss knows);
}

-- no table was asked
pub returns-in-Ok-Some-clause-idle : goal.returns-in-Ok-Some-clause-idle
returns-in-Ok-Some-clause-idle g c = λ x found. let e = c.describe.ensures.idle x found in (refl, e.1, e.2)

pub returns-in-Err-clause-idle : goal.returns-in-Err-clause-idle
returns-in-Err-clause-idle g c = λ x found. let e = c.describe.ensures.idle x found in absurd (true≢false (ap is_ok (sym e.0 ∙ c.in-Err.is)))

pub returns-in-Err-clause-fails : goal.returns-in-Err-clause-fails
returns-in-Err-clause-fails g c = failed_on c.in-Err.halt c.in-Err.ensures.fails
