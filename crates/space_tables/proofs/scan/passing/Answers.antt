use Rattle.std.proofs.Common.{◌≡◌, ℕ, Option, Some, None, IfSome, true, refl, sym, ◌∙◌, ap, arith, subst}
use Rattle.flat_machine.specs.declared.space.Space.{Space}
use Rattle.projection_laws.specs.Stored.{slot_in}
use Rattle.space_tables.specs.Form.{slot_record, space_in_form}
use Rattle.space_tables.specs.Scan.{passes}
use Rattle.space_tables.proofs.Passes.{kept_true, kept_false}
use Rattle.space_tables.proofs.ReadBack.{none_of, some_of, there}
use Rattle.space_tables.proofs.Pages.{revealed_at}
use Rattle.space_tables.proofs.scan.passing.Goals as goal

pub returns-in_err-space-clause-found : goal.returns-in_err-space-clause-found
returns-in_err-space-clause-found c = λ b slots xs is are ok.
    absurd (there slots c.args.handle (omega (arith, c.requires.inside, are.handles)) (sym c.in_err-space.was ∙ revealed_at b slots xs are ok c.args.handle c.requires.inside c.slot_on.result (c.slot_on.ensures.slot b is)))

pub returns-in_err-space-clause-malformed : goal.returns-in_err-space-clause-malformed
returns-in_err-space-clause-malformed c = λ b is none. record {
  handle = c.requires.inside;
  on = refl;
  breaks = none_of _ _ (sym c.in_err-space.was ∙ c.slot_on.ensures.slot b is);
}

pub returns-then-passes-clause-found : goal.returns-then-passes-clause-found
returns-then-passes-clause-found c = λ b slots xs is are ok.
    let revealed = revealed_at b slots xs are ok c.args.handle c.requires.inside c.slot_on.result (c.slot_on.ensures.slot b is) in
    (Some c.in-Some.space, sym revealed ∙ c.in_ok-space.was ∙ ap Some c.in-Some.is, ap Some (sym (kept_true (passes c.args.test.now) c.in-Some.space c.if-passes.ensures)))

pub returns-then-passes-clause-read : goal.returns-then-passes-clause-read
returns-then-passes-clause-read c = λ b is.
    let read : c.in_ok-space.field-0 ≡ slot_in c.args.handle (slot_record b c.args.handle) = some_of _ _ _ (sym c.in_ok-space.was ∙ c.slot_on.ensures.slot b is) in
    let own = subst (λ (o : Option Space). IfSome o (λ s. (space_in_form s ≡ true) × (s.handle ≡ c.args.handle))) c.in-Some.is c.in_ok-space.ensures.form in
    ap (λ (h : ℕ). slot_in h (slot_record b h)) own.1 ∙ sym read ∙ c.in-Some.is

pub returns-else-passes-clause-found : goal.returns-else-passes-clause-found
returns-else-passes-clause-found c = λ b slots xs is are ok.
    let revealed = revealed_at b slots xs are ok c.args.handle c.requires.inside c.slot_on.result (c.slot_on.ensures.slot b is) in
    (Some c.in-Some.space, sym revealed ∙ c.in_ok-space.was ∙ ap Some c.in-Some.is, ap Some (sym (kept_false (passes c.args.test.now) c.in-Some.space c.if-passes.ensures)))

pub returns-in-None-clause-found : goal.returns-in-None-clause-found
returns-in-None-clause-found c = λ b slots xs is are ok.
    let revealed = revealed_at b slots xs are ok c.args.handle c.requires.inside c.slot_on.result (c.slot_on.ensures.slot b is) in
    (None, sym revealed ∙ c.in_ok-space.was ∙ ap Some c.in-None.is, refl)
