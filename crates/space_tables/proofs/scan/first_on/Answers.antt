use Rattle.std.proofs.Common.{◌≡◌, ℕ, ◌+◌, ◌*◌, ◌/◌, ◌<◌, ◌≤◌, List, Option, Some, None, IfSome, refl, sym, ◌∙◌, ap, arith, subst}
use Rattle.std.specs.Prelude.{slice_get}
use Rattle.std.proofs.lemmas.Option.{same_Some, none-some}
use Rattle.flat_machine.specs.declared.space.Space.{Space}
use Rattle.projection_laws.specs.Stored.{slot_in}
use Rattle.projection_laws.proofs.SlotLemmas.{slot_handle}
use Rattle.space_tables.specs.Form.{BreaksSlot, slot_page, slot_record}
use Rattle.space_tables.specs.Scan.{passes}
use Rattle.space_tables.proofs.Pages.{same_page}
use Rattle.space_tables.proofs.FirstLemmas.{kept_is, not_kept, none_more}
use Rattle.space_tables.proofs.scan.first_on.Goals as goal

-- the page has the records of all handles that are looked at
of_page : (b : List ℕ) (from end h : ℕ) (page : List ℕ) → page ≡ slot_page b from → from ≤ h → h < end → end ≤ 16 * (from / 16) + 16 → page ≡ slot_page b h
of_page b from end h page is above below whole = same_page b from h page is above (omega (arith, below, whole))

pub scan-init : goal.scan-init
scan-init c = record { from = omega arith; none = λ b slots xs is are ok h s low below there. absurd (omega (arith, low, below)) }

pub scan-preserved-then-not-has_space_on : goal.scan-preserved-then-not-has_space_on
scan-preserved-then-not-has_space_on c = record {
  from = omega (arith, c.scan.invariant.from);
  none = λ b slots xs is are ok.
      let page = of_page b c.args.from c.args.end c.scan.handle c.args.page.now is c.scan.invariant.from c.scan-test.true c.requires.page in
      let bare = (c.has_space_on.ensures.space b slots xs page are).0 c.if-not-has_space_on.true in
      none_more (passes c.args.test.now) slots c.args.from c.scan.handle (c.scan.invariant.none b slots xs is are ok) (λ s there. absurd (none-some s (same_Some None (Some s) (sym bare ∙ there))));
}

pub returns-in_err-space-clause-found : goal.returns-in_err-space-clause-found
returns-in_err-space-clause-found c = λ b slots xs is are ok.
    let page = of_page b c.args.from c.args.end c.scan.handle c.args.page.now is c.scan.invariant.from c.scan-test.true c.requires.page in
    let at = c.passing.ensures.found b slots xs page are ok in
    absurd (none-some _ (sym c.in_err-space.was ∙ at.2))

pub returns-in_err-space-clause-malformed : goal.returns-in_err-space-clause-malformed
returns-in_err-space-clause-malformed c = λ b is none.
    let page = of_page b c.args.from c.args.end c.scan.handle c.args.page.now is c.scan.invariant.from c.scan-test.true c.requires.page in
    let same : c.scan.handle / 16 ≡ c.args.from / 16 = omega (arith, c.scan.invariant.from, c.scan-test.true, c.requires.page) in
    (c.scan.handle, subst (λ (n : ℕ). BreaksSlot b n c.scan.handle) same (c.passing.ensures.malformed b page c.in_err-space.was))

pub returns-in-Some-clause-found : goal.returns-in-Some-clause-found
returns-in-Some-clause-found c = λ b slots xs is are ok.
    let page = of_page b c.args.from c.args.end c.scan.handle c.args.page.now is c.scan.invariant.from c.scan-test.true c.requires.page in
    let at = c.passing.ensures.found b slots xs page are ok in
    let kept = same_Some _ _ (sym c.in_ok-space.was ∙ at.2) in
    let is_it = kept_is (passes c.args.test.now) at.0 c.in-Some.space (sym c.in-Some.is ∙ kept) in
    let there : slice_get slots c.scan.handle ≡ Some (Some c.in-Some.space) = at.1 ∙ ap Some is_it.0 in
    let own : c.in-Some.space.handle ≡ c.scan.handle = let e = slot_handle 0 slots c.scan.handle c.in-Some.space ok.numbered there in omega (arith, e) in
    (Some c.in-Some.space, refl, (ap (slice_get slots) own ∙ there, is_it.1, λ h s low below at. c.scan.invariant.none b slots xs is are ok h s low (omega (arith, below, own)) at))

pub returns-in-Some-clause-read : goal.returns-in-Some-clause-read
returns-in-Some-clause-read c = λ b is.
    let page = of_page b c.args.from c.args.end c.scan.handle c.args.page.now is c.scan.invariant.from c.scan-test.true c.requires.page in
    subst (λ (o : Option Space). IfSome o (λ s. slot_in s.handle (slot_record b s.handle) ≡ Some s)) c.in-Some.is (c.in_ok-space.ensures.read b page)

pub scan-preserved : goal.scan-preserved
scan-preserved c = record {
  from = omega (arith, c.scan.invariant.from);
  none = λ b slots xs is are ok.
      let page = of_page b c.args.from c.args.end c.scan.handle c.args.page.now is c.scan.invariant.from c.scan-test.true c.requires.page in
      let at = c.passing.ensures.found b slots xs page are ok in
      let kept = same_Some _ _ (sym c.in_ok-space.was ∙ at.2) in
      none_more (passes c.args.test.now) slots c.args.from c.scan.handle (c.scan.invariant.none b slots xs is are ok)
      (λ s there. not_kept (passes c.args.test.now) at.0 s (sym c.in_default.is ∙ kept) (same_Some _ _ (sym at.1 ∙ there)));
}

pub returns-clause-found : goal.returns-clause-found
returns-clause-found c = λ b slots xs is are ok.
    (None, refl, λ h s low below there. c.scan.invariant.none b slots xs is are ok h s low (omega (arith, below, c.scan-test.false)) there)
