-- The first space that passes a test, by the handles.
use Rattle.std.proofs.Common.{◌≡◌, inl, inr, ℕ, zero, suc, ◌+◌, ◌≤◌, Bool, true, false, cond, List, [], ◌∷◌, length, Option, Some, None, refl, sym, ◌∙◌, ap, arith}
use Rattle.std.specs.Prelude.{slice_get, find, if◌then◌else◌}
use Rattle.std.proofs.lemmas.Bool.{cases_lt}
use Rattle.std.proofs.lemmas.Option.{same_Some, none-some}
use Rattle.flat_machine.specs.declared.space.Space.{Space}
use Rattle.projection_laws.specs.Slots.{listed}
use Rattle.space_tables.specs.declared.handles.Handles.{Handles}
use Rattle.space_tables.specs.Scan.{kept, NonePasses, HaveAll}

module _ (test : Space → Bool) where
  -- it is the one that is found
  pub first_listed : (slots : List (Option Space)) (h : ℕ) (s : Space) → slice_get slots h ≡ Some (Some s) → test s ≡ true → NonePasses test slots 0 h → Some s ≡ find test (listed slots)
  first_listed [] h s e t none = absurd (none-some (Some s) e)
  first_listed (None ∷ os) zero s e t none = absurd (none-some s (same_Some None (Some s) e))
  first_listed (Some q ∷ os) zero s e t none =
      let same : q ≡ s = same_Some q s (same_Some (Some q) (Some s) e) in
      sym (ap (λ (b : Bool). cond b (Some q) (find test (listed os))) (ap test same ∙ t) ∙ ap Some same)
  first_listed (None ∷ os) (suc h) s e t none = first_listed os h s e t (λ j r low below there. none (suc j) r (omega arith) (omega (arith, below)) there)
  first_listed (Some q ∷ os) (suc h) s e t none =
      first_listed os h s e t (λ j r low below there. none (suc j) r (omega arith) (omega (arith, below)) there)
      ∙ sym (ap (λ (b : Bool). cond b (Some q) (find test (listed os))) (none 0 q (omega arith) (omega arith) refl))

  -- none is found
  pub none_listed : (slots : List (Option Space)) (n : ℕ) → NonePasses test slots 0 n → length slots ≤ n → find test (listed slots) ≡ None
  none_listed [] n none few = refl
  none_listed (o ∷ os) zero none few = absurd (omega (arith, few))
  none_listed (None ∷ os) (suc n) none few = none_listed os n (λ j r low below there. none (suc j) r (omega arith) (omega (arith, below)) there) (omega (arith, few))
  none_listed (Some q ∷ os) (suc n) none few =
      ap (λ (b : Bool). cond b (Some q) (find test (listed os))) (none 0 q (omega arith) (omega arith) refl)
      ∙ none_listed os n (λ j r low below there. none (suc j) r (omega arith) (omega (arith, below)) there) (omega (arith, few))

  -- what is kept is there, and passes
  pub kept_is : (o : Option Space) (s : Space) → Some s ≡ kept test o → (o ≡ Some s) × (test s ≡ true)
  kept_is None s e = absurd (none-some s (sym e))
  kept_is (Some q) s e = by (test q) refl e
    where
      by : (b : Bool) → test q ≡ b → Some s ≡ (if b then Some q else None) → (Some q ≡ Some s) × (test s ≡ true)
      by true t e = (sym e, ap test (same_Some s q e) ∙ t)
      by false t e = absurd (none-some s (sym e))

  -- what is not kept doesn't pass
  pub not_kept : (o : Option Space) (s : Space) → None ≡ kept test o → o ≡ Some s → test s ≡ false
  not_kept None s e is = absurd (none-some s is)
  not_kept (Some q) s e is = ap test (sym (same_Some q s is)) ∙ by (test q) refl e
    where
      by : (b : Bool) → test q ≡ b → None ≡ (if b then Some q else None) → test q ≡ false
      by true t e = absurd (none-some q e)
      by false t e = t

  -- one handle more has none that passes
  pub none_more : (slots : List (Option Space)) (from h : ℕ) → NonePasses test slots from h → ((s : Space) → slice_get slots h ≡ Some (Some s) → test s ≡ false) → NonePasses test slots from (h + 1)
  none_more slots from h none here = λ j s low below there. elim (cases_lt j h) [
    | inl early ↦ none j s low early there
    | inr late ↦ let same : j ≡ h = omega (arith, below, late) in here s (ap (slice_get slots) (sym same) ∙ there)
  ]

  either : (P : Type 0) (b : Bool) → (b ≡ true → P) → (b ≡ false → P) → P
  either P true f g = f refl
  either P false f g = g refl

  -- those of two parts have none that passes
  pub none_of_both : (slots : List (Option Space)) (from mid end : ℕ) → NonePasses test slots from mid → NonePasses test slots mid end → NonePasses test slots from end
  none_of_both slots from mid end first next = λ j s low below there. elim (cases_lt j mid) [
    | inl early ↦ first j s low early there
    | inr late ↦ next j s (omega (arith, late)) below there
  ]

  module _ (slots : List (Option Space)) (handles : Handles) (all : HaveAll test slots handles) where
    -- no space below the handles passes
    pub none_below : NonePasses test slots 0 handles.low
    none_below h s low below there = either (test s ≡ false) (test s) (λ passes. absurd (omega (arith, below, (all h s there passes).0))) (λ fails. fails)

    -- none from the end of the handles on
    pub none_above : (n end : ℕ) → handles.end ≤ n → NonePasses test slots n end
    none_above n end late h s low below there = either (test s ≡ false) (test s) (λ passes. absurd (omega (arith, late, low, (all h s there passes).1))) (λ fails. fails)
