-- A cut of one write that replaces a sector.
use Rattle.std.proofs.Common.{◌≡◌, ◌≢◌, ◌⊎◌, inl, inr, ℕ, zero, suc, ◌<◌, true, List, [], ◌∷◌, length, Option, Some, None, refl, sym, ◌∙◌, ap, subst, arith}
use Rattle.std.specs.Prelude.{slice_get, slice_set}
use Rattle.std.proofs.lemmas.Bool.{cases_eq, cases_lt}
use Rattle.std.proofs.lemmas.Option.{same_Some, none-some, slice_get_within}
use Rattle.labelled_disk.specs.declared.disk.DiskWrite.{DiskWrite}
use Rattle.labelled_disk.specs.declared.label.Label.{Label}
use Rattle.labelled_disk.specs.CrashState.{crash_state}
use Rattle.labelled_disk.specs.Sectors.{Sector}
use Rattle.labelled_disk.proofs.Finds.{get_set_same, get_set_other}
use Rattle.labelled_disk.proofs.WriteLemmas.{same_elements}
use Rattle.cut_words.specs.Cut.{unit, AtSome, IsCut}
use Rattle.cut_words.proofs.UnitLemmas.{same_units}

get_some : {X : Type 0} (xs : List X) (i : ℕ) → i < length xs → (x : X) × (slice_get xs i ≡ Some x)
get_some [] i below = absurd (omega (arith, below))
get_some (x ∷ xs) zero below = (x, refl)
get_some (x ∷ xs) (suc i) below = get_some xs i (omega (arith, below))

-- Label and each unit of a sector are those of one of two.
pub record IsMixed (old new t : Sector) : Type 0 where
  pub label : (t.0 ≡ old.0) ⊎ (t.0 ≡ new.0)
  pub units : (u : ℕ) → (unit u t.1 ≡ unit u old.1) ⊎ (unit u t.1 ≡ unit u new.1)

module _ (d : List Sector) (writes : List DiskWrite) (m i : ℕ) (f : List Sector) (old new : Sector) (before : crash_state d writes m ≡ f)
    (after : crash_state d writes (suc m) ≡ slice_set f i new) (here : slice_get f i ≡ Some old) (e : List Sector) (cut : IsCut d writes m (suc m) e) where
  -- a crash state is before the write, or after it
  which : (P : List Sector → Type 0) → AtSome m (suc m) (λ j. P (crash_state d writes j)) → P f ⊎ P (slice_set f i new)
  which P some = elim (cases_lt m some.0) [
    | inr low ↦ (let at : some.0 ≡ m = omega (arith, low, some.1) in inl (subst P before (subst (λ (j : ℕ). P (crash_state d writes j)) at some.3)))
    | inl high ↦ (let at : some.0 ≡ suc m = omega (arith, high, some.2) in inr (subst P after (subst (λ (j : ℕ). P (crash_state d writes j)) at some.3)))
  ]

  put : slice_get (slice_set f i new) i ≡ Some new
  put = get_set_same f i new (slice_get_within f i old here)

  -- the sector of the write
  mixed : (t : Sector) → slice_get e i ≡ Some t → IsMixed old new t
  mixed t there = record {
    label = elim (which (λ now. (s : Sector) × (slice_get now i ≡ Some s) × (s.0 ≡ t.0)) (cut.labels i t there)) [
      | inl was ↦ inl (sym was.2 ∙ ap (λ (v : Sector). v.0) (same_Some was.0 old (sym was.1 ∙ here)))
      | inr is ↦ inr (sym is.2 ∙ ap (λ (v : Sector). v.0) (same_Some is.0 new (sym is.1 ∙ put)))
    ];
    units = λ u. elim (which (λ now. (s : Sector) × (slice_get now i ≡ Some s) × (unit u s.1 ≡ unit u t.1)) (cut.units i u t there)) [
      | inl was ↦ inl (sym was.2 ∙ ap (λ (v : Sector). unit u v.1) (same_Some was.0 old (sym was.1 ∙ here)))
      | inr is ↦ inr (sym is.2 ∙ ap (λ (v : Sector). unit u v.1) (same_Some is.0 new (sym is.1 ∙ put)))
    ];
  }

  -- each other one stands
  other : (j : ℕ) (t : Sector) → j ≢ i → slice_get e j ≡ Some t → slice_get f j ≡ Some t
  other j t off there = either (slice_get f j) refl
    where
      label_of : (P : Label → Type 0) → ((s : Sector) → slice_get f j ≡ Some s → P s.0) → P t.0
      label_of P each = elim (which (λ now. (s : Sector) × (slice_get now j ≡ Some s) × (s.0 ≡ t.0)) (cut.labels j t there)) [
        | inl was ↦ subst P was.2 (each was.0 was.1)
        | inr is ↦ subst P is.2 (each is.0 (sym (get_set_other f i j new off) ∙ is.1))
      ]

      unit_of : (u : ℕ) (P : List ℕ → Type 0) → ((s : Sector) → slice_get f j ≡ Some s → P (unit u s.1)) → P (unit u t.1)
      unit_of u P each = elim (which (λ now. (s : Sector) × (slice_get now j ≡ Some s) × (unit u s.1 ≡ unit u t.1)) (cut.units j u t there)) [
        | inl was ↦ subst P was.2 (each was.0 was.1)
        | inr is ↦ subst P is.2 (each is.0 (sym (get_set_other f i j new off) ∙ is.1))
      ]

      either : (o : Option Sector) → slice_get f j ≡ o → slice_get f j ≡ Some t
      either None g = absurd (label_of (λ l. ⊥) (λ s at. none-some s (sym g ∙ at)))
      either (Some s) g =
          let label : t.0 ≡ s.0 = label_of (λ l. l ≡ s.0) (λ v at. ap (λ (w : Sector). w.0) (same_Some v s (sym at ∙ g))) in
          let page : t.1 ≡ s.1 = same_units t.1 s.1 (λ u. unit_of u (λ p. p ≡ unit u s.1) (λ v at. ap (λ (w : Sector). unit u w.1) (same_Some v s (sym at ∙ g)))) in
          let both : t ≡ s = λ x. (label x, page x) in
          g ∙ ap (λ (v : Sector). Some v) (sym both)

  -- so the cut is the disk with another sector there
  pub one_sector : length e ≡ length f → (t : Sector) → slice_get e i ≡ Some t → IsMixed old new t × (e ≡ slice_set f i t)
  one_sector long t there = (mixed t there, same_elements true 0 0 e (slice_set f i t) (λ j. one j (cases_eq j i)))
    where
      one : (j : ℕ) → (j ≡ i) ⊎ (j ≢ i) → slice_get e j ≡ slice_get (slice_set f i t) j
      one j (inl on) =
          ap (λ (n : ℕ). slice_get e n) on ∙ there ∙ sym (get_set_same f i t (slice_get_within f i old here)) ∙ ap (λ (n : ℕ). slice_get (slice_set f i t) n) (sym on)
      one j (inr off) = stands (slice_get e j) refl
        where
          stands : (o : Option Sector) → slice_get e j ≡ o → slice_get e j ≡ slice_get (slice_set f i t) j
          stands (Some v) g = g ∙ sym (other j v off g) ∙ sym (get_set_other f i j t off)
          stands None g =
              let none : slice_get f j ≡ None = nothing (slice_get f j) refl in
              g ∙ sym none ∙ sym (get_set_other f i j t off)
            where
              nothing : (o : Option Sector) → slice_get f j ≡ o → slice_get f j ≡ None
              nothing None h = h
              nothing (Some v) h = let w = get_some e j (omega (arith, slice_get_within f j v h, long)) in absurd (none-some w.0 (sym g ∙ w.1))
