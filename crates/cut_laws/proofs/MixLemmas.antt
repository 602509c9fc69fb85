-- Pages of which a part was not written.
use Rattle.std.proofs.Common.{◌≡◌, ◌≢◌, ◌⊎◌, inl, inr, ℕ, zero, suc, ◌+◌, ◌-◌, ◌*◌, ◌<◌, ◌≤◌, Bool, true, List, [], ◌∷◌, length, take, drop, Option, Some, None, refl, sym, ◌∙◌, ap, arith, length-set}
use Rattle.std.specs.Prelude.{slice_get, slice_set, if◌then◌else◌}
use Rattle.std.proofs.lemmas.Bool.{cases_eq, cases_lt}
use Rattle.std.proofs.lemmas.List.{drop-take}
use Rattle.std.proofs.lemmas.Option.{same_Some, none-some, slice_get_within}
use borrow.Rule.Slice.PartMut.{put_mid}
use Rattle.std.proofs.lemmas.Slice.{drop-put_mid, take-put_mid_below}
use Rattle.labelled_disk.specs.declared.label.Label.{Label}
use Rattle.labelled_disk.specs.declared.label.Wanted.{Wanted}
use Rattle.labelled_disk.specs.declared.disk.DiskWrite.TheVariants as kind
use Rattle.labelled_disk.specs.Label.{names}
use Rattle.labelled_disk.specs.CrashState.{crash_state, written}
use Rattle.labelled_disk.specs.Sectors.{Sector}
use Rattle.labelled_disk.proofs.Finds.{get_set_same, get_set_other}
use Rattle.labelled_disk.proofs.WriteLemmas.{same_elements}
use Rattle.label_laws.proofs.FileLemmas.{page_written}
use Rattle.cut_laws.specs.Cut.{unit, AtSome, HasUnitAt, IsCutSince}
use Rattle.cut_laws.specs.Mixes.{IsMixOf, MixLaws}
use Rattle.cut_laws.proofs.UnitLemmas.{same_units}
use Rattle.cut_laws.proofs.CrashStateLemmas.{get_some}

-- the units beside the one that was put in
pub unit-put_mid : (lagging u : ℕ) (xs ys : List ℕ) → length ys ≡ 16 → 16 * lagging + 16 ≤ length xs → u ≢ lagging → unit u (put_mid (16 * lagging) (16 * lagging + 16 - 16 * lagging) xs ys) ≡ unit u xs
unit-put_mid lagging u xs ys long within apart = either (cases_lt u lagging)
  where
    either : (u < lagging) ⊎ (lagging ≤ u) → unit u (put_mid (16 * lagging) (16 * lagging + 16 - 16 * lagging) xs ys) ≡ unit u xs
    either (inl before) =
        sym (drop-take (16 * u) 16 (put_mid (16 * lagging) (16 * lagging + 16 - 16 * lagging) xs ys))
        ∙ ap (λ (l : List ℕ). drop (16 * u) l) (take-put_mid_below (16 * lagging) (16 * lagging + 16 - 16 * lagging) xs ys (16 * u + 16) (omega (arith, before)) (omega (arith, within)))
        ∙ drop-take (16 * u) 16 xs
    either (inr beyond) =
        ap (λ (l : List ℕ). take 16 l)
        (drop-put_mid (16 * lagging) (16 * lagging + 16 - 16 * lagging) xs ys (16 * u) (omega (arith, beyond, apart)) (omega (arith, within)) (omega (arith, long)))

-- One write of a page.
module _ (d : List Sector) (i : ℕ) (s : Sector) (wanted : Wanted) (new : List ℕ) (here : slice_get d i ≡ Some s) (named : names s.0 wanted ≡ true) where
  whole : written (kind.Page i wanted new) d ≡ slice_set d i (s.0, new)
  whole = page_written d i s wanted new here ∙ ap (λ (b : Bool). if b then slice_set d i (s.0, new) else d) named

  put : (page : List ℕ) → slice_get (slice_set d i (s.0, page)) i ≡ Some (s.0, page)
  put page = get_set_same d i (s.0, page) (slice_get_within d i s here)

  after : (j : ℕ) → slice_get (crash_state d (kind.Page i wanted new ∷ []) 1) j ≡ slice_get (slice_set d i (s.0, new)) j
  after j = ap (λ (e : List Sector). slice_get e j) whole

  pub may : (page : List ℕ) → IsMixOf s.1 new page → IsCutSince d (kind.Page i wanted new ∷ []) (slice_set d i (s.0, page))
  may page mix = record {
    sectors = length-set d i (s.0, page);
    labels = λ j t there. label j t there (cases_eq j i);
    units = λ j u t there. part j u t there (cases_eq j i);
  }
    where
      same : (j : ℕ) (t : Sector) → slice_get (slice_set d i (s.0, page)) j ≡ Some t → j ≢ i → slice_get d j ≡ Some t
      same j t there off = sym (get_set_other d i j (s.0, page) off) ∙ there

      is_put : (j : ℕ) (t : Sector) → slice_get (slice_set d i (s.0, page)) j ≡ Some t → j ≡ i → (s.0, page) ≡ t
      is_put j t there on = same_Some (s.0, page) t (sym (put page) ∙ ap (λ (k : ℕ). slice_get (slice_set d i (s.0, page)) k) (sym on) ∙ there)

      label : (j : ℕ) (t : Sector) → slice_get (slice_set d i (s.0, page)) j ≡ Some t → (j ≡ i) ⊎ (j ≢ i)
          → AtSome 0 1 (λ k. (u : Sector) × (slice_get (crash_state d (kind.Page i wanted new ∷ []) k) j ≡ Some u) × (u.0 ≡ t.0))
      label j t there (inr off) = (0, omega arith, omega arith, (t, same j t there off, refl))
      label j t there (inl on) = (0, omega arith, omega arith, (s, ap (λ (k : ℕ). slice_get d k) on ∙ here, ap (λ (v : Sector). v.0) (is_put j t there on)))

      part : (j u : ℕ) (t : Sector) → slice_get (slice_set d i (s.0, page)) j ≡ Some t → (j ≡ i) ⊎ (j ≢ i) → AtSome 0 1 (λ k. HasUnitAt (crash_state d (kind.Page i wanted new ∷ []) k) j u (unit u t.1))
      part j u t there (inr off) = (0, omega arith, omega arith, (t, same j t there off, refl))
      part j u t there (inl on) = elim (mix u) [
        | inl old ↦ (0, omega arith, omega arith, (s, ap (λ (k : ℕ). slice_get d k) on ∙ here, sym old ∙ ap (λ (v : Sector). unit u v.1) (is_put j t there on)))
        | inr fresh ↦ (1, omega arith, omega arith, ((s.0, new), after j ∙ ap (λ (k : ℕ). slice_get (slice_set d i (s.0, new)) k) on ∙ put new, sym fresh ∙ ap (λ (v : Sector). unit u v.1) (is_put j t there on)))
      ]

  pub must : (e : List Sector) → IsCutSince d (kind.Page i wanted new ∷ []) e → (page : List ℕ) × IsMixOf s.1 new page × (e ≡ slice_set d i (s.0, page))
  must e cut = from (get_some e i (omega (arith, slice_get_within d i s here, cut.sectors)))
    where
      -- a sector at either crash state
      at_either : (j k : ℕ) (v : Sector) → k ≤ 1 → slice_get (crash_state d (kind.Page i wanted new ∷ []) k) j ≡ Some v
          → ((j ≡ i) × (v.0 ≡ s.0) × ((v.1 ≡ s.1) ⊎ (v.1 ≡ new))) ⊎ ((j ≢ i) × (slice_get d j ≡ Some v))
      at_either j (suc (suc k)) v few there = absurd (omega (arith, few))
      at_either j zero v few there = elim (cases_eq j i) [
        | inl on ↦ (
            let same : v ≡ s = same_Some v s (sym there ∙ ap (λ (n : ℕ). slice_get d n) on ∙ here) in
            inl (on, ap (λ (x : Sector). x.0) same, inl (ap (λ (x : Sector). x.1) same)))
        | inr off ↦ inr (off, there)
      ]
      at_either j (suc zero) v few there = elim (cases_eq j i) [
        | inl on ↦ (
            let same : (s.0, new) ≡ v = same_Some (s.0, new) v (sym (put new) ∙ ap (λ (n : ℕ). slice_get (slice_set d i (s.0, new)) n) (sym on) ∙ sym (after j) ∙ there) in
            inl (on, ap (λ (x : Sector). x.0) (sym same), inr (ap (λ (x : Sector). x.1) (sym same))))
        | inr off ↦ inr (off, sym (get_set_other d i j (s.0, new) off) ∙ sym (after j) ∙ there)
      ]

      from : (t : Sector) × (slice_get e i ≡ Some t) → (page : List ℕ) × IsMixOf s.1 new page × (e ≡ slice_set d i (s.0, page))
      from t = (t.0.1, λ u. which u (cut.units i u t.0 t.1), same_elements true 0 0 e (slice_set d i (s.0, t.0.1)) (λ j. one j (cases_eq j i) (slice_get e j) refl))
        where
          which : (u : ℕ) → AtSome 0 1 (λ k. HasUnitAt (crash_state d (kind.Page i wanted new ∷ []) k) i u (unit u t.0.1)) → (unit u t.0.1 ≡ unit u s.1) ⊎ (unit u t.0.1 ≡ unit u new)
          which u some = elim (at_either i some.0 some.3.0 some.2 some.3.1) [
            | inl this ↦ elim this.2 [ inl old ↦ inl (sym some.3.2 ∙ ap (unit u) old) | inr fresh ↦ inr (sym some.3.2 ∙ ap (unit u) fresh) ]
            | inr off ↦ absurd (off.0 refl)
          ]

          label : t.0.0 ≡ s.0
          label =
              let some = cut.labels i t.0 t.1 in
              elim (at_either i some.0 some.3.0 some.2 some.3.1) [ inl this ↦ sym some.3.2 ∙ this.1 | inr off ↦ absurd (off.0 refl) ]

          -- any other sector stands
          other : (j : ℕ) → j ≢ i → (v : Sector) → slice_get e j ≡ Some v → slice_get d j ≡ Some v
          other j off v there =
              let w = get_some d j (omega (arith, slice_get_within e j v there, cut.sectors)) in
              let some = cut.labels j v there in
              let named_so : v.0 ≡ w.0.0 = sym some.3.2 ∙ ap (λ (x : Sector). x.0) (stood some.0 some.3.0 w.0 some.2 some.3.1 w.1) in
              let page : v.1 ≡ w.0.1 = same_units v.1 w.0.1 (λ u. let part = cut.units j u v there in sym part.3.2 ∙ ap (λ (x : Sector). unit u x.1) (stood part.0 part.3.0 w.0 part.2 part.3.1 w.1)) in
              let both : w.0 ≡ v = λ x. (sym named_so x, sym page x) in
              w.1 ∙ ap (λ (x : Sector). Some x) both
            where
              stood : (k : ℕ) (x w : Sector) → k ≤ 1 → slice_get (crash_state d (kind.Page i wanted new ∷ []) k) j ≡ Some x → slice_get d j ≡ Some w → x ≡ w
              stood k x w few at was = elim (at_either j k x few at) [ inl on ↦ absurd (off on.0) | inr stays ↦ same_Some x w (sym stays.1 ∙ was) ]

          one : (j : ℕ) → (j ≡ i) ⊎ (j ≢ i) → (o : Option Sector) → slice_get e j ≡ o → slice_get e j ≡ slice_get (slice_set d i (s.0, t.0.1)) j
          one j (inl on) o f =
              ap (λ (n : ℕ). slice_get e n) on ∙ t.1 ∙ ap (λ (l : Label). Some (l, t.0.1)) label ∙ sym (put t.0.1) ∙ ap (λ (n : ℕ). slice_get (slice_set d i (s.0, t.0.1)) n) (sym on)
          one j (inr off) (Some v) f = f ∙ sym (other j off v f) ∙ sym (get_set_other d i j (s.0, t.0.1) off)
          one j (inr off) None f = f ∙ sym (nothing (slice_get d j) refl) ∙ sym (get_set_other d i j (s.0, t.0.1) off)
            where
              nothing : (o : Option Sector) → slice_get d j ≡ o → slice_get d j ≡ None
              nothing None g = g
              nothing (Some w) g = let v = get_some e j (omega (arith, slice_get_within d j w g, cut.sectors)) in absurd (none-some v.0 (sym f ∙ v.1))

pub mix_laws : MixLaws
mix_laws = record {
  may = λ d i s wanted new page here named mix. may d i s wanted new here named page mix;
  must = λ d i s wanted new e here named cut. must d i s wanted new here named e cut;
}
