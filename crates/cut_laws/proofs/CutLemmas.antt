-- What cuts are.
use Rattle.std.proofs.Common.{◌≡◌, ◌⊎◌, inl, inr, true, ℕ, zero, suc, ◌+◌, ◌-◌, ◌<◌, ◌≤◌, List, [], ◌∷◌, ◌++◌, length, take, Some, refl, sym, ◌∙◌, ap, subst, arith}
use Rattle.std.specs.Prelude.{slice_get}
use Rattle.std.proofs.lemmas.Bool.{cases_lt}
use Rattle.std.proofs.lemmas.List.{length-drop}
use Rattle.std.proofs.lemmas.Option.{same_Some, slice_get_past}
use Rattle.labelled_disk.specs.declared.disk.DiskWrite.{DiskWrite}
use Rattle.labelled_disk.specs.CrashState.{crash_state}
use Rattle.labelled_disk.specs.Sectors.{Sector}
use Rattle.labelled_disk.proofs.WriteLemmas.{same_elements}
use Rattle.labelled_disk.proofs.WriteRunLemmas.{crash_state-earlier}
use Rattle.label_laws.proofs.MixedLemmas.{crash_state_long}
use Rattle.label_laws.specs.PermittedRuns.{ArePermitted}
use Rattle.cut_laws.specs.Cut.{unit, AtSome, HasLabelAt, HasUnitAt, IsCut}
use Rattle.cut_laws.specs.CutLaws.{CutLaws, LaterIsNotThere, WindowLaws, between}
use Rattle.cut_laws.proofs.UnitLemmas.{same_units}
use Rattle.cut_laws.proofs.CrashStateLemmas.{get_some, crash_state-then, crash_state-past, crash_state-take, permitted-take, permitted-drop}

-- one number alone
only : (P : ℕ → Type 0) (k : ℕ) → AtSome k k P → P k
only P k some = subst P (let z : some.0 ≡ k = omega (arith, some.1, some.2) in z) some.3

pub settled : (d : List Sector) (writes : List DiskWrite) (k : ℕ) (e : List Sector) → IsCut d writes k k e → e ≡ crash_state d writes k
settled d writes k e cut = same_elements true 0 0 e (crash_state d writes k) (λ i. at i (cases_lt i (length e)))
  where
    at : (i : ℕ) → (i < length e) ⊎ (length e ≤ i) → slice_get e i ≡ slice_get (crash_state d writes k) i
    at i (inr high) = slice_get_past e i high ∙ sym (slice_get_past (crash_state d writes k) i (omega (arith, high, cut.sectors, crash_state_long d writes k)))
    at i (inl low) =
        let t = get_some e i low in
        let s = only (λ j. HasLabelAt (crash_state d writes j) i t.0.0) k (cut.labels i t.0 t.1) in
        let page : s.0.1 ≡ t.0.1 = same_units s.0.1 t.0.1 (λ u. same u s.0 t.0 t.1 s.1) in
        let label : s.0.0 ≡ t.0.0 = s.2 in
        let both : s.0 ≡ t.0 = λ x. (label x, page x) in
        t.1 ∙ ap (λ (v : Sector). Some v) (sym both) ∙ sym s.1
      where
        same : (u : ℕ) (s t : Sector) → slice_get e i ≡ Some t → slice_get (crash_state d writes k) i ≡ Some s → unit u s.1 ≡ unit u t.1
        same u s t here there =
            let v = only (λ j. HasUnitAt (crash_state d writes j) i u (unit u t.1)) k (cut.units i u t here) in
            ap (λ (w : Sector). unit u w.1) (same_Some s v.0 (sym there ∙ v.1)) ∙ v.2

pub crash_states : (d : List Sector) (writes : List DiskWrite) (s k j : ℕ) → s ≤ j → j ≤ k → IsCut d writes s k (crash_state d writes j)
crash_states d writes s k j low high = record {
  sectors = crash_state_long d writes j;
  labels = λ i t here. (j, low, high, (t, here, refl));
  units = λ i u t here. (j, low, high, (t, here, refl));
}

wider_some : (P : ℕ → Type 0) (r s k l : ℕ) → r ≤ s → k ≤ l → AtSome s k P → AtSome r l P
wider_some P r s k l low high some = (some.0, omega (arith, low, some.1), omega (arith, high, some.2), some.3)

pub wider : (d : List Sector) (writes : List DiskWrite) (r s k l : ℕ) (e : List Sector) → r ≤ s → k ≤ l → IsCut d writes s k e → IsCut d writes r l e
wider d writes r s k l e low high cut = record {
  sectors = cut.sectors;
  labels = λ i t here. wider_some (λ j. HasLabelAt (crash_state d writes j) i t.0) r s k l low high (cut.labels i t here);
  units = λ i u t here. wider_some (λ j. HasUnitAt (crash_state d writes j) i u (unit u t.1)) r s k l low high (cut.units i u t here);
}

-- crash states up to the first writes' end are those of the first writes
same_crash_states : (P : List Sector → Type 0) (d : List Sector) (first next : List DiskWrite) (s k : ℕ) → k ≤ length first → AtSome s k (λ j. P (crash_state d (first ++ next) j)) → AtSome s k (λ j. P (crash_state d first j))
same_crash_states P d first next s k few some = (some.0, some.1, some.2, subst P (crash_state-earlier d first next some.0 (omega (arith, few, some.2))) some.3)

more_crash_states : (P : List Sector → Type 0) (d : List Sector) (first next : List DiskWrite) (s k : ℕ) → k ≤ length first → AtSome s k (λ j. P (crash_state d first j)) → AtSome s k (λ j. P (crash_state d (first ++ next) j))
more_crash_states P d first next s k few some = (some.0, some.1, some.2, subst P (sym (crash_state-earlier d first next some.0 (omega (arith, few, some.2)))) some.3)

later : LaterIsNotThere
later d first next s k e few = (
  λ cut. record {
    sectors = cut.sectors;
    labels = λ i t here. same_crash_states (λ now. HasLabelAt now i t.0) d first next s k few (cut.labels i t here);
    units = λ i u t here. same_crash_states (λ now. HasUnitAt now i u (unit u t.1)) d first next s k few (cut.units i u t here);
  },
  λ cut. record {
    sectors = cut.sectors;
    labels = λ i t here. more_crash_states (λ now. HasLabelAt now i t.0) d first next s k few (cut.labels i t here);
    units = λ i u t here. more_crash_states (λ now. HasUnitAt now i u (unit u t.1)) d first next s k few (cut.units i u t here);
  },
)

pub cut_laws : CutLaws
cut_laws = record { settled = settled; crash_states = crash_states; wider = wider; later = later }

pub between_long : (s k : ℕ) (writes : List DiskWrite) → length (between s k writes) ≡ length (take k writes) - s
between_long s k writes = length-drop s (take k writes)

pub crash_state-between : (d : List Sector) (writes : List DiskWrite) (s k j : ℕ) → s + j ≤ k → crash_state (crash_state d writes s) (between s k writes) j ≡ crash_state d writes (s + j)
crash_state-between d writes s k j low =
    ap (λ (e : List Sector). crash_state e (between s k writes) j) (sym (crash_state-take d writes k s (omega (arith, low))))
    ∙ crash_state-then d (take k writes) s j ∙ crash_state-take d writes k (s + j) low

window_some : (d : List Sector) (writes : List DiskWrite) (s k : ℕ) → s ≤ k → (P : List Sector → Type 0) → AtSome s k (λ j. P (crash_state d writes j))
    → AtSome 0 (length (between s k writes)) (λ j. P (crash_state (crash_state d writes s) (between s k writes) j))
window_some d writes s k order P some = either (cases_lt (some.0 - s) (length (between s k writes)))
  where
    there : crash_state (crash_state d writes s) (between s k writes) (some.0 - s) ≡ crash_state d writes some.0
    there = crash_state-between d writes s k (some.0 - s) (omega (arith, some.1, some.2)) ∙ ap (crash_state d writes) (let z : s + (some.0 - s) ≡ some.0 = omega (arith, some.1) in z)

    either : (some.0 - s < length (between s k writes)) ⊎ (length (between s k writes) ≤ some.0 - s) → AtSome 0 (length (between s k writes)) (λ j. P (crash_state (crash_state d writes s) (between s k writes) j))
    either (inl low) = (some.0 - s, omega arith, omega (arith, low), subst P (sym there) some.3)
    either (inr high) = (
      length (between s k writes),
      omega arith,
      omega arith,
      subst P (sym there ∙ crash_state-past (crash_state d writes s) (between s k writes) (some.0 - s) high) some.3,
    )

pub window_laws : WindowLaws
window_laws = record {
  cut = λ d writes s k e order cut. record {
    sectors = cut.sectors ∙ sym (crash_state_long d writes s);
    labels = λ i t here. window_some d writes s k order (λ now. HasLabelAt now i t.0) (cut.labels i t here);
    units = λ i u t here. window_some d writes s k order (λ now. HasUnitAt now i u (unit u t.1)) (cut.units i u t here);
  };
  crash_states = λ d writes s k j low. crash_state-between d writes s k j low;
  permitted = λ d writes s k all. permitted_window d writes s k all (cases_lt k s);
}
  where
    permitted_window : (d : List Sector) (writes : List DiskWrite) (s k : ℕ) → ArePermitted d writes → (k < s) ⊎ (s ≤ k) → ArePermitted (crash_state d writes s) (between s k writes)
    permitted_window d writes s k all (inr order) =
        subst (λ (e : List Sector). ArePermitted e (between s k writes)) (crash_state-take d writes k s order) (permitted-drop d (take k writes) s (permitted-take d writes k all))
    permitted_window d writes s k all (inl past) = nothing (between s k writes) (long (between_long s k writes))
      where
        nothing : (ws : List DiskWrite) → length ws ≡ 0 → ArePermitted (crash_state d writes s) ws
        nothing [] none = tt
        nothing (w ∷ ws) none = absurd (omega (arith, none))

        long : length (between s k writes) ≡ length (take k writes) - s → length (between s k writes) ≡ 0
        long e = omega (arith, e, past, short k writes)
          where
            short : {X : Type 0} (n : ℕ) (xs : List X) → length (take n xs) ≤ n
            short zero xs = omega arith
            short (suc n) [] = omega arith
            short (suc n) (x ∷ xs) = omega (arith, short n xs)
