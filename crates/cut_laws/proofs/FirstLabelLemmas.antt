-- A label that is the first write since the last sync, or the only one.
use Rattle.std.proofs.Common.{◌≡◌, ◌≢◌, ◌⊎◌, inl, inr, ℕ, zero, suc, ◌<◌, ◌≤◌, true, List, [], ◌∷◌, length, Option, Some, None, refl, sym, ◌∙◌, ap, subst, arith}
use Rattle.std.specs.Prelude.{slice_get}
use Rattle.std.proofs.lemmas.Bool.{cases_eq, cases_lt}
use Rattle.std.proofs.lemmas.Option.{same_Some, none-some, slice_get_past, slice_get_within}
use Rattle.labelled_disk.specs.declared.label.Label.{Label}
use Rattle.labelled_disk.specs.declared.disk.DiskWrite.{DiskWrite}
use Rattle.labelled_disk.specs.declared.disk.DiskWrite.TheVariants.{LabelOnly}
use Rattle.labelled_disk.specs.CrashState.{crash_state, written}
use Rattle.labelled_disk.specs.Sectors.{Sector}
use Rattle.labelled_disk.proofs.Finds.{get_set_same}
use Rattle.labelled_disk.proofs.WriteLemmas.{same_elements}
use Rattle.label_laws.proofs.FileLemmas.{label_written}
use Rattle.label_laws.proofs.MixedLemmas.{crash_state_long, written_long, written_other}
use Rattle.cut_laws.specs.Cut.{unit, AtSome, HasLabelAt, HasUnitAt, IsCutSince}
use Rattle.cut_laws.proofs.CrashStateLemmas.{get_some}
use Rattle.cut_laws.proofs.UnitLemmas.{same_units}

module _ (d : List Sector) (sector : ℕ) (label : Label) where
  abbrev pub labelled : List Sector
  labelled = written (LabelOnly sector label) d

  -- no other sector is written
  pub other_sector : (i : ℕ) → i ≢ sector → slice_get labelled i ≡ slice_get d i
  other_sector i off = written_other d (LabelOnly sector label) i (λ e. off (sym e))

  -- the sector has this label then, and its bytes
  pub labelled_there : (s : Sector) → slice_get d sector ≡ Some s → slice_get labelled sector ≡ Some (label, s.1)
  labelled_there s here = ap (λ (l : List Sector). slice_get l sector) (label_written d sector s label here) ∙ get_set_same d sector (label, s.1) (slice_get_within d sector s here)

  same_bytes : (i : ℕ) (s t : Sector) → slice_get d i ≡ Some s → slice_get labelled i ≡ Some t → t.1 ≡ s.1
  same_bytes i s t here there = elim (cases_eq i sector) [
    | inl on ↦
        ap (λ (v : Sector). v.1)
        (same_Some t (label, s.1) (sym there ∙ ap (λ (n : ℕ). slice_get labelled n) on ∙ labelled_there s (ap (λ (n : ℕ). slice_get d n) (sym on) ∙ here)))
    | inr off ↦ ap (λ (v : Sector). v.1) (same_Some t s (sym there ∙ other_sector i off ∙ here))
  ]

  -- The only write.
  module _ (e : List Sector) (cut : IsCutSince d (LabelOnly sector label ∷ []) e) where
    abbrev state : ℕ → List Sector
    state j = crash_state d (LabelOnly sector label ∷ []) j

    off_same : (j : ℕ) → j ≤ 1 → (i : ℕ) → i ≢ sector → slice_get (state j) i ≡ slice_get d i
    off_same zero low i off = refl
    off_same (suc zero) low i off = other_sector i off
    off_same (suc (suc j)) low i off = absurd (omega (arith, low))

    bytes_same : (j : ℕ) → j ≤ 1 → (i : ℕ) (s t : Sector) → slice_get d i ≡ Some s → slice_get (state j) i ≡ Some t → t.1 ≡ s.1
    bytes_same zero low i s t here there = ap (λ (v : Sector). v.1) (same_Some t s (sym there ∙ here))
    bytes_same (suc zero) low i s t here there = same_bytes i s t here there
    bytes_same (suc (suc j)) low i s t here there = absurd (omega (arith, low))

    -- the cut is the crash state from which it has the label
    is_state : (j : ℕ) → j ≤ 1 → ((t : Sector) → slice_get e sector ≡ Some t → HasLabelAt (state j) sector t.0) → e ≡ state j
    is_state j low at_sector = same_elements true 0 0 e (state j) (λ i. at i (cases_lt i (length e)))
      where
        long : length (state j) ≡ length e
        long = crash_state_long d (LabelOnly sector label ∷ []) j ∙ sym cut.sectors

        same_label : (i : ℕ) (s t : Sector) → slice_get (state j) i ≡ Some s → slice_get e i ≡ Some t → (i ≡ sector) ⊎ (i ≢ sector) → s.0 ≡ t.0
        same_label i s t here there (inl on) =
            let has = at_sector t (ap (λ (n : ℕ). slice_get e n) (sym on) ∙ there) in
            ap (λ (v : Sector). v.0) (same_Some s has.0 (sym here ∙ ap (λ (n : ℕ). slice_get (state j) n) on ∙ has.1)) ∙ has.2
        same_label i s t here there (inr off) =
            let one = cut.labels i t there in
            ap (λ (v : Sector). v.0) (same_Some s one.3.0 (sym here ∙ off_same j low i off ∙ sym (off_same one.0 one.2 i off) ∙ one.3.1)) ∙ one.3.2

        same_unit : (i u : ℕ) (s t : Sector) → slice_get (state j) i ≡ Some s → slice_get e i ≡ Some t → unit u s.1 ≡ unit u t.1
        same_unit i u s t here there =
            let one = cut.units i u t there in
            let v = get_some d i (omega (arith, slice_get_within e i t there, cut.sectors)) in
            ap (unit u) (bytes_same j low i v.0 s v.1 here ∙ sym (bytes_same one.0 one.2 i v.0 one.3.0 v.1 one.3.1)) ∙ one.3.2

        at : (i : ℕ) → (i < length e) ⊎ (length e ≤ i) → slice_get e i ≡ slice_get (state j) i
        at i (inr high) = slice_get_past e i high ∙ sym (slice_get_past (state j) i (omega (arith, high, long)))
        at i (inl below) =
            let t = get_some e i below in
            let s = get_some (state j) i (omega (arith, below, long)) in
            let labels : s.0.0 ≡ t.0.0 = same_label i s.0 t.0 s.1 t.1 (cases_eq i sector) in
            let pages : s.0.1 ≡ t.0.1 = same_units s.0.1 t.0.1 (λ u. same_unit i u s.0 t.0 s.1 t.1) in
            let both : s.0 ≡ t.0 = λ x. (labels x, pages x) in
            t.1 ∙ ap (λ (v : Sector). Some v) (sym both) ∙ sym s.1

    -- so it is there, or not
    pub one_label : (j : ℕ) × (j ≤ 1) × (e ≡ state j)
    one_label = from (slice_get e sector) refl
      where
        from : (o : Option Sector) → slice_get e sector ≡ o → (j : ℕ) × (j ≤ 1) × (e ≡ state j)
        from None none = (0, omega arith, is_state 0 (omega arith) (λ t there. absurd (none-some t (sym none ∙ there))))
        from (Some t) there =
            let one = cut.labels sector t there in
            (one.0, one.2, is_state one.0 one.2 (λ v here. (one.3.0, one.3.1, one.3.2 ∙ ap (λ (x : Sector). x.0) (same_Some t v (sym there ∙ here)))))

  -- The first of several.
  module _ (rest : List DiskWrite) (e : List Sector) (cut : IsCutSince d (LabelOnly sector label ∷ rest) e) where
    unit_after : (i u : ℕ) (bytes : List ℕ) → AtSome 0 (suc (length rest)) (λ j. HasUnitAt (crash_state d (LabelOnly sector label ∷ rest) j) i u bytes)
        → AtSome 0 (length rest) (λ j. HasUnitAt (crash_state labelled rest j) i u bytes)
    unit_after i u bytes (zero, low, few, has) =
        let t = get_some labelled i (omega (arith, slice_get_within d i has.0 has.1, written_long d (LabelOnly sector label))) in
        (0, omega arith, omega arith, (t.0, t.1, ap (unit u) (same_bytes i has.0 t.0 has.1 t.1) ∙ has.2))
    unit_after i u bytes (suc j, low, few, has) = (j, omega arith, omega (arith, few), has)

    label_after : (i : ℕ) (l : Label) → i ≢ sector → AtSome 0 (suc (length rest)) (λ j. HasLabelAt (crash_state d (LabelOnly sector label ∷ rest) j) i l)
        → AtSome 0 (length rest) (λ j. HasLabelAt (crash_state labelled rest j) i l)
    label_after i l off (zero, low, few, has) = (0, omega arith, omega arith, (has.0, other_sector i off ∙ has.1, has.2))
    label_after i l off (suc j, low, few, has) = (j, omega arith, omega (arith, few), has)

    -- what is as the cut but for this label, which it has from a later crash state, is a cut of the later writes
    pub cut_after : (x : List Sector) → length x ≡ length e → ((i : ℕ) → i ≢ sector → slice_get x i ≡ slice_get e i)
        → ((t : Sector) → slice_get x sector ≡ Some t → AtSome 0 (length rest) (λ j. HasLabelAt (crash_state labelled rest j) sector t.0) × (v : Sector) × (slice_get e sector ≡ Some v) × (v.1 ≡ t.1))
        → IsCutSince labelled rest x
    cut_after x long others at_sector = record {
      sectors = long ∙ cut.sectors ∙ sym (written_long d (LabelOnly sector label));
      labels = λ i t here. elim (cases_eq i sector) [
        | inl on ↦ subst (λ (n : ℕ). AtSome 0 (length rest) (λ j. HasLabelAt (crash_state labelled rest j) n t.0)) (sym on) (at_sector t (ap (λ (n : ℕ). slice_get x n) (sym on) ∙ here)).0
        | inr off ↦ label_after i t.0 off (cut.labels i t (sym (others i off) ∙ here))
      ];
      units = λ i u t here. elim (cases_eq i sector) [
        | inl on ↦
            let has = at_sector t (ap (λ (n : ℕ). slice_get x n) (sym on) ∙ here) in
            subst (λ (bytes : List ℕ). AtSome 0 (length rest) (λ j. HasUnitAt (crash_state labelled rest j) i u bytes)) (ap (unit u) has.3)
            (unit_after i u (unit u has.1.1) (cut.units i u has.1 (ap (λ (n : ℕ). slice_get e n) on ∙ has.2)))
        | inr off ↦ unit_after i u (unit u t.1) (cut.units i u t (sym (others i off) ∙ here))
      ];
    }
