-- Orphans that are collected, and sorted.
use Rattle.std.proofs.Common.{◌≡◌, ◌≢◌, inl, inr, ℕ, ◌+◌, ◌-◌, ◌<◌, ◌≤◌, Bool, true, false, cond, List, [], ◌∷◌, ◌++◌, length, map, take, drop, Option, Some, None, refl, sym, ◌∙◌, ap, subst, arith, eqb}
use Rattle.std.specs.Prelude.{slice_get, slice_index_or, option_map, count_by, ◌==◌}
use Rattle.std.specs.List.{All}
use Rattle.std.specs.List.Sorted.{IsPermutation}
use Rattle.std.proofs.lemmas.Bool.{cases_eq, eq-eqb, ne_eqb, false≢true, true≢false}
use Rattle.std.proofs.lemmas.List.{append-nil, take_all, drop_all}
use Rattle.std.proofs.lemmas.List.Sums.{sum_by-append}
use Rattle.std.proofs.lemmas.List.Sorted.{All-permutation, Contains-permutation, sum_by-IsPermutation}
use Rattle.std.proofs.lemmas.Option.{same_Some, none-some, slice_get-map, slice_get_within, slice_get-get_or, get_or_from_slice_get}
use Rattle.labelled_disk.specs.declared.label.Label.{Label}
use Rattle.labelled_disk.specs.Label.{is_free, leader_page}
use Rattle.labelled_disk.specs.Sectors.{Sector}
use Rattle.labelled_disk.specs.Layout.{data_sectors, first_data}
use Rattle.labelled_disk.specs.Lowest.{is_needed}
use Rattle.labelled_disk.specs.WriteLaws.{HasData}
use Rattle.label_laws.specs.Counts.{is_of_some_file}
use Rattle.label_survey.specs.declared.sector_state.SectorState.{SectorState}
use Rattle.label_survey.specs.declared.sector_state.SectorState.TheVariants.{Free, Orphan, Lost, Leader, Page}
use Rattle.label_survey.specs.declared.triples.Triple.{Triple}
use Rattle.label_survey.specs.SectorStates.{sector_state, AreSectorStates}
use Rattle.label_survey.specs.Triples.{triple_of}
use Rattle.volume_view.specs.Leftovers.{is_orphan, IsLeft, AreLeft}
use Rattle.volume_view.specs.Orphans.{IsOrphanAt, AreOrphans}
use Rattle.volume_view.proofs.ListLemmas.{dropped, in_pushed, pushed_prefix, pushed_last}

-- ---- collected

abbrev in_sector : ℕ → Triple → Bool
in_sector sector t = t.sector == sector

one_more : (ts : List Triple) (t : Triple) (sector : ℕ) → count_by (in_sector sector) (ts ++ t ∷ []) ≡ count_by (in_sector sector) ts + cond {A = ℕ} (in_sector sector t) 1 0
one_more ts t sector = omega (arith, sum_by-append (λ (u : Triple). cond {A = ℕ} (in_sector sector u) 1 0) ts (t ∷ []))

hit : (a b : ℕ) → a ≡ b → cond {A = ℕ} (eqb a b) 1 0 ≡ 1
hit a b same = ap (λ (x : Bool). cond {A = ℕ} x 1 0) (eq-eqb a b same)

miss : (a b : ℕ) → a ≢ b → cond {A = ℕ} (eqb a b) 1 0 ≡ 0
miss a b other = ap (λ (x : Bool). cond {A = ℕ} x 1 0) (ne_eqb a b other)

pub none_orphan : (first : ℕ) (labels : List Label) (sector_states : List SectorState) → AreOrphans first labels sector_states 0 []
none_orphan first labels sector_states = record {
  each = λ j t at. absurd (none-some t at);
  all = λ i l below. absurd (omega (arith, below));
  once = λ sector. omega arith;
  ahead = λ sector above. refl;
}

module _ (first : ℕ) (labels : List Label) (sector_states : List SectorState) (k : ℕ) (l : Label) (x : SectorState) (here : slice_get labels k ≡ Some l) (stands : slice_get sector_states k ≡ Some x) (ts : List Triple)
    (so_far : AreOrphans first labels sector_states k ts) where
  orphan_more : (new : List Triple) (t : Triple) → is_orphan x ≡ true → t ≡ triple_of (first + k) l → new ≡ ts ++ t ∷ [] → AreOrphans first labels sector_states (k + 1) new
  orphan_more new t orphan is pushed = record {
    each = λ j u at. elim (in_pushed ts t j u (ap (λ (us : List Triple). slice_get us j) (sym pushed) ∙ at)) [
      | inl old ↦ let o = so_far.each j u old in (o.0, o.1, omega (arith, o.2), o.3, o.4)
      | inr last ↦ (k, l, omega arith, record { here = here; x = x; stands = stands; orphan = orphan }, sym last ∙ is)
    ];
    all = λ i m below at. elim (cases_eq i k) [
      | inl same ↦
          let it : l ≡ m = same_Some l m (sym here ∙ ap (slice_get labels) (sym same) ∙ at.here) in
          (length ts, ap (λ (us : List Triple). slice_get us (length ts)) pushed ∙ pushed_last ts t ∙ ap (λ (u : Triple). Some u) (is ∙ ap (λ (i : ℕ). triple_of (first + i) l) (sym same) ∙ ap (triple_of (first + i)) it))
      | inr apart ↦
          let o = so_far.all i m (omega (arith, below, apart)) at in
          (o.0, ap (λ (us : List Triple). slice_get us o.0) pushed ∙ pushed_prefix ts t o.0 (triple_of (first + i) m) o.1)
    ];
    once = λ sector. elim (cases_eq t.sector sector) [
      | inl same ↦ omega (arith, ap (count_by (in_sector sector)) pushed, one_more ts t sector, hit t.sector sector same, so_far.ahead sector (omega (arith, same, ap (λ (u : Triple). u.sector) is)))
      | inr other ↦ omega (arith, ap (count_by (in_sector sector)) pushed, one_more ts t sector, miss t.sector sector other, so_far.once sector)
    ];
    ahead = λ sector above.
        omega (arith, ap (count_by (in_sector sector)) pushed, one_more ts t sector, miss t.sector sector (λ same. omega (arith, same, above, ap (λ (u : Triple). u.sector) is)), so_far.ahead sector (omega (arith, above)));
  }

  pub orphan_pushed : (new : List Triple) (sector : ℕ) → is_orphan x ≡ true → sector ≡ first + k → new ≡ ts ++ record { id = l.id; page = l.page; sector = sector } ∷ [] → AreOrphans first labels sector_states (k + 1) new
  orphan_pushed new sector orphan at pushed = orphan_more new (triple_of sector l) orphan (ap (λ (m : ℕ). triple_of m l) at) pushed

  pub orphan_same : is_orphan x ≡ false → AreOrphans first labels sector_states (k + 1) ts
  orphan_same other = record {
    each = λ j u at. let o = so_far.each j u at in (o.0, o.1, omega (arith, o.2), o.3, o.4);
    all = λ i m below at. elim (cases_eq i k) [
      | inl same ↦
          let it : x ≡ at.x = same_Some x at.x (sym stands ∙ ap (slice_get sector_states) (sym same) ∙ at.stands) in
          absurd (false≢true (sym other ∙ ap is_orphan it ∙ at.orphan))
      | inr apart ↦ so_far.all i m (omega (arith, below, apart)) at
    ];
    once = so_far.once;
    ahead = λ sector above. so_far.ahead sector (omega (arith, above));
  }

-- ---- sorted

pub orphan_moved : (first : ℕ) (labels : List Label) (sector_states : List SectorState) (k : ℕ) (ts us : List Triple) → IsPermutation ts us → AreOrphans first labels sector_states k ts → AreOrphans first labels sector_states k us
orphan_moved first labels sector_states k ts us moved is = record {
  each = λ j u at. subst Of (get_or_from_slice_get us j u u at) (All-permutation Of ts us moved given j u (slice_get_within us j u at));
  all = λ i l below at.
      let o = is.all i l below at in
      let t = triple_of (first + i) l in
      let has = Contains-permutation ts us t moved (o.0, slice_get_within ts o.0 t o.1, get_or_from_slice_get ts o.0 t t o.1) in
      (has.0, slice_get-get_or us has.0 t has.1 ∙ ap (λ (u : Triple). Some u) has.2);
  once = λ sector. omega (arith, sum_by-IsPermutation (λ (u : Triple). cond (in_sector sector u) 1 0) ts us moved, is.once sector);
  ahead = λ sector above. sum_by-IsPermutation (λ (u : Triple). cond (in_sector sector u) 1 0) ts us moved ∙ is.ahead sector above;
}
  where
    Of : Triple → Type 0
    Of t = (i : ℕ) × (l : Label) × (i < k) × IsOrphanAt labels sector_states i l × (t ≡ triple_of (first + i) l)

    given : All Of ts
    given j u below = is.each j (slice_index_or ts j u) (slice_get-get_or ts j u below)

-- each stands in one of the first k sectors
pub orphans_low : (first : ℕ) (labels : List Label) (sector_states : List SectorState) (k : ℕ) (ts : List Triple) → AreOrphans first labels sector_states k ts → (j : ℕ) (t : Triple) → j < length ts → (slice_index_or ts j t).sector < first + k
orphans_low first labels sector_states k ts orphans j t below =
    let one = orphans.each j (slice_index_or ts j t) (slice_get-get_or ts j t below) in
    omega (arith, one.2, ap (λ (u : Triple). u.sector) one.4)

-- what a vector holds whose elements were moved
pub refilled : {E : Type 0} (n : ℕ) (old new : List E) → n ≡ length old → length new ≡ length old → take n (new ++ drop (length new) old) ≡ new
refilled n old new full long = ap (λ es. take n (new ++ es)) (drop_all (length new) old (omega (arith, long))) ∙ ap (take n) (append-nil new) ∙ take_all n new (omega (arith, full, long))

-- ---- on a disk

-- a sector that stands so is an orphan exactly where no file needs it, it isn't free, and its label is not of a file
record AreFour (n f o : Bool) : Type 0 where
  needed : n ≡ false
  free : f ≡ false
  some : o ≡ false

orphan_stands : (n l f o : Bool) → is_orphan (cond n (cond l Leader Page) (cond f Free (cond o Lost Orphan))) ≡ true → AreFour n f o
orphan_stands true true f o h = absurd (false≢true h)
orphan_stands true false f o h = absurd (false≢true h)
orphan_stands false l true o h = absurd (false≢true h)
orphan_stands false l false true h = absurd (false≢true h)
orphan_stands false l false false h = record { needed = refl; free = refl; some = refl }

stands_orphan : (n l f o : Bool) → n ≡ false → f ≡ false → o ≡ false → is_orphan (cond n (cond l Leader Page) (cond f Free (cond o Lost Orphan))) ≡ true
stands_orphan true l f o h i j = absurd (true≢false h)
stands_orphan false l true o h i j = absurd (true≢false i)
stands_orphan false l false true h i j = absurd (true≢false j)
stands_orphan false l false false h i j = refl

module _ (d : List Sector) (labels : List Label) (sector_states : List SectorState) (labelled : labels ≡ map (λ s. s.0) (data_sectors d)) (are : AreSectorStates d sector_states) where
  pub are_leftovers : (first k : ℕ) (ts : List Triple) → first ≡ first_data (length d) → length labels ≤ k → AreOrphans first labels sector_states k ts → AreLeft d ts
  are_leftovers first k ts at all orphans = record {
    each = λ j t here. let o = orphans.each j t here in left t o.0 o.1 o.3 o.4;
    all = λ i s has left.
        let p = i - first in
        let back : first + p ≡ i = omega (arith, has.is_data, at) in
        let here : slice_get (data_sectors d) p ≡ Some s = dropped d (first_data (length d)) p ∙ ap (λ (m : ℕ). slice_get d (m + p)) (sym at) ∙ ap (slice_get d) back ∙ has.here in
        let label : slice_get labels p ≡ Some s.0 = ap (λ (ls : List Label). slice_get ls p) labelled ∙ slice_get-map (λ (u : Sector). u.0) (data_sectors d) p ∙ ap (option_map (λ (u : Sector). u.0)) here in
        let stands : slice_get sector_states p ≡ Some (sector_state d p s) = are p ∙ ap (option_map (sector_state d p)) here in
        let place : i - first_data (length d) ≡ p = omega (arith, at) in
        let orphan = stands_orphan (is_needed false (data_sectors d) p) (eqb s.0.page leader_page) (is_free s.0) (is_of_some_file false d s) (ap (is_needed false (data_sectors d)) (sym place) ∙ left.unneeded) left.taken left.of_none in
        let o = orphans.all p s.0 (omega (arith, all, slice_get_within labels p s.0 label)) record { here = label; x = sector_state d p s; stands = stands; orphan = orphan } in
        (o.0, o.1 ∙ ap (λ (m : ℕ). Some (triple_of m s.0)) back);
    once = orphans.once;
  }
    where
      left : (t : Triple) (i : ℕ) (l : Label) → IsOrphanAt labels sector_states i l → t ≡ triple_of (first + i) l → (s : Sector) × HasData d t.sector s × IsLeft d t.sector s × (t ≡ triple_of t.sector s.0)
      left t i l is of = found (slice_get (data_sectors d) i) refl
        where
          stands_at : slice_get sector_states i ≡ option_map (sector_state d i) (slice_get (data_sectors d) i)
          stands_at = are i

          place : t.sector ≡ first_data (length d) + i
          place = ap (λ (u : Triple). u.sector) of ∙ ap (λ (m : ℕ). m + i) at

          found : (o : Option Sector) → slice_get (data_sectors d) i ≡ o → (s : Sector) × HasData d t.sector s × IsLeft d t.sector s × (t ≡ triple_of t.sector s.0)
          found None e = absurd (none-some is.x (sym (stands_at ∙ ap (option_map (sector_state d i)) e) ∙ is.stands))
          found (Some s) e =
              let x_is : sector_state d i s ≡ is.x = same_Some (sector_state d i s) is.x (sym (stands_at ∙ ap (option_map (sector_state d i)) e) ∙ is.stands) in
              let l_is : s.0 ≡ l = same_Some s.0 l (sym (ap (λ (ls : List Label). slice_get ls i) labelled ∙ slice_get-map (λ (u : Sector). u.0) (data_sectors d) i ∙ ap (option_map (λ (u : Sector). u.0)) e) ∙ is.here) in
              let four = orphan_stands (is_needed false (data_sectors d) i) (eqb s.0.page leader_page) (is_free s.0) (is_of_some_file false d s) (ap is_orphan x_is ∙ is.orphan) in
              let back : t.sector - first_data (length d) ≡ i = omega (arith, place) in (
                s,
                record { is_data = omega (arith, place); here = ap (slice_get d) place ∙ sym (dropped d (first_data (length d)) i) ∙ e },
                record { taken = four.free; unneeded = ap (is_needed false (data_sectors d)) back ∙ four.needed; of_none = four.some },
                of ∙ ap (λ (m : ℕ). triple_of m l) (sym (ap (λ (u : Triple). u.sector) of)) ∙ ap (triple_of t.sector) (sym l_is),
              )
