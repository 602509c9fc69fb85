-- The labels of both maps.
use Rattle.std.proofs.Common.{◌≡◌, ◌≢◌, ◌⊎◌, inl, inr, ⊎_elim, ℕ, ◌+◌, ◌-◌, ◌<◌, ◌≤◌, Bool, List, length, Option, Some, None, refl, sym, ◌∙◌, ap, subst, arith, length-set}
use Rattle.std.specs.Prelude.{slice_get, slice_set, if◌then◌else◌, IsTrue, IsSomeAnd}
use Rattle.std.proofs.lemmas.Option.{slice_get_within}
use Rattle.std.proofs.lemmas.Bool.{cases_lt, cases_eq, le-leb, lt-leb}
use Rattle.labelled_disk.specs.declared.label.Wanted.{Wanted}
use Rattle.labelled_disk.specs.Label.{names}
use Rattle.labelled_disk.specs.Sectors.{Sector}
use Rattle.labelled_disk.specs.Layout.{first_data, vam, vfm}
use Rattle.labelled_disk.specs.Right.{FilesRight}
use Rattle.labelled_disk.specs.Root.{IsRoot, HasMaps, page_in, number_at, serial_of, counter_of}
use Rattle.labelled_disk.proofs.Finds.{get_set_same, get_set_other}
use Rattle.labelled_disk.proofs.WriteLemmas as laws
use Rattle.label_laws.specs.MapLabels.{map_page, AreMapped, MappedAreMaps, MappedOneMore, MapRelabelled}

first_is : (n : ℕ) → first_data n ≡ 1 + vam n + vfm n
unfolding first_data
first_is n = refl

low_page : (n i k : ℕ) → i ≡ 1 + k → k < vam n → map_page n i ≡ record { id = 1; page = k }
low_page n i k is low =
    ap (λ (b : Bool). if b then record { id = 1; page = i - 1 } else record { id = 2; page = i - 1 - vam n }) (le-leb i (vam n) (omega (arith, is, low)))
    ∙ ap (λ (p : ℕ). record { id = 1; page = p }) (let e : i - 1 ≡ k = omega (arith, is) in e)

high_page : (n i k : ℕ) → i ≡ 1 + vam n + k → map_page n i ≡ record { id = 2; page = k }
high_page n i k is =
    ap (λ (b : Bool). if b then record { id = 1; page = i - 1 } else record { id = 2; page = i - 1 - vam n }) (lt-leb i (vam n) (omega (arith, is)))
    ∙ ap (λ (p : ℕ). record { id = 2; page = p }) (let e : i - 1 - vam n ≡ k = omega (arith, is) in e)

abbrev Named : List Sector → ℕ → Wanted → Type 0
Named d i wanted = IsSomeAnd (slice_get d i) (λ s. IsTrue (names s.0 wanted))

pub mapped_are_maps : (n : ℕ) (d : List Sector) → MappedAreMaps n d
mapped_are_maps n d = record {
  maps = λ are. record {
    allocation = λ k low. subst (Named d (1 + k)) (low_page n (1 + k) k refl low) (are (1 + k) (omega arith) (omega (arith, low, first_is n)));
    file_map = λ k low. subst (Named d (1 + vam n + k)) (high_page n (1 + vam n + k) k refl) (are (1 + vam n + k) (omega arith) (omega (arith, low, first_is n)));
  };
  mapped = λ maps i high low. ⊎_elim
      (λ (l : vam n < i).
      let k : ℕ = i - 1 - vam n in
      let e : 1 + vam n + k ≡ i = omega (arith, l) in
      subst (Named d i) (sym (high_page n i k (sym e))) (subst (λ (j : ℕ). Named d j (record { id = 2; page = k })) e (maps.file_map k (omega (arith, l, low, first_is n)))))
      (λ (l : i ≤ vam n).
      let k : ℕ = i - 1 in
      let e : 1 + k ≡ i = omega (arith, high) in
      let below : k < vam n = omega (arith, l, high) in
      subst (Named d i) (sym (low_page n i k (sym e) below)) (subst (λ (j : ℕ). Named d j (record { id = 1; page = k })) e (maps.allocation k below)))
      (cases_lt (vam n) i);
}

pub map_relabelled : (with_temporary : Bool) → MapRelabelled with_temporary
map_relabelled with_temporary d i t right high low named =
    let e : List Sector = slice_set d i t in
    let long : length e ≡ length d = length-set d i t in
    let root : slice_get e 0 ≡ slice_get d 0 = get_set_other d i 0 t (λ q. omega (arith, q, high)) in
    let kept = laws.low_written with_temporary (serial_of d) (counter_of d) d i t right.files low in
    let mapped : AreMapped (length d) d = (mapped_are_maps (length d) d).mapped right.has_maps in
    record {
      files = kept.files;
      right = record {
        has_root = subst (λ (o : Option Sector). IsRoot (length e) o) (sym root) (subst (λ (n : ℕ). IsRoot n (slice_get d 0)) (sym long) right.has_root);
        has_maps = subst (λ (n : ℕ). HasMaps n e) (sym long) ((mapped_are_maps (length d) e).maps (λ j above below. at j above below mapped (cases_eq j i)));
        files = subst (λ (o : Option Sector). FilesRight with_temporary (number_at (page_in o) 16) (number_at (page_in o) 20) e) (sym root) kept.right;
      };
    }
  where
    within : (o : Option Sector) (wanted : Wanted) → slice_get d i ≡ o → IsSomeAnd o (λ s. IsTrue (names s.0 wanted)) → i < length d
    within None wanted e h = absurd h
    within (Some s) wanted e h = slice_get_within d i s e

    at : (j : ℕ) → 0 < j → j < first_data (length d) → AreMapped (length d) d → (j ≡ i) ⊎ (j ≢ i) → Named (slice_set d i t) j (map_page (length d) j)
    at j above below mapped (inr apart) =
        subst (λ (o : Option Sector). IsSomeAnd o (λ s. IsTrue (names s.0 (map_page (length d) j)))) (sym (get_set_other d i j t apart)) (mapped j above below)
    at j above below mapped (inl same) =
        subst (λ (n : ℕ). Named (slice_set d i t) n (map_page (length d) n)) (sym same)
        (subst (λ (o : Option Sector). IsSomeAnd o (λ s. IsTrue (names s.0 (map_page (length d) i))))
        (sym (get_set_same d i t (within (slice_get d i) (map_page (length d) i) refl (mapped i high low)))) named)

pub mapped_one_more : MappedOneMore
mapped_one_more n m d t below named mapped i high low = either (cases_eq i m)
  where
    either : (i ≡ m) ⊎ (i ≢ m) → Named (slice_set d m t) i (map_page n i)
    either (inl same) =
        subst (λ (j : ℕ). Named (slice_set d m t) j (map_page n j)) (sym same)
        (subst (λ (o : Option Sector). IsSomeAnd o (λ s. IsTrue (names s.0 (map_page n m)))) (sym (get_set_same d m t below)) named)
    either (inr apart) =
        subst (λ (o : Option Sector). IsSomeAnd o (λ s. IsTrue (names s.0 (map_page n i)))) (sym (get_set_other d m i t apart)) (mapped i high (omega (arith, low, apart)))
