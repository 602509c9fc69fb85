-- Pages of a file in sectors in a row: labels, bits and triples, and what the writes make.
use Rattle.std.proofs.Common.{◌≡◌, ◌≢◌, ◌⊎◌, inl, inr, ℕ, zero, suc, ◌+◌, ◌-◌, ◌<◌, ◌≤◌, Bool, true, false, ◌&&◌, ◌||◌, List, [], ◌∷◌, length, Some, refl, sym, ◌∙◌, ap, subst, arith, length-set}
use Rattle.std.specs.Prelude.{slice_get, slice_set, ◌==◌, nat_le, nat_lt}
use Rattle.std.specs.List.{range_with_len}
use Rattle.std.proofs.lemmas.Option.{same_Some, none-some, slice_get_within}
use Rattle.std.proofs.lemmas.Bool.{eq-eqb, ne_eqb, eqb-true, true≢false, cases_eq, cases_lt}
use Rattle.std.proofs.lemmas.Bool.Decides.{nat_tests}
use Rattle.std.proofs.lemmas.List.{map-set}
use Rattle.labelled_disk.specs.declared.label.Label.{Label}
use Rattle.labelled_disk.specs.Layout.{first_data}
use Rattle.labelled_disk.specs.Runs.{growth, zero_bytes}
use Rattle.labelled_disk.specs.Label.{page_label}
use Rattle.labelled_disk.specs.Sectors.{Sector}
use Rattle.labelled_disk.specs.WriteRuns.{after_writes}
use Rattle.labelled_disk.proofs.Finds.{get_set_same, get_set_other}
use Rattle.file_map.specs.declared.run.Run.{Run}
use Rattle.file_map.specs.Run.{holds, sector_at}
use Rattle.file_map.specs.FileMap.{Triples, with_run}
use Rattle.filer_kernel.specs.Marks.{Marks, marked}
use Rattle.swapper_kernel.specs.Stands.{labels_of}
use Rattle.session_words.specs.GrowLaws.{IsFree, AreFree, grown_labels, grown_marks, grown_names}

-- the number is in the list, or not
pub is_in : (is : List ℕ) (k : ℕ) → ((j : ℕ) × (slice_get is j ≡ Some k)) ⊎ ((j : ℕ) → slice_get is j ≢ Some k)
is_in [] k = inr (λ j at. none-some k at)
is_in (i ∷ is) k = elim (cases_eq k i) [
  | inl here ↦ inl (zero, ap (λ (n : ℕ). Some n) (sym here))
  | inr other ↦ elim (is_in is k) [
    | inl (j, at) ↦ inl (suc j, at)
    | inr none ↦ inr (nowhere other none)
  ]
]
  where
    nowhere : k ≢ i → ((j : ℕ) → slice_get is j ≢ Some k) → (j : ℕ) → slice_get (i ∷ is) j ≢ Some k
    nowhere other none zero at = other (sym (same_Some i k at))
    nowhere other none (suc j) at = none j at

-- the numbers of a row
pub in_row : (a n j k : ℕ) → slice_get (range_with_len a n) j ≡ Some k → (j < n) × (k ≡ a + j)
in_row a zero j k at = absurd (none-some k at)
in_row a (suc n) zero k at = let z : a ≡ k = same_Some a k at in (omega arith, omega (arith, z))
in_row a (suc n) (suc j) k at = let rest = in_row (a + 1) n j k at in let below = rest.0 in let is = rest.1 in (omega (arith, below), omega (arith, is))

-- bits of a row
row_marks_one : (a n k : ℕ) (marks : Marks) → marked true (a + 1) n (λ j. j == a || marks j) k ≡ marked true a (suc n) marks k
row_marks_one a n k marks = elim (cases_lt k a) [
  | inl prefix ↦
      let x : (nat_le (a + 1) k && nat_lt k (a + 1 + n)) ≡ false = grind (arith, nat_tests) in
      let y : (nat_le a k && nat_lt k (a + suc n)) ≡ false = grind (arith, nat_tests) in
      let z : (k == a) ≡ false = ne_eqb k a (λ q. omega (arith, q, prefix)) in
      rw (x, y, z) refl
  | inr from ↦ elim (cases_eq k a) [
    | inl here ↦
        let x : (nat_le (a + 1) k && nat_lt k (a + 1 + n)) ≡ false = grind (arith, nat_tests) in
        let y : (nat_le a k && nat_lt k (a + suc n)) ≡ true = grind (arith, nat_tests) in
        let z : (k == a) ≡ true = eq-eqb k a here in
        rw (x, y, z) refl
    | inr other ↦ elim (cases_lt k (a + suc n)) [
      | inl below ↦
          let x : (nat_le (a + 1) k && nat_lt k (a + 1 + n)) ≡ true = grind (arith, nat_tests) in
          let y : (nat_le a k && nat_lt k (a + suc n)) ≡ true = grind (arith, nat_tests) in
          rw (x, y) refl
      | inr past ↦
          let x : (nat_le (a + 1) k && nat_lt k (a + 1 + n)) ≡ false = grind (arith, nat_tests) in
          let y : (nat_le a k && nat_lt k (a + suc n)) ≡ false = grind (arith, nat_tests) in
          let z : (k == a) ≡ false = ne_eqb k a other in
          rw (x, y, z) refl
    ]
  ]
]

pub row_marks : (a n : ℕ) (marks : Marks) (k : ℕ) → grown_marks (range_with_len a n) marks k ≡ marked true a n marks k
row_marks a zero marks k = nothing (cases_lt k a)
  where
    nothing : (k < a) ⊎ (a ≤ k) → marks k ≡ marked true a 0 marks k
    nothing (inl prefix) = let x : (nat_le a k && nat_lt k (a + 0)) ≡ false = grind (arith, nat_tests) in rw x refl
    nothing (inr from) = let x : (nat_le a k && nat_lt k (a + 0)) ≡ false = grind (arith, nat_tests) in rw x refl
row_marks a (suc n) marks k = row_marks (a + 1) n (λ j. j == a || marks j) k ∙ row_marks_one a n k marks

-- triples of a row
abbrev pub row_run : ℕ → ℕ → ℕ → ℕ → Run
row_run id page sector pages = record { id = id; first = page; pages = pages; sector = sector }

or_or : (a b c : Bool) → ((a || b) || c) ≡ (b || (a || c))
or_or true true c = refl
or_or true false c = refl
or_or false true c = refl
or_or false false c = refl

row_names_one : (id page a n : ℕ) (j p s : ℕ) → ((j == id && p == page && s == a) || (holds (row_run id (page + 1) (a + 1) n) j p && (s == sector_at (row_run id (page + 1) (a + 1) n) p)))
    ≡ (holds (row_run id page a (suc n)) j p && (s == sector_at (row_run id page a (suc n)) p))
row_names_one id page a n j p s = own (id == j) (j == id) refl refl
  where
    places : ((p == page && s == a) || ((nat_le (page + 1) p && nat_lt p (page + 1 + n)) && (s == a + 1 + (p - (page + 1))))) ≡ ((nat_le page p && nat_lt p (page + suc n)) && (s == a + (p - page)))
    places = elim (cases_lt p page) [
      | inl prefix ↦
          let x : (p == page) ≡ false = ne_eqb p page (λ q. omega (arith, q, prefix)) in
          let y : (nat_le (page + 1) p && nat_lt p (page + 1 + n)) ≡ false = grind (arith, nat_tests) in
          let z : (nat_le page p && nat_lt p (page + suc n)) ≡ false = grind (arith, nat_tests) in
          rw (x, y, z) refl
      | inr from ↦ elim (cases_eq p page) [
        | inl here ↦
            let x : (p == page) ≡ true = eq-eqb p page here in
            let y : (nat_le (page + 1) p && nat_lt p (page + 1 + n)) ≡ false = grind (arith, nat_tests) in
            let z : (nat_le page p && nat_lt p (page + suc n)) ≡ true = grind (arith, nat_tests) in
            let w : a + (p - page) ≡ a = omega (arith, here) in
            rw (x, y, z, w) (either (s == a))
        | inr other ↦
            let x : (p == page) ≡ false = ne_eqb p page other in
            let w : a + 1 + (p - (page + 1)) ≡ a + (p - page) = omega (arith, from, other) in
            elim (cases_lt p (page + suc n)) [
              | inl below ↦
                  let y : (nat_le (page + 1) p && nat_lt p (page + 1 + n)) ≡ true = grind (arith, nat_tests) in
                  let z : (nat_le page p && nat_lt p (page + suc n)) ≡ true = grind (arith, nat_tests) in
                  rw (x, y, z, w) refl
              | inr past ↦
                  let y : (nat_le (page + 1) p && nat_lt p (page + 1 + n)) ≡ false = grind (arith, nat_tests) in
                  let z : (nat_le page p && nat_lt p (page + suc n)) ≡ false = grind (arith, nat_tests) in
                  rw (x, y, z) refl
            ]
      ]
    ]
      where
        either : (b : Bool) → (b || false) ≡ b
        either true = refl
        either false = refl

    own : (b c : Bool) → (id == j) ≡ b → (j == id) ≡ c → ((c && p == page && s == a) || ((b && (nat_le (page + 1) p && nat_lt p (page + 1 + n))) && (s == a + 1 + (p - (page + 1)))))
        ≡ ((b && (nat_le page p && nat_lt p (page + suc n))) && (s == a + (p - page)))
    own true true e f = places
    own true false e f = absurd (let q = eqb-true id j e in true≢false (sym (eq-eqb j id (sym q)) ∙ f))
    own false true e f = absurd (let q = eqb-true j id f in true≢false (sym (eq-eqb id j (sym q)) ∙ e))
    own false false e f = refl

pub row_names : (id page a n : ℕ) (named : Triples) (j p s : ℕ) → grown_names id page (range_with_len a n) named j p s ≡ with_run named (row_run id page a n) j p s
row_names id page a zero named j p s = nothing (named j p s) (cases_lt p page)
  where
    nothing : (b : Bool) → (p < page) ⊎ (page ≤ p) → b ≡ (b || (holds (row_run id page a 0) j p && (s == sector_at (row_run id page a 0) p)))
    nothing true either = refl
    nothing false (inl prefix) = let x : (nat_le page p && nat_lt p (page + 0)) ≡ false = grind (arith, nat_tests) in rw x (none (id == j))
      where
        none : (b : Bool) → false ≡ ((b && false) && (s == sector_at (row_run id page a 0) p))
        none true = refl
        none false = refl
    nothing false (inr from) = let x : (nat_le page p && nat_lt p (page + 0)) ≡ false = grind (arith, nat_tests) in rw x (none (id == j))
      where
        none : (b : Bool) → false ≡ ((b && false) && (s == sector_at (row_run id page a 0) p))
        none true = refl
        none false = refl
row_names id page a (suc n) named j p s =
    row_names id (page + 1) (a + 1) n (λ j p s. (j == id && p == page && s == a) || named j p s) j p s
    ∙ or_or (j == id && p == page && s == a) (named j p s) (holds (row_run id (page + 1) (a + 1) n) j p && (s == sector_at (row_run id (page + 1) (a + 1) n) p))
    ∙ ap (λ (b : Bool). named j p s || b) (row_names_one id page a n j p s)

-- free sectors of a row are free each when its turn comes
pub row_free : (id kind page a n : ℕ) (labels : List Label) → ((k : ℕ) → k < n → IsFree labels (a + k)) → AreFree id kind page (range_with_len a n) labels
row_free id kind page a zero labels free = tt
row_free id kind page a (suc n) labels free = (
  subst (IsFree labels) (omega arith) (free 0 (omega arith)),
  row_free id kind (page + 1) (a + 1) n (slice_set labels a (page_label id kind page)) (λ k below.
      let z : a + suc k ≡ a + 1 + k = omega arith in
      let was = subst (IsFree labels) z (free (suc k) (omega (arith, below))) in
      record {
        label = was.label;
        there = record {
          is_data = subst (λ (m : ℕ). first_data m ≤ a + 1 + k) (sym (length-set labels a (page_label id kind page))) was.there.is_data;
          here = get_set_other labels a (a + 1 + k) (page_label id kind page) (λ q. omega (arith, q)) ∙ was.there.here;
        };
        free = was.free;
      }),
)

-- what the writes of a growth make
pub growth_labels : (id kind page : ℕ) (is : List ℕ) (d : List Sector) → labels_of (after_writes (growth id kind page is) d) ≡ grown_labels id kind page is (labels_of d)
growth_labels id kind page [] d = refl
growth_labels id kind page (i ∷ is) d =
    growth_labels id kind (page + 1) is (slice_set d i (page_label id kind page, zero_bytes))
    ∙ ap (grown_labels id kind (page + 1) is) (map-set (λ (s : Sector). s.0) d i (page_label id kind page, zero_bytes))

pub growth_elsewhere : (id kind page : ℕ) (is : List ℕ) (d : List Sector) (k : ℕ) → ((j : ℕ) → slice_get is j ≢ Some k) → slice_get (after_writes (growth id kind page is) d) k ≡ slice_get d k
growth_elsewhere id kind page [] d k none = refl
growth_elsewhere id kind page (i ∷ is) d k none =
    growth_elsewhere id kind (page + 1) is (slice_set d i (page_label id kind page, zero_bytes)) k (λ j. none (suc j))
    ∙ get_set_other d i k (page_label id kind page, zero_bytes) (λ same. none zero (ap (λ (n : ℕ). Some n) (sym same)))

pub growth_fresh : (id kind page : ℕ) (is : List ℕ) (d : List Sector) (j k : ℕ) (s : Sector) → slice_get is j ≡ Some k → slice_get (after_writes (growth id kind page is) d) k ≡ Some s → s.1 ≡ zero_bytes
growth_fresh id kind page [] d j k s at here = absurd (none-some k at)
growth_fresh id kind page (i ∷ is) d (suc j) k s at here = growth_fresh id kind (page + 1) is (slice_set d i (page_label id kind page, zero_bytes)) j k s at here
growth_fresh id kind page (i ∷ is) d zero k s at here = elim (is_in is k) [
  | inl (j, later) ↦ growth_fresh id kind (page + 1) is (slice_set d i (page_label id kind page, zero_bytes)) j k s later here
  | inr none ↦
      let own : i ≡ k = same_Some i k at in
      let now : slice_get (slice_set d i (page_label id kind page, zero_bytes)) i ≡ Some s =
      ap (slice_get (slice_set d i (page_label id kind page, zero_bytes))) own ∙ sym (growth_elsewhere id kind (page + 1) is (slice_set d i (page_label id kind page, zero_bytes)) k none) ∙ here in
      let within = slice_get_within (slice_set d i (page_label id kind page, zero_bytes)) i s now in
      let inside : i < length d = let long = length-set d i (page_label id kind page, zero_bytes) in omega (arith, within, long) in
      ap (λ (t : Sector). t.1) (same_Some {A = Sector} s (page_label id kind page, zero_bytes) (sym now ∙ get_set_same d i (page_label id kind page, zero_bytes) inside))
]

-- the labels of a growth are of its file
pub growth_own : (id kind page : ℕ) (is : List ℕ) (d : List Sector) (j k : ℕ) (s : Sector) → slice_get is j ≡ Some k → slice_get (after_writes (growth id kind page is) d) k ≡ Some s → s.0.id ≡ id
growth_own id kind page [] d j k s at here = absurd (none-some k at)
growth_own id kind page (i ∷ is) d (suc j) k s at here = growth_own id kind (page + 1) is (slice_set d i (page_label id kind page, zero_bytes)) j k s at here
growth_own id kind page (i ∷ is) d zero k s at here = elim (is_in is k) [
  | inl (j, later) ↦ growth_own id kind (page + 1) is (slice_set d i (page_label id kind page, zero_bytes)) j k s later here
  | inr none ↦
      let own : i ≡ k = same_Some i k at in
      let now : slice_get (slice_set d i (page_label id kind page, zero_bytes)) i ≡ Some s =
      ap (slice_get (slice_set d i (page_label id kind page, zero_bytes))) own ∙ sym (growth_elsewhere id kind (page + 1) is (slice_set d i (page_label id kind page, zero_bytes)) k none) ∙ here in
      let within = slice_get_within (slice_set d i (page_label id kind page, zero_bytes)) i s now in
      let inside : i < length d = let long = length-set d i (page_label id kind page, zero_bytes) in omega (arith, within, long) in
      ap (λ (t : Sector). t.0.id) (same_Some {A = Sector} s (page_label id kind page, zero_bytes) (sym now ∙ get_set_same d i (page_label id kind page, zero_bytes) inside))
]

-- and of its pages
pub growth_page : (id kind page : ℕ) (is : List ℕ) (d : List Sector) (j k : ℕ) (s : Sector) → slice_get is j ≡ Some k → slice_get (after_writes (growth id kind page is) d) k ≡ Some s → (page ≤ s.0.page) × (s.0.page < page + length is)
growth_page id kind page [] d j k s at here = absurd (none-some k at)
growth_page id kind page (i ∷ is) d (suc j) k s at here =
    let rest = growth_page id kind (page + 1) is (slice_set d i (page_label id kind page, zero_bytes)) j k s at here in
    let from = rest.0 in
    let below = rest.1 in
    (omega (arith, from), omega (arith, below))
growth_page id kind page (i ∷ is) d zero k s at here = elim (is_in is k) [
  | inl (j, later) ↦
      let rest = growth_page id kind (page + 1) is (slice_set d i (page_label id kind page, zero_bytes)) j k s later here in
      let from = rest.0 in
      let below = rest.1 in
      (omega (arith, from), omega (arith, below))
  | inr none ↦
      let own : i ≡ k = same_Some i k at in
      let now : slice_get (slice_set d i (page_label id kind page, zero_bytes)) i ≡ Some s =
      ap (slice_get (slice_set d i (page_label id kind page, zero_bytes))) own ∙ sym (growth_elsewhere id kind (page + 1) is (slice_set d i (page_label id kind page, zero_bytes)) k none) ∙ here in
      let within = slice_get_within (slice_set d i (page_label id kind page, zero_bytes)) i s now in
      let inside : i < length d = let long = length-set d i (page_label id kind page, zero_bytes) in omega (arith, within, long) in
      let same : s.0.page ≡ page = ap (λ (t : Sector). t.0.page) (same_Some {A = Sector} s (page_label id kind page, zero_bytes) (sym now ∙ get_set_same d i (page_label id kind page, zero_bytes) inside)) in
      (omega (arith, same), omega (arith, same))
]
