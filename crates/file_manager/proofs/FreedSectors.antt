-- Labels of sectors that become free, one after the other: what the writes make, and runs after runs.
use Rattle.std.proofs.Common.{◌≡◌, ◌≢◌, ◌⊎◌, inl, inr, ℕ, zero, suc, ◌+◌, ◌-◌, ◌<◌, true, false, List, [], ◌∷◌, ◌++◌, length, take, Option, Some, None, refl, sym, ◌∙◌, ap, subst, arith, length-set}
use Rattle.std.specs.Prelude.{slice_get, slice_set, option_map, nat_le, nat_lt, ◌&&◌, if◌then◌else◌}
use Rattle.std.specs.Option.{option_map_or}
use Rattle.std.specs.List.{range_with_len}
use Rattle.std.proofs.lemmas.Option.{same_Some, none-some, slice_get-map}
use Rattle.std.proofs.lemmas.Bool.{cases_eq, cases_lt}
use Rattle.std.proofs.lemmas.Bool.Decides.{nat_tests}
use Rattle.labelled_disk.specs.declared.disk.DiskWrite.{DiskWrite}
use Rattle.labelled_disk.specs.declared.disk.DiskWrite.TheVariants.{LabelOnly}
use Rattle.labelled_disk.specs.declared.layout.Layout.{Layout}
use Rattle.labelled_disk.specs.CrashState.{written}
use Rattle.labelled_disk.specs.Runs.{freeing}
use Rattle.labelled_disk.specs.Sectors.{Sector, free_label}
use Rattle.labelled_disk.specs.WriteRuns.{after_writes}
use Rattle.labelled_disk.proofs.Finds.{get_set_same, get_set_other}
use Rattle.file_map.specs.FileMap.{Triples}
use Rattle.swapper_kernel.specs.Stands.{labels_of}
use Rattle.swapper_kernel.specs.DiffersLaws.{label_here}
use Rattle.filer_kernel.specs.Marks.{Marks, marked}
use Rattle.file_manager.specs.Freeing.{IsNone, ClearsBits, FreesSectors, AreNamedUp}

-- the number is in the list, or not
pub in_or_not : (is : List ℕ) (k : ℕ) → ((j : ℕ) × (slice_get is j ≡ Some k)) ⊎ IsNone is k
in_or_not [] k = inr (λ j at. none-some k at)
in_or_not (i ∷ is) k = elim (cases_eq k i) [
  | inl here ↦ inl (zero, ap (λ (n : ℕ). Some n) (sym here))
  | inr other ↦ elim (in_or_not is k) [
    | inl (j, at) ↦ inl (suc j, at)
    | inr none ↦ inr (nowhere other none)
  ]
]
  where
    nowhere : k ≢ i → IsNone is k → (j : ℕ) → slice_get (i ∷ is) j ≢ Some k
    nowhere other none zero at = other (sym (same_Some i k at))
    nowhere other none (suc j) at = none j at

-- the numbers of a row
pub row_has : (a n j k : ℕ) → slice_get (range_with_len a n) j ≡ Some k → (j < n) × (k ≡ a + j)
row_has a zero j k at = absurd (none-some k at)
row_has a (suc n) zero k at = let z : a ≡ k = same_Some a k at in (omega arith, omega (arith, z))
row_has a (suc n) (suc j) k at = let rest = row_has (a + 1) n j k at in let below = rest.0 in let is = rest.1 in (omega (arith, below), omega (arith, is))

pub row_at : (a n j : ℕ) → j < n → slice_get (range_with_len a n) j ≡ Some (a + j)
row_at a zero j below = absurd (omega (arith, below))
row_at a (suc n) zero below = ap (λ (k : ℕ). Some k) (let z : a ≡ a + 0 = omega arith in z)
row_at a (suc n) (suc j) below = row_at (a + 1) n j (omega (arith, below)) ∙ ap (λ (k : ℕ). Some k) (let z : a + 1 + j ≡ a + suc j = omega arith in z)

-- the bits of a row
pub row_clears : (a n : ℕ) (marks : Marks) → ClearsBits (range_with_len a n) marks (marked false a n marks)
row_clears a n marks = record {
  cleared = λ j k at.
      let r = row_has a n j k at in
      let below = r.0 in
      let is = r.1 in
      let x : (nat_le a k && nat_lt k (a + n)) ≡ true = grind (arith, nat_tests) in
      ap (λ b. if b then false else marks k) x;
  others = λ k none. elim (cases_lt k a) [
    | inl prefix ↦
        let x : (nat_le a k && nat_lt k (a + n)) ≡ false = grind (arith, nat_tests) in
        ap (λ b. if b then false else marks k) x
    | inr from ↦ elim (cases_lt k (a + n)) [
      | inl inside ↦ absurd (none (k - a) (row_at a n (k - a) (omega (arith, from, inside)) ∙ ap (λ (i : ℕ). Some i) (let z : a + (k - a) ≡ k = omega (arith, from) in z)))
      | inr past ↦
          let x : (nat_le a k && nat_lt k (a + n)) ≡ false = grind (arith, nat_tests) in
          ap (λ b. if b then false else marks k) x
    ]
  ];
}

there_is : (xs : List Sector) (k : ℕ) → k < length xs → (x : Sector) × (slice_get xs k ≡ Some x)
there_is [] k below = absurd (omega (arith, below))
there_is (x ∷ xs) zero below = (x, refl)
there_is (x ∷ xs) (suc k) below = there_is xs k (omega (arith, below))

-- equal sectors have equal labels
pub labels_at : (m n : List Sector) (k : ℕ) → slice_get m k ≡ slice_get n k → slice_get (labels_of m) k ≡ slice_get (labels_of n) k
labels_at m n k same = slice_get-map (λ (s : Sector). s.0) m k ∙ ap (λ (o : Option Sector). option_map (λ s. s.0) o) same ∙ sym (slice_get-map (λ (s : Sector). s.0) n k)

-- one label
one_other : (i k : ℕ) (d : List Sector) → k ≢ i → slice_get (written (LabelOnly i free_label) d) k ≡ slice_get d k
one_other i k d other = either (slice_get d i)
  where
    either : (o : Option Sector) → slice_get (option_map_or (λ old. slice_set d i (free_label, old.1)) o d) k ≡ slice_get d k
    either None = refl
    either (Some old) = get_set_other d i k (free_label, old.1) other

one_long : (i : ℕ) (d : List Sector) → length (written (LabelOnly i free_label) d) ≡ length d
one_long i d = either (slice_get d i)
  where
    either : (o : Option Sector) → length (option_map_or (λ old. slice_set d i (free_label, old.1)) o d) ≡ length d
    either None = refl
    either (Some old) = length-set d i (free_label, old.1)

one_here : (i : ℕ) (d : List Sector) → i < length d → slice_get (labels_of (written (LabelOnly i free_label) d)) i ≡ Some free_label
one_here i d below = either (slice_get d i) refl
  where
    either : (o : Option Sector) → slice_get d i ≡ o → slice_get (labels_of (option_map_or (λ old. slice_set d i (free_label, old.1)) o d)) i ≡ Some free_label
    either None e = let t = there_is d i below in absurd (none-some t.0 (sym e ∙ t.1))
    either (Some old) e = label_here (slice_set d i (free_label, old.1)) i (free_label, old.1) (get_set_same d i (free_label, old.1) below)

-- all of them
pub freed_elsewhere : (is : List ℕ) (d : List Sector) (k : ℕ) → IsNone is k → slice_get (after_writes (freeing is) d) k ≡ slice_get d k
freed_elsewhere [] d k none = refl
freed_elsewhere (i ∷ is) d k none =
    freed_elsewhere is (written (LabelOnly i free_label) d) k (λ j. none (suc j))
    ∙ one_other i k d (λ same. none zero (ap (λ (n : ℕ). Some n) (sym same)))

pub freed_long : (is : List ℕ) (d : List Sector) → length (after_writes (freeing is) d) ≡ length d
freed_long [] d = refl
freed_long (i ∷ is) d = freed_long is (written (LabelOnly i free_label) d) ∙ one_long i d

pub freed_here : (is : List ℕ) (d : List Sector) (j k : ℕ) → slice_get is j ≡ Some k → k < length d → slice_get (labels_of (after_writes (freeing is) d)) k ≡ Some free_label
freed_here [] d j k at below = absurd (none-some k at)
freed_here (i ∷ is) d (suc j) k at below = freed_here is (written (LabelOnly i free_label) d) j k at (let long = one_long i d in omega (arith, below, long))
freed_here (i ∷ is) d zero k at below = elim (in_or_not is k) [
  | inl (j, later) ↦ freed_here is (written (LabelOnly i free_label) d) j k later (let long = one_long i d in omega (arith, below, long))
  | inr none ↦
      let own : i ≡ k = same_Some i k at in
      labels_at (after_writes (freeing is) (written (LabelOnly i free_label) d)) (written (LabelOnly i free_label) d) k (freed_elsewhere is (written (LabelOnly i free_label) d) k none)
      ∙ ap (slice_get (labels_of (written (LabelOnly i free_label) d))) (sym own) ∙ one_here i d (omega (arith, own, below))
]

-- a list after a list
get_either : (is js : List ℕ) (j k : ℕ) → slice_get (is ++ js) j ≡ Some k → ((i : ℕ) × (slice_get is i ≡ Some k)) ⊎ ((i : ℕ) × (slice_get js i ≡ Some k))
get_either [] js j k at = inr (j, at)
get_either (i ∷ is) js zero k at = inl (zero, at)
get_either (i ∷ is) js (suc j) k at = elim (get_either is js j k at) [ inl (n, here) ↦ inl (suc n, here) | inr there ↦ inr there ]

none_first : (is js : List ℕ) (k : ℕ) → IsNone (is ++ js) k → IsNone is k
none_first [] js k none j at = none-some k at
none_first (i ∷ is) js k none zero at = none zero at
none_first (i ∷ is) js k none (suc j) at = none_first is js k (λ n. none (suc n)) j at

none_second : (is js : List ℕ) (k : ℕ) → IsNone (is ++ js) k → IsNone js k
none_second [] js k none = none
none_second (i ∷ is) js k none = none_second is js k (λ n. none (suc n))

pub freeing_append : (is js : List ℕ) → freeing is ++ freeing js ≡ freeing (is ++ js)
freeing_append [] js = refl
freeing_append (i ∷ is) js = ap (λ (ws : List DiskWrite). LabelOnly i free_label ∷ ws) (freeing_append is js)

pub long_append : (is js : List ℕ) → length (is ++ js) ≡ length is + length js
long_append [] js = let z : length js ≡ 0 + length js = omega arith in z
long_append (i ∷ is) js = let rest = long_append is js in let z : suc (length (is ++ js)) ≡ suc (length is) + length js = omega (arith, rest) in z

pub up_append : (named : Triples) (id page : ℕ) (is js : List ℕ) → AreNamedUp named id page is → AreNamedUp named id (page + length is) js → AreNamedUp named id page (is ++ js)
up_append named id page [] js first next = let z : page + 0 ≡ page = omega arith in subst (λ (n : ℕ). AreNamedUp named id n js) z next
up_append named id page (i ∷ is) js first next =
    let z : page + suc (length is) ≡ page + 1 + length is = omega arith in
    (first.0, up_append named id (page + 1) is js first.1 (subst (λ (n : ℕ). AreNamedUp named id n js) z next))

pub take_freeing : (n : ℕ) (is : List ℕ) → take n (freeing is) ≡ freeing (take n is)
take_freeing zero is = refl
take_freeing (suc n) [] = refl
take_freeing (suc n) (i ∷ is) = ap (λ (ws : List DiskWrite). LabelOnly i free_label ∷ ws) (take_freeing n is)

clears_then : (is js : List ℕ) (a b c : Marks) → ClearsBits is a b → ClearsBits js b c → ClearsBits (is ++ js) a c
clears_then is js a b c h k = record {
  cleared = λ j s at. elim (in_or_not js s) [
    | inl (i, later) ↦ k.cleared i s later
    | inr none ↦ elim (get_either is js j s at) [
      | inl (i, first) ↦ k.others s none ∙ h.cleared i s first
      | inr (i, later) ↦ absurd (none i later)
    ]
  ];
  others = λ s none. k.others s (none_second is js s none) ∙ h.others s (none_first is js s none);
}

pub frees_then : (layout : Layout) (is js : List ℕ) (m n o : List Sector) → FreesSectors layout is m n → FreesSectors layout js n o → FreesSectors layout (is ++ js) m o
frees_then layout is js m n o h k = record {
  long = k.long ∙ h.long;
  freed = λ j s at below. elim (in_or_not js s) [
    | inl (i, later) ↦ k.freed i s later (let long = h.long in omega (arith, below, long))
    | inr none ↦ elim (get_either is js j s at) [
      | inl (i, first) ↦ k.labels s none ∙ h.freed i s first below
      | inr (i, later) ↦ absurd (none i later)
    ]
  ];
  labels = λ s none. k.labels s (none_second is js s none) ∙ h.labels s (none_first is js s none);
  pages = λ s t here none apart. k.pages s t (h.pages s t here (none_first is js s none) apart) (none_second is js s none) apart;
  bits = λ marks bits.
      let a = h.bits marks bits in
      let b = k.bits a.0 a.1 in
      (b.0, b.1, clears_then is js marks a.0 b.0 a.2 b.2);
}

-- no sector yet
pub frees_none : (layout : Layout) (m : List Sector) → FreesSectors layout [] m m
frees_none layout m = record {
  long = refl;
  freed = λ j k at below. absurd (none-some k at);
  labels = λ k none. refl;
  pages = λ k s here none apart. here;
  bits = λ marks bits. (marks, bits, record { cleared = λ j k at. absurd (none-some k at); others = λ k none. refl });
}
