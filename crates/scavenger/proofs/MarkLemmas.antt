-- An allocation map on which all sectors are marked used, and then those that are not kept free.
use Rattle.std.proofs.Common.{◌≡◌, ◌≢◌, ◌⊎◌, inl, inr, ℕ, zero, suc, ◌+◌, ◌-◌, ◌*◌, ◌/◌, ◌%◌, ◌<◌, ◌≤◌, Bool, true, false, ◌||◌, List, [], ◌∷◌, length, replicate, Option, Some, None, refl, sym, ◌∙◌, ap, subst, arith, eqb, slice_index_or}
use Rattle.std.specs.Prelude.{slice_get, nat_lt, get_or}
use Rattle.std.specs.Int.{bit_at}
use Rattle.std.specs.Option.{option_map_or}
use Rattle.std.proofs.lemmas.Bool.{cases_lt, cases_eq, lt-ltb, lt-leb, true≢false}
use Rattle.std.proofs.lemmas.List.{get_or-replicate, get_or_past, length-replicate}
use Rattle.std.proofs.lemmas.Nat.Bits.{bit_at-zero}
use Rattle.std.proofs.lemmas.Option.{same_Some, none-some, slice_get-get_or, slice_get_within}
use Rattle.labelled_disk.specs.Layout.{vam}
use Rattle.alloc_map.specs.Bits.{is_used, IsMarked}
use Rattle.alloc_map.specs.Runs.{IsDataRun, IsLowestFree, IsLongestFree}
use Rattle.label_survey.specs.declared.sector_state.SectorState.{SectorState}
use Rattle.label_survey.specs.declared.sector_state.SectorState.TheVariants.{Free}
use Rattle.label_survey.specs.Survey.{is_kept}
use Rattle.scavenger.specs.Marks.{marks, IsMarkedSoFar}

zero_byte : (n k : ℕ) → ◌≡◌ {A = ℕ} (get_or (replicate n 0) k 0) 0
zero_byte n k = elim (cases_lt k n) [
  | inl below ↦ get_or-replicate n k 0 0 below
  | inr over ↦ let zero : ℕ = 0 in get_or_past (replicate n zero) k 0 (omega (arith, over, length-replicate n zero))
]

-- no bit of zeros is set
pub zeros_free : (n i : ℕ) → is_used (replicate n 0) i ≡ false
unfolding is_used
zeros_free n i =
    ap (λ (b : ℕ). eqb (bit_at b (7 - i % 8)) 1) (zero_byte n (i / 8)) ∙ ap (λ (b : ℕ). eqb b 1) (bit_at-zero (7 - i % 8))

-- the longest run of free sectors from the lowest on, where all are free
pub whole_run : (n : ℕ) (b : List ℕ) (run : ℕ × ℕ) → ((i : ℕ) → is_used b i ≡ false) → IsLowestFree b 0 n run.0 → IsLongestFree b n n run.0 run.1 → IsDataRun 0 n n run → (run.0 ≡ 0) × (run.1 ≡ n)
whole_run n b run free lowest longest form = (first, all)
  where
    first : run.0 ≡ 0
    first = elim (cases_lt 0 run.0) [
      | inl above ↦ absurd (true≢false (sym (lowest.before 0 (omega arith) above) ∙ free 0))
      | inr none ↦ omega (arith, none)
    ]

    all : run.1 ≡ n
    all = elim (cases_lt run.1 n) [
      | inl short ↦ absurd (true≢false (sym (longest.longest short (omega (arith, short, first))) ∙ free (run.0 + run.1)))
      | inr long ↦ omega (arith, long, form.few)
    ]

module _ (n first : ℕ) (sector_states : List SectorState) where
  -- all sectors are marked
  pub begun : (old now : List ℕ) → length old ≡ 512 * vam n → first ≤ n → ((i : ℕ) → is_used old i ≡ false) → IsMarked true old now 0 n → IsMarkedSoFar n first sector_states 0 now
  begun old now size within free marked = record {
    size = marked.same_length ∙ size;
    low = λ s below. marked.marked s (omega arith) (omega (arith, below, within));
    kept = λ j x below. absurd (omega (arith, below));
    rest = λ s from below. marked.marked s (omega arith) below;
    past = λ s over. marked.others s (inr over) ∙ free s;
  }

  module _ (k : ℕ) (x : SectorState) (here : slice_get sector_states k ≡ Some x) (within : first + length sector_states ≡ n) where
    below_n : first + k < n
    below_n = omega (arith, within, slice_get_within sector_states k x here)

    -- one that is kept
    pub passed : (b : List ℕ) → is_kept x ≡ true → IsMarkedSoFar n first sector_states k b → IsMarkedSoFar n first sector_states (k + 1) b
    passed b keeps so_far = record {
      size = so_far.size;
      low = so_far.low;
      kept = λ j y below at. elim (cases_eq j k) [
        | inl same ↦
            let it : x ≡ y = same_Some x y (sym here ∙ ap (slice_get sector_states) (sym same) ∙ at) in
            ap (λ (m : ℕ). is_used b (first + m)) same ∙ so_far.rest (first + k) (omega arith) below_n ∙ sym keeps ∙ ap is_kept it
        | inr apart ↦ so_far.kept j y (omega (arith, below, apart)) at
      ];
      rest = λ s from below. so_far.rest s (omega (arith, from)) below;
      past = so_far.past;
    }

    -- one that is not
    pub freed : (b c : List ℕ) → is_kept x ≡ false → IsMarkedSoFar n first sector_states k b → IsMarked false b c (first + k) (first + k + 1) → IsMarkedSoFar n first sector_states (k + 1) c
    freed b c drops so_far marked = record {
      size = marked.same_length ∙ so_far.size;
      low = λ s below. marked.others s (inl (omega (arith, below))) ∙ so_far.low s below;
      kept = λ j y below at. elim (cases_eq j k) [
        | inl same ↦
            let it : x ≡ y = same_Some x y (sym here ∙ ap (slice_get sector_states) (sym same) ∙ at) in
            ap (λ (m : ℕ). is_used c (first + m)) same ∙ marked.marked (first + k) (omega arith) (omega arith) ∙ sym drops ∙ ap is_kept it
        | inr apart ↦ marked.others (first + j) (inl (omega (arith, below, apart))) ∙ so_far.kept j y (omega (arith, below, apart)) at
      ];
      rest = λ s from below. marked.others s (inr (omega (arith, from))) ∙ so_far.rest s (omega (arith, from)) below;
      past = λ s over. marked.others s (inr (omega (arith, over, below_n))) ∙ so_far.past s over;
    }

  -- all of them
  pub all_marked : (b : List ℕ) → first + length sector_states ≡ n → IsMarkedSoFar n first sector_states (length sector_states) b → (i : ℕ) → is_used b i ≡ marks first sector_states i
  all_marked b within so_far i = elim (cases_lt i first) [
    | inl below ↦ so_far.low i below ∙ sym (ap (λ (t : Bool). t || option_map_or is_kept (slice_get sector_states (i - first)) false) (lt-ltb i first below))
    | inr from ↦ at_data from (slice_get sector_states (i - first)) refl ∙ sym (ap (λ (t : Bool). t || option_map_or is_kept (slice_get sector_states (i - first)) false) (lt-leb (suc i) first (omega (arith, from))))
  ]
    where
      at_data : first ≤ i → (o : Option SectorState) → slice_get sector_states (i - first) ≡ o → is_used b i ≡ option_map_or is_kept (slice_get sector_states (i - first)) false
      at_data from (Some x) e =
          let back : i ≡ first + (i - first) = omega (arith, from) in
          ap (is_used b) back ∙ so_far.kept (i - first) x (slice_get_within sector_states (i - first) x e) e ∙ sym (ap (λ (t : Option SectorState). option_map_or is_kept t false) e)
      at_data from None e = elim (cases_lt i n) [
        | inl below ↦
            let there = slice_get-get_or sector_states (i - first) Free (omega (arith, from, below, within)) in
            absurd (none-some (slice_index_or sector_states (i - first) Free) (sym e ∙ there))
        | inr over ↦ so_far.past i over ∙ sym (ap (λ (t : Option SectorState). option_map_or is_kept t false) e)
      ]

-- the same change of bytes that are the same ones
pub marked_as : (used : Bool) (old now o m : List ℕ) (from end first last : ℕ) → o ≡ old → m ≡ now → first ≡ from → last ≡ end → IsMarked used o m first last → IsMarked used old now from end
marked_as used old now o m from end first last same_old same_now same_first same_last marked =
    subst (λ (b : List ℕ). IsMarked used b now from end) same_old
    (subst (λ (b : List ℕ). IsMarked used o b from end) same_now
    (subst (λ (k : ℕ). IsMarked used o m k end) same_first
    (subst (λ (k : ℕ). IsMarked used o m first k) same_last marked)))
