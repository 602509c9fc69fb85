-- The bits of an allocation map beside labels.
use Rattle.std.proofs.Common.{◌≡◌, ◌≢◌, inl, inr, ℕ, ◌+◌, ◌-◌, ◌*◌, ◌/◌, ◌%◌, ◌<◌, ◌≤◌, Bool, true, false, not, ◌||◌, List, [], ◌∷◌, length, map, Option, Some, None, refl, sym, ◌∙◌, ap, arith, eqb}
use Rattle.std.specs.Prelude.{slice_get, nat_lt, get_or, option_map}
use Rattle.std.specs.Int.{bit_at}
use Rattle.std.specs.Option.{option_map_or}
use Rattle.std.proofs.lemmas.Bool.{cases_lt, lt-ltb, le-ltb, true≢false}
use Rattle.std.proofs.lemmas.List.{get_or_past}
use Rattle.std.proofs.lemmas.Nat.Bits.{bit_at-zero}
use Rattle.std.proofs.lemmas.Option.{none-some, slice_get-get_or, slice_get-map, slice_get_past}
use Rattle.labelled_disk.specs.declared.label.Label.{Label}
use Rattle.labelled_disk.specs.Label.{is_free}
use Rattle.labelled_disk.specs.Sectors.{Sector, zero_sector}
use Rattle.labelled_disk.specs.Layout.{first_data, data_sectors}
use Rattle.alloc_map.specs.Bits.{is_used}
use Rattle.volume_root.specs.Sound.{map_bytes, HasBits}
use Rattle.volume_view.specs.declared.bit_runs.BitRun.{BitRun}
use Rattle.volume_view.specs.BitRuns.{IsInSome, IsWrongRun, AreCompared}
use Rattle.volume_view.specs.Bits.{taken, is_taken, AreWrongBits}
use Rattle.volume_view.proofs.ListLemmas.{dropped}

-- ---- the map of a disk

-- no bit after the bytes is set
pub past_free : (b : List ℕ) (i : ℕ) → length b * 8 ≤ i → is_used b i ≡ false
unfolding is_used
past_free b i past =
    ap (λ (x : ℕ). eqb (bit_at x (7 - i % 8)) 1) (get_or_past b (i / 8) 0 (omega (arith, past))) ∙ ap (λ (x : ℕ). eqb x 1) (bit_at-zero (7 - i % 8))

not_other : (a b : Bool) → (a ≢ b → ⊥) → a ≡ b
not_other true true h = refl
not_other true false h = absurd (h true≢false)
not_other false true h = absurd (h (λ e. true≢false (sym e)))
not_other false false h = refl

or_false : (a b : Bool) → a ≡ false → (a || b) ≡ b
or_false true b h = absurd (true≢false h)
or_false false b h = refl

or_true : (a b : Bool) → a ≡ true → (a || b) ≡ true
or_true true b h = refl
or_true false b h = absurd (true≢false (sym h))

module _ (d : List Sector) where
  abbrev first : ℕ
  first = first_data (length d)

  low_taken : (i : ℕ) → i < first → is_taken d i ≡ true
  low_taken i below = or_true (nat_lt i first) _ (lt-ltb i first below)

  data_taken : (i : ℕ) (s : Sector) → first ≤ i → slice_get d i ≡ Some s → is_taken d i ≡ not (is_free s.0)
  data_taken i s from here = or_false (nat_lt i first) _ (le-ltb i first from) ∙ ap (λ (o : Option Sector). option_map_or (λ t. not (is_free t.0)) o false) here

  past_taken : (i : ℕ) → first ≤ i → length d ≤ i → is_taken d i ≡ false
  past_taken i from past = or_false (nat_lt i first) _ (le-ltb i first from) ∙ ap (λ (o : Option Sector). option_map_or (λ t. not (is_free t.0)) o false) (slice_get_past d i past)

  -- what the labels say is what the disk says
  pub taken_is : (labels : List Label) (n : ℕ) → n ≡ first → labels ≡ map (λ s. s.0) (data_sectors d) → (i : ℕ) → taken n labels i ≡ is_taken d i
  taken_is labels n from are i = ap (λ (m : ℕ). taken m labels i) from ∙ elim (cases_lt i first) [
    | inl below ↦ or_true (nat_lt i first) _ (lt-ltb i first below) ∙ sym (low_taken i below)
    | inr not_below ↦
        let at : first + (i - first) ≡ i = omega (arith, not_below) in
        let there : slice_get labels (i - first) ≡ option_map (λ (s : Sector). s.0) (slice_get d i) =
        ap (λ (l : List Label). slice_get l (i - first)) are ∙ slice_get-map (λ (s : Sector). s.0) (data_sectors d) (i - first) ∙ ap (option_map (λ (s : Sector). s.0)) (dropped d first (i - first) ∙ ap (slice_get d) at) in
        ap (λ (o : Option Label). nat_lt i first || option_map_or (λ l. not (is_free l)) o false) there ∙ ap (λ (b : Bool). nat_lt i first || b) (through (slice_get d i))
  ]
    where
      through : (o : Option Sector) → option_map_or (λ l. not (is_free l)) (option_map (λ (s : Sector). s.0) o) false ≡ option_map_or (λ (s : Sector). not (is_free s.0)) o false
      through None = refl
      through (Some s) = refl

  module _ (within : first ≤ length d) where
    -- the bits are those of a sound volume exactly where each is as root, maps and labels say
    pub bits_are : HasBits d → (i : ℕ) → is_used (map_bytes d) i ≡ is_taken d i
    bits_are has i = elim (cases_lt i first) [
      | inl below ↦ has.low i below ∙ sym (low_taken i below)
      | inr from ↦ elim (cases_lt i (length d)) [
        | inl inside ↦
            let here = slice_get-get_or d i zero_sector inside in
            has.by_label i (get_or d i zero_sector) record { is_data = from; here = here } ∙ sym (data_taken i (get_or d i zero_sector) from here)
        | inr past ↦ has.past i past ∙ sym (past_taken i from past)
      ]
    ]

    pub are_bits : ((i : ℕ) → is_used (map_bytes d) i ≡ is_taken d i) → HasBits d
    are_bits is = record {
      low = λ i below. is i ∙ low_taken i below;
      by_label = λ i s has. is i ∙ data_taken i s has.is_data has.here;
      past = λ i past. is i ∙ past_taken i (omega (arith, within, past)) past;
    }

    -- what a comparison of all bits found
    pub wrong_bits : (bytes : List ℕ) (right : ℕ → Bool) (n : ℕ) (runs : List BitRun) → bytes ≡ map_bytes d → ((i : ℕ) → right i ≡ is_taken d i) → length bytes * 8 ≤ n → length d ≤ n → AreCompared (is_used bytes) right n runs
        → AreWrongBits d runs
    wrong_bits bytes right n runs same right_is size all compared = record {
      each = each;
      all = every;
      apart = compared.apart;
      agrees = (λ none. are_bits (λ i. not_other (is_used (map_bytes d) i) (is_taken d i) (λ other. let found = every i other in none-some found.1 (ap (λ (l : List BitRun). slice_get l found.0) (sym none) ∙ found.2))), λ has. empty runs refl has);
    }
      where
        says : (i : ℕ) → is_used bytes i ≡ is_used (map_bytes d) i
        says i = ap (λ (b : List ℕ). is_used b i) same

        each : (k : ℕ) (r : BitRun) → slice_get runs k ≡ Some r → IsWrongRun (is_used (map_bytes d)) (is_taken d) r
        each k r at =
            let wrong = compared.each k r at in
            record {
              some = wrong.some;
              each = λ i in_it. let one = wrong.each i in_it in record { map_says = sym (says i) ∙ one.map_says; other = λ equal. one.other (right_is i ∙ equal) };
            }

        every : (i : ℕ) → is_used (map_bytes d) i ≢ is_taken d i → IsInSome runs i
        every i other = elim (cases_lt i n) [
          | inl below ↦ compared.all i below (λ equal. other (sym (says i) ∙ equal ∙ right_is i))
          | inr past ↦ absurd (other (sym (says i) ∙ past_free bytes i (omega (arith, size, past)) ∙ sym (past_taken i (omega (arith, within, all, past)) (omega (arith, all, past)))))
        ]

        empty : (l : List BitRun) → l ≡ runs → HasBits d → runs ≡ []
        empty [] is has = sym is
        empty (r ∷ l) is has =
            let wrong = each 0 r (ap (λ (m : List BitRun). slice_get m 0) (sym is)) in
            let one = wrong.each r.first (omega arith, omega (arith, wrong.some)) in
            absurd (one.other (sym (bits_are has r.first) ∙ one.map_says))
