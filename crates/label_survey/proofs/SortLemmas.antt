-- Elements that are sorted by three of their numbers, one after the other.
use Rattle.std.proofs.Common.{◌≡◌, ◌⊎◌, inl, inr, ℕ, ◌<◌, ◌≤◌, Bool, true, false, cond, List, [], ◌∷◌, ◌++◌, length, take, drop, Some, refl, sym, ◌∙◌, ap, arith, eqb, ltb}
use Rattle.std.specs.Prelude.{slice_get, slice_index_or}
use Rattle.std.specs.declared.cmp.Ordering.{Ordering}
use Rattle.std.specs.declared.cmp.Ordering.TheVariants.{Less, Equal, Greater}
use Rattle.std.specs.Cmp.{IsTotalOrder}
use Rattle.std.specs.List.Sorted.{IsSorted}
use Rattle.std.specs.Ordering.{nat_cmp, ordering_then, is_lt}
use Rattle.std.proofs.lemmas.List.{take_all, drop_all}
use Rattle.std.proofs.lemmas.List.Sorted.{ranks_by, sorted_far}
use Rattle.std.proofs.lemmas.Option.{slice_get_within, get_or_from_slice_get}
use Rattle.std.proofs.lemmas.Bool.{cases_lt, true≢false, ltb-false, eqb-false}

below_or_not : (b c : Bool) (o : Ordering) → is_lt (ordering_then (cond b Less (cond c Equal Greater)) o) ≡ false → (b ≡ false) × ((c ≡ false) ⊎ (is_lt o ≡ false))
below_or_not true c o e = absurd (true≢false e)
below_or_not false true o e = (refl, inr e)
below_or_not false false o e = (refl, inl refl)

not_less : (b c : Bool) → is_lt (cond b Less (cond c Equal Greater)) ≡ false → b ≡ false
not_less true c e = absurd (true≢false e)
not_less false c e = refl

module _ {E : Type 0} (first next last : E → ℕ) where
  -- what the comparison of two elements computes
  abbrev pub by_three : E → E → Ordering
  by_three a b = ordering_then (nat_cmp (first a) (first b)) (ordering_then (nat_cmp (next a) (next b)) (nat_cmp (last a) (last b)))

  abbrev pub IsUpTo : E → E → Type 0
  IsUpTo a b = (first a < first b) ⊎ ((first a ≡ first b) × ((next a < next b) ⊎ ((next a ≡ next b) × (last a ≤ last b))))

  up_to_by : (a b : E) → is_lt (by_three b a) ≡ false → IsUpTo a b
  up_to_by a b e =
      let one = below_or_not (ltb (first b) (first a)) (eqb (first b) (first a)) (ordering_then (nat_cmp (next b) (next a)) (nat_cmp (last b) (last a))) e in
      let most : first a ≤ first b = ltb-false (first b) (first a) one.0 in
      elim one.1 [
        | inl apart ↦ inl (omega (arith, most, eqb-false (first b) (first a) apart))
        | inr rest ↦
            let two = below_or_not (ltb (next b) (next a)) (eqb (next b) (next a)) (nat_cmp (last b) (last a)) rest in
            let more : next a ≤ next b = ltb-false (next b) (next a) two.0 in
            elim (cases_lt (first a) (first b)) [
              | inl l ↦ inl l
              | inr m ↦ inr (
                omega (arith, most, m),
                elim two.1 [
                  | inl apart ↦ inl (omega (arith, more, eqb-false (next b) (next a) apart))
                  | inr end ↦
                      let three : last a ≤ last b = ltb-false (last b) (last a) (not_less (ltb (last b) (last a)) (eqb (last b) (last a)) end) in
                      elim (cases_lt (next a) (next b)) [
                        | inl l ↦ inl l
                        | inr n ↦ inr (omega (arith, more, n), three)
                      ]
                ],
              )
            ]
      ]

  pub in_order : (sorted : List E) → IsTotalOrder by_three → IsSorted by_three sorted → (i j : ℕ) (a b : E) → i ≤ j → slice_get sorted i ≡ Some a → slice_get sorted j ≡ Some b → IsUpTo a b
  in_order sorted total up i j a b l at_i at_j =
      let far = sorted_far (λ x y. is_lt (by_three x y)) (ranks_by total (λ (x : E). x)) sorted up i j a l (slice_get_within sorted j b at_j) in
      let same_a = get_or_from_slice_get sorted i a a at_i in
      let same_b = get_or_from_slice_get sorted j b a at_j in
      up_to_by a b (ap (λ (x : E). is_lt (by_three b x)) (sym same_a) ∙ ap (λ (x : E). is_lt (by_three x (slice_index_or sorted i a))) (sym same_b) ∙ far)

module _ {E : Type 0} where
  pub append_nil : (es : List E) → es ++ [] ≡ es
  append_nil [] = refl
  append_nil (e ∷ es) = ap (λ (r : List E). e ∷ r) (append_nil es)

  -- what a vector holds whose elements were moved
  pub refilled : (n : ℕ) (old new : List E) → n ≡ length old → length new ≡ length old → take n (new ++ drop (length new) old) ≡ new
  refilled n old new full long =
      ap (λ (es : List E). take n (new ++ es)) (drop_all (length new) old (omega (arith, long)))
      ∙ ap (take n) (append_nil new)
      ∙ take_all n new (omega (arith, full, long))
