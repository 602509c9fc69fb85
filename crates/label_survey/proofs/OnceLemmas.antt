-- Lists in which no number comes twice, in any order.
use Rattle.std.proofs.Common.{◌≡◌, ◌⊎◌, inl, inr, ℕ, zero, suc, ◌+◌, ◌<◌, ◌≤◌, Bool, cond, List, [], ◌∷◌, Some, refl, ◌∙◌, ap, arith, eqb}
use Rattle.std.specs.Prelude.{slice_get, sum_by}
use Rattle.std.specs.List.Sorted.{IsPermutation}
use Rattle.std.proofs.lemmas.List.Sorted.{sum_by-IsPermutation}
use Rattle.std.proofs.lemmas.List.Sums.{sum_by-cons}
use Rattle.std.proofs.lemmas.Option.{same_Some, none-some}
use Rattle.std.proofs.lemmas.Bool.{cases_eq, eq-eqb, ne_eqb}

module _ {E : Type 0} (key : E → ℕ) where
  -- each number is above those before it, from n on
  abbrev pub Rises : ℕ → List E → Type 0
  Rises n [] = Unit {0}
  Rises n (e ∷ es) = (n ≤ key e) × Rises (key e + 1) es

  pub rises_earlier : (n m : ℕ) (es : List E) → n ≤ m → Rises m es → Rises n es
  rises_earlier n m [] l up = tt
  rises_earlier n m (e ∷ es) l up = (omega (arith, l, up.0), up.1)

  -- how many have the number i
  abbrev is_at : ℕ → E → ℕ
  is_at i e = cond (eqb (key e) i) 1 0

  none_below : (n i : ℕ) (es : List E) → i < n → Rises n es → sum_by (is_at i) es ≡ 0
  none_below n i [] low up = refl
  none_below n i (e ∷ es) low up =
      let none = none_below (key e + 1) i es (omega (arith, low, up.0)) up.1 in
      let zero_here : is_at i e ≡ 0 = ap (λ (b : Bool). cond b 1 0) (ne_eqb (key e) i (λ same. omega (arith, low, up.0, same))) in
      let sum = sum_by-cons (is_at i) e es in
      omega (arith, none, zero_here, sum)

  one_at_most : (n i : ℕ) (es : List E) → Rises n es → sum_by (is_at i) es ≤ 1
  one_at_most n i [] up = omega arith
  one_at_most n i (e ∷ es) up = either (cases_eq (key e) i) (one_at_most (key e + 1) i es up.1)
    where
      either : (key e ≡ i) ⊎ (key e ≡ i → ⊥) → sum_by (is_at i) es ≤ 1 → sum_by (is_at i) (e ∷ es) ≤ 1
      either (inl same) more =
          let none = none_below (key e + 1) i es (omega (arith, same)) up.1 in
          let one : is_at i e ≡ 1 = ap (λ (b : Bool). cond b 1 0) (eq-eqb (key e) i same) in
          let sum = sum_by-cons (is_at i) e es in
          omega (arith, none, one, sum)
      either (inr apart) more =
          let none : is_at i e ≡ 0 = ap (λ (b : Bool). cond b 1 0) (ne_eqb (key e) i apart) in
          let sum = sum_by-cons (is_at i) e es in
          omega (arith, more, none, sum)

  counted : (i : ℕ) (es : List E) (k : ℕ) (b : E) → slice_get es k ≡ Some b → key b ≡ i → 1 ≤ sum_by (is_at i) es
  counted i [] k b here is = absurd (none-some b here)
  counted i (x ∷ xs) zero b here is =
      let one : is_at i x ≡ 1 = ap (is_at i) (same_Some x b here) ∙ ap (λ (c : Bool). cond c 1 0) (eq-eqb (key b) i is) in
      let sum = sum_by-cons (is_at i) x xs in
      omega (arith, one, sum)
  counted i (x ∷ xs) (suc k) b here is = let more = counted i xs k b here is in let sum = sum_by-cons (is_at i) x xs in omega (arith, more, sum)

  once_by_count : (i : ℕ) (es : List E) → sum_by (is_at i) es ≤ 1 → (j k : ℕ) (a b : E) → slice_get es j ≡ Some a → slice_get es k ≡ Some b → key a ≡ i → key b ≡ i → j ≡ k
  once_by_count i [] few j k a b at_j at_k is_a is_b = absurd (none-some a at_j)
  once_by_count i (x ∷ xs) few zero zero a b at_j at_k is_a is_b = refl
  once_by_count i (x ∷ xs) few zero (suc k) a b at_j at_k is_a is_b =
      let one : is_at i x ≡ 1 = ap (is_at i) (same_Some x a at_j) ∙ ap (λ (c : Bool). cond c 1 0) (eq-eqb (key a) i is_a) in
      let more = counted i xs k b at_k is_b in
      let sum = sum_by-cons (is_at i) x xs in
      absurd (omega (arith, few, one, more, sum))
  once_by_count i (x ∷ xs) few (suc j) zero a b at_j at_k is_a is_b =
      let one : is_at i x ≡ 1 = ap (is_at i) (same_Some x b at_k) ∙ ap (λ (c : Bool). cond c 1 0) (eq-eqb (key b) i is_b) in
      let more = counted i xs j a at_j is_a in
      let sum = sum_by-cons (is_at i) x xs in
      absurd (omega (arith, few, one, more, sum))
  once_by_count i (x ∷ xs) few (suc j) (suc k) a b at_j at_k is_a is_b =
      let sum = sum_by-cons (is_at i) x xs in
      ap suc (once_by_count i xs (omega (arith, few, sum)) j k a b at_j at_k is_a is_b)

  -- ascending, and then in any order
  pub once_moved : (n : ℕ) (ascending moved : List E) → Rises n ascending → IsPermutation ascending moved → (j k : ℕ) (a b : E) → slice_get moved j ≡ Some a → slice_get moved k ≡ Some b → key a ≡ key b → j ≡ k
  once_moved n ascending moved up order j k a b at_j at_k same =
      let count : sum_by (is_at (key b)) moved ≡ sum_by (is_at (key b)) ascending = sum_by-IsPermutation (is_at (key b)) ascending moved order in
      let few = one_at_most n (key b) ascending up in
      once_by_count (key b) moved (omega (arith, count, few)) j k a b at_j at_k same refl
