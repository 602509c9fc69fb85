-- Bytes put in place among others: what is there, and what stays.
use Rattle.std.proofs.Common.{◌≡◌, ◌⊎◌, ◌∙◌, ◌+◌, ◌-◌, ◌<◌, ◌≤◌, ℕ, zero, suc, Option, List, [], ◌∷◌, ◌++◌, length, ap, sym, subst, refl, arith, inl, inr}
use Rattle.std.specs.Prelude.{slice_get, take, drop}
use Rattle.std.proofs.lemmas.List.{length-take-le}
use Rattle.std.proofs.lemmas.Slice.{drop-put_mid}
use Rattle.std.proofs.lemmas.Bool.{cases_lt}
use Rattle.std.proofs.lemmas.Option.{none-some}
use borrow.Rule.Slice.PartMut.{mid_of, put_mid}

get_before : (xs ys : List ℕ) (i : ℕ) → i < length xs → slice_get (xs ++ ys) i ≡ slice_get xs i
get_before [] ys i below = absurd (omega (arith, below))
get_before (x ∷ xs) ys zero below = refl
get_before (x ∷ xs) ys (suc i) below = get_before xs ys i (omega (arith, below))

get_after : (xs ys : List ℕ) (i k : ℕ) → i ≡ length xs + k → slice_get (xs ++ ys) i ≡ slice_get ys k
get_after [] ys i k is = ap (λ (j : ℕ). slice_get ys j) (omega (arith, is))
get_after (x ∷ xs) ys zero k is = absurd (omega (arith, is))
get_after (x ∷ xs) ys (suc i) k is = get_after xs ys i k (omega (arith, is))

pub get_take : (a : ℕ) (xs : List ℕ) (i : ℕ) → i < a → slice_get (take a xs) i ≡ slice_get xs i
get_take zero xs i below = absurd (omega (arith, below))
get_take (suc a) [] i below = refl
get_take (suc a) (x ∷ xs) zero below = refl
get_take (suc a) (x ∷ xs) (suc i) below = get_take a xs i (omega (arith, below))

get_none : (i k : ℕ) → ◌≡◌ {A = Option ℕ} (slice_get [] i) (slice_get [] k)
get_none zero zero = refl
get_none zero (suc k) = refl
get_none (suc i) zero = refl
get_none (suc i) (suc k) = refl

pub get_drop : (a : ℕ) (xs : List ℕ) (i k : ℕ) → i ≡ a + k → slice_get xs i ≡ slice_get (drop a xs) k
get_drop zero xs i k is = ap (λ (j : ℕ). slice_get xs j) (omega (arith, is))
get_drop (suc a) [] i k is = get_none i k
get_drop (suc a) (x ∷ xs) zero k is = absurd (omega (arith, is))
get_drop (suc a) (x ∷ xs) (suc i) k is = get_drop a xs i k (omega (arith, is))

module _ (a n m : ℕ) (xs ys : List ℕ) (fits : a + n ≤ length xs) (long : length ys ≡ n) (same : m ≡ n) where
  -- the bytes are in place
  pub put_here : (k : ℕ) → k < n → slice_get (put_mid a m xs ys) (a + k) ≡ slice_get ys k
  put_here k within =
      get_after (take a xs) _ (a + k) k (omega (arith, length-take-le a xs (omega (arith, fits)))) ∙ get_before ys _ k (omega (arith, within, long))

  -- and all others stay
  pub put_other : (k : ℕ) → (k < a) ⊎ (a + n ≤ k) → slice_get (put_mid a m xs ys) k ≡ slice_get xs k
  put_other k far = elim far [
    | inl low ↦ get_before (take a xs) _ k (omega (arith, low, length-take-le a xs (omega (arith, fits)))) ∙ get_take a xs k low
    | inr high ↦
        get_drop (a + n) (put_mid a m xs ys) k (k - (a + n)) (omega (arith, high))
        ∙ ap (λ (l : List ℕ). slice_get l (k - (a + n))) (drop-put_mid a m xs ys (a + n) (omega (arith, same)) (omega (arith, fits)) (omega (arith, long, same)))
        ∙ sym (get_drop (a + n) xs k (k - (a + n)) (omega (arith, high)))
  ]

-- the same byte at each index
pub same_bytes : (xs ys : List ℕ) → ((k : ℕ) → slice_get xs k ≡ slice_get ys k) → xs ≡ ys
same_bytes [] [] each = refl
same_bytes [] (y ∷ ys) each = absurd (none-some y (each 0))
same_bytes (x ∷ xs) [] each = absurd (none-some x (sym (each 0)))
same_bytes (x ∷ xs) (y ∷ ys) each =
    let first : x ≡ y = cc (each 0) in
    let rest = same_bytes xs ys (λ k. each (suc k)) in
    rw (first, rest) refl

-- where a part stays from a byte of it on, so does the whole
pub put_rest : (a m n : ℕ) (xs ys : List ℕ) → a + m ≡ length xs → length ys ≡ m → ((k : ℕ) → n ≤ k → slice_get ys k ≡ slice_get (mid_of a m xs) k)
    → (k : ℕ) → a + n ≤ k → slice_get (put_mid a m xs ys) k ≡ slice_get xs k
put_rest a m n xs ys whole long rest k past = elim (cases_lt k (a + m)) [
  | inl within ↦
      let j = k - a in
      let at : k ≡ a + j = omega (arith, past) in
      let below : j < m = omega (arith, within, past) in
      let here : slice_get (put_mid a m xs ys) (a + j) ≡ slice_get ys j = put_here a m m xs ys (omega (arith, whole)) long (omega arith) j below in
      let there : slice_get ys j ≡ slice_get xs (a + j) = rest j (omega (arith, past)) ∙ get_take m (drop a xs) j below ∙ sym (get_drop a xs (a + j) j refl) in
      subst (λ (i : ℕ). slice_get (put_mid a m xs ys) i ≡ slice_get xs i) (sym at) (here ∙ there)
  | inr beyond ↦ put_other a m m xs ys (omega (arith, whole)) long (omega arith) k (inr beyond)
]
