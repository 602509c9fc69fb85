-- The first numbers: a value between two, and one that is so or each that is not.
use Rattle.std.proofs.Common.{◌≡◌, ◌⊎◌, inl, inr, ℕ, zero, suc, ◌+◌, ◌-◌, ◌<◌, ◌≤◌, subst, arith}
use Rattle.std.proofs.lemmas.Bool.{cases_lt}

-- Numbers that change by one at most take each value between two of theirs.
module _ (c : ℕ → ℕ) (n m : ℕ) (up : (j : ℕ) → j < n → c (suc j) ≤ suc (c j)) (down : (j : ℕ) → j < n → c j ≤ suc (c (suc j))) where
  climb : (k a : ℕ) → a + k ≤ n → c a ≤ m → m ≤ c (a + k) → (j : ℕ) × (j ≤ n) × (c j ≡ m)
  climb zero a few low high =
      let z : a + 0 ≡ a = omega arith in
      (a, omega (arith, few), let e : m ≤ c a = subst (λ (i : ℕ). m ≤ c i) z high in omega (arith, low, e))
  climb (suc k) a few low high = either (cases_lt (c a) m) (λ below.
      let z : a + suc k ≡ suc a + k = omega arith in
      climb k (suc a) (omega (arith, few)) (omega (arith, below, up a (omega (arith, few)))) (subst (λ (i : ℕ). m ≤ c i) z high))
    where
      either : (c a < m) ⊎ (m ≤ c a) → (c a < m → (j : ℕ) × (j ≤ n) × (c j ≡ m)) → (j : ℕ) × (j ≤ n) × (c j ≡ m)
      either (inr at) more = (a, omega (arith, few), omega (arith, low, at))
      either (inl below) more = more below

  fall : (k a : ℕ) → a + k ≤ n → m ≤ c a → c (a + k) ≤ m → (j : ℕ) × (j ≤ n) × (c j ≡ m)
  fall zero a few high low =
      let z : a + 0 ≡ a = omega arith in
      (a, omega (arith, few), let e : c a ≤ m = subst (λ (i : ℕ). c i ≤ m) z low in omega (arith, high, e))
  fall (suc k) a few high low = either (cases_lt m (c a)) (λ above.
      let z : a + suc k ≡ suc a + k = omega arith in
      fall k (suc a) (omega (arith, few)) (omega (arith, above, down a (omega (arith, few)))) (subst (λ (i : ℕ). c i ≤ m) z low))
    where
      either : (m < c a) ⊎ (c a ≤ m) → (m < c a → (j : ℕ) × (j ≤ n) × (c j ≡ m)) → (j : ℕ) × (j ≤ n) × (c j ≡ m)
      either (inr at) more = (a, omega (arith, few), omega (arith, high, at))
      either (inl above) more = more above

  pub between_two : (a b : ℕ) → a ≤ n → b ≤ n → c a ≤ m → m ≤ c b → (j : ℕ) × (j ≤ n) × (c j ≡ m)
  between_two a b few_a few_b low high = either (cases_lt a b)
    where
      either : (a < b) ⊎ (b ≤ a) → (j : ℕ) × (j ≤ n) × (c j ≡ m)
      either (inl before) = let z : b ≡ a + (b - a) = omega (arith, before) in climb (b - a) a (omega (arith, few_b, before)) low (subst (λ (i : ℕ). m ≤ c i) z high)
      either (inr after) = let z : a ≡ b + (a - b) = omega (arith, after) in fall (a - b) b (omega (arith, few_a, after)) high (subst (λ (i : ℕ). c i ≤ m) z low)

-- one of the first numbers is so, or each is otherwise
pub some_or_each : (P Q : ℕ → Type 0) → ((j : ℕ) → P j ⊎ Q j) → (n : ℕ) → ((j : ℕ) × (j ≤ n) × P j) ⊎ ((j : ℕ) → j ≤ n → Q j)
some_or_each P Q each zero = elim (each 0) [
  | inl p ↦ inl (0, omega arith, p)
  | inr q ↦ inr (λ j few. subst Q (let z : 0 ≡ j = omega (arith, few) in z) q)
]
some_or_each P Q each (suc n) = either (some_or_each P Q each n) (each (suc n))
  where
    either : ((j : ℕ) × (j ≤ n) × P j) ⊎ ((j : ℕ) → j ≤ n → Q j) → P (suc n) ⊎ Q (suc n) → ((j : ℕ) × (j ≤ suc n) × P j) ⊎ ((j : ℕ) → j ≤ suc n → Q j)
    either (inl some) last = inl (some.0, omega (arith, some.1), some.2)
    either (inr none) (inl p) = inl (suc n, omega arith, p)
    either (inr none) (inr q) = inr (λ j few. one j few (cases_lt j (suc n)))
      where
        one : (j : ℕ) → j ≤ suc n → (j < suc n) ⊎ (suc n ≤ j) → Q j
        one j few (inl before) = none j (omega (arith, before))
        one j few (inr at) = subst Q (let z : suc n ≡ j = omega (arith, few, at) in z) q
