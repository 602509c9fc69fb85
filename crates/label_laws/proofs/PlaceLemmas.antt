-- The places of the sectors that pass a test.
use Rattle.std.proofs.Common.{◌≡◌, ℕ, zero, suc, ◌+◌, ◌-◌, ◌<◌, ◌≤◌, Bool, true, false, not, ◌||◌, cond, List, [], ◌∷◌, length, Some, refl, sym, ◌∙◌, ap, subst, arith, eqb}
use Rattle.std.specs.Prelude.{slice_get, if◌then◌else◌, Contains}
use Rattle.std.specs.List.{AllByRecursion, position_or_len}
use Rattle.std.proofs.lemmas.Option.{same_Some, none-some, slice_get_within}
use Rattle.std.proofs.lemmas.Bool.{eqb-true, eqb-false, eq-eqb, ne_eqb}
use Rattle.labelled_disk.specs.Sectors.{Sector}
use Rattle.labelled_disk.specs.Lowest.{IsLowest, is_first}
use Rattle.labelled_disk.specs.Ascending.{IsAscending}
use Rattle.label_laws.specs.Counts.{places}

-- what holds of each place that passes
pub places_each : (P : ℕ → Type 0) (test : ℕ → Sector → Bool) (i : ℕ) (xs : List Sector)
    → ((n j : ℕ) (s : Sector) → n ≡ i + j → slice_get xs j ≡ Some s → test n s ≡ true → P n) → AllByRecursion P (places test i xs)
places_each P test i [] holds = tt
places_each P test i (x ∷ xs) holds = either (test i x) refl (places_each P test (i + 1) xs (λ n j s is here passes. holds n (suc j) s (omega (arith, is)) here passes))
  where
    either : (b : Bool) → test i x ≡ b → AllByRecursion P (places test (i + 1) xs) → AllByRecursion P (if b then i ∷ places test (i + 1) xs else places test (i + 1) xs)
    either true e more = (holds i 0 x (omega arith) refl e, more)
    either false e more = more

-- each that passes is among them
pub places_all : (test : ℕ → Sector → Bool) (i : ℕ) (xs : List Sector) (n j : ℕ) (s : Sector) → n ≡ i + j → slice_get xs j ≡ Some s → test n s ≡ true → Contains (places test i xs) n
places_all test i [] n j s is here passes = absurd (none-some s here)
places_all test i (x ∷ xs) n zero s is here passes =
    let place : n ≡ i = omega (arith, is) in
    let test_here : test i x ≡ true = ap (λ (m : ℕ). test m x) (sym place) ∙ ap (test n) (same_Some x s here) ∙ passes in
    subst (λ (l : List ℕ). Contains l n) (ap (λ (b : Bool). if b then i ∷ places test (i + 1) xs else places test (i + 1) xs) (sym test_here)) (0, omega arith, sym place)
places_all test i (x ∷ xs) n (suc j) s is here passes = either (test i x) (places_all test (i + 1) xs n j s (omega (arith, is)) here passes)
  where
    either : (b : Bool) → Contains (places test (i + 1) xs) n → Contains (if b then i ∷ places test (i + 1) xs else places test (i + 1) xs) n
    either true more = (suc more.0, omega (arith, more.1), more.2)
    either false more = more

pub places_rise : (test : ℕ → Sector → Bool) (i : ℕ) (xs : List Sector) → IsAscending (places test i xs)
places_rise test i [] = tt
places_rise test i (x ∷ xs) = either (test i x) (places_rise test (i + 1) xs)
  where
    either : (b : Bool) → IsAscending (places test (i + 1) xs) → IsAscending (if b then i ∷ places test (i + 1) xs else places test (i + 1) xs)
    either true more = (places_each (λ y. i < y) test (i + 1) xs (λ n j s is here passes. omega (arith, is)), more)
    either false more = more

-- equal tests have the same places
pub places_same : (a b : ℕ → Sector → Bool) (i : ℕ) (xs : List Sector) → ((n j : ℕ) (s : Sector) → n ≡ i + j → slice_get xs j ≡ Some s → a n s ≡ b n s) → places a i xs ≡ places b i xs
places_same a b i [] same = refl
places_same a b i (x ∷ xs) same =
    ap (λ (c : Bool). if c then i ∷ places a (i + 1) xs else places a (i + 1) xs) (same i 0 x (omega arith) refl)
    ∙ ap (λ (l : List ℕ). if b i x then i ∷ l else l) (places_same a b (i + 1) xs (λ n j s is here. same n (suc j) s (omega (arith, is)) here))

-- none passes
pub places_none : (i : ℕ) (xs : List Sector) → length (places (λ n s. false) i xs) ≡ 0
places_none i [] = refl
places_none i (x ∷ xs) = places_none (i + 1) xs

-- one test or another, which no sector passes both
pub places_or : (a b : ℕ → Sector → Bool) (i : ℕ) (xs : List Sector) → ((n j : ℕ) (s : Sector) → n ≡ i + j → slice_get xs j ≡ Some s → a n s ≡ true → b n s ≡ true → ⊥)
    → length (places (λ n s. a n s || b n s) i xs) ≡ length (places a i xs) + length (places b i xs)
places_or a b i [] apart = refl
places_or a b i (x ∷ xs) apart = either (a i x) refl (b i x) refl (places_or a b (i + 1) xs (λ n j s is here. apart n (suc j) s (omega (arith, is)) here))
  where
    either : (p : Bool) → a i x ≡ p → (q : Bool) → b i x ≡ q
        → length (places (λ n s. a n s || b n s) (i + 1) xs) ≡ length (places a (i + 1) xs) + length (places b (i + 1) xs)
        → length (if p || q then i ∷ places (λ n s. a n s || b n s) (i + 1) xs else places (λ n s. a n s || b n s) (i + 1) xs)
        ≡ length (if p then i ∷ places a (i + 1) xs else places a (i + 1) xs) + length (if q then i ∷ places b (i + 1) xs else places b (i + 1) xs)
    either true e true f more = absurd (apart i 0 x (omega arith) refl e f)
    either true e false f more = omega (arith, more)
    either false e true f more = omega (arith, more)
    either false e false f more = more

-- one place alone
place_after : (i q : ℕ) (xs : List Sector) → q < i → length (places (λ n s. eqb n q) i xs) ≡ 0
place_after i q [] low = refl
place_after i q (x ∷ xs) low = ap (λ (b : Bool). length (if b then i ∷ places (λ n s. eqb n q) (i + 1) xs else places (λ n s. eqb n q) (i + 1) xs)) (ne_eqb i q (λ e. omega (arith, e, low)))
    ∙ place_after (i + 1) q xs (omega (arith, low))

pub place_one : (i q : ℕ) (xs : List Sector) → i ≤ q → q < i + length xs → length (places (λ n s. eqb n q) i xs) ≡ 1
place_one i q [] low high = absurd (omega (arith, low, high))
place_one i q (x ∷ xs) low high = either (eqb i q) refl (λ e. place_one (i + 1) q xs (let other = eqb-false i q e in omega (arith, other, low)) (omega (arith, high)))
  where
    either : (b : Bool) → eqb i q ≡ b → (eqb i q ≡ false → length (places (λ n s. eqb n q) (i + 1) xs) ≡ 1) → length (if b then i ∷ places (λ n s. eqb n q) (i + 1) xs else places (λ n s. eqb n q) (i + 1) xs) ≡ 1
    either true e more = let none = place_after (i + 1) q xs (omega (arith, eqb-true i q e)) in omega (arith, none)
    either false e more = more e

-- the lowest that passes is the first
pub lowest_first : (test : Sector → Bool) (xs : List Sector) (i : ℕ) (s : Sector) → IsLowest test xs i s → position_or_len test xs ≡ i
lowest_first test [] i s low = absurd (none-some s low.here)
lowest_first test (x ∷ xs) zero s low = ap (λ (b : Bool). cond (not b) (1 + position_or_len test xs) 0) (ap test (same_Some x s low.here) ∙ low.passes)
lowest_first test (x ∷ xs) (suc i) s low =
    let more : position_or_len test xs ≡ i = lowest_first test xs i s (record { here = low.here; passes = low.passes; none_below = λ j t below at. low.none_below (suc j) t (omega (arith, below)) at }) in
    ap (λ (b : Bool). cond (not b) (1 + position_or_len test xs) 0) (low.none_below 0 x (omega arith) refl) ∙ omega (arith, more)

-- so one sector is the first
pub first_counts : (test : Sector → Bool) (xs : List Sector) (base i : ℕ) (s : Sector) → IsLowest test xs i s → length (places (λ n u. is_first test xs (n - base)) base xs) ≡ 1
first_counts test xs base i s low =
    ap (λ (l : List ℕ). length l)
    (places_same (λ n u. is_first test xs (n - base)) (λ n u. eqb n (base + i)) base xs (λ n j u is here. same n j is))
    ∙ place_one base (base + i) xs (omega arith) (let within = slice_get_within xs i s low.here in omega (arith, within))
  where
    at : position_or_len test xs ≡ i
    at = lowest_first test xs i s low

    same : (n j : ℕ) → n ≡ base + j → eqb (position_or_len test xs) (n - base) ≡ eqb n (base + i)
    same n j is = either (eqb n (base + i)) refl
      where
        either : (b : Bool) → eqb n (base + i) ≡ b → eqb (position_or_len test xs) (n - base) ≡ b
        either true e = eq-eqb (position_or_len test xs) (n - base) (omega (arith, at, is, eqb-true n (base + i) e))
        either false e = ne_eqb (position_or_len test xs) (n - base) (λ q. eqb-false n (base + i) e (omega (arith, at, is, q)))
