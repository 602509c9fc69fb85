-- How many numbers of a range pass a test.
use Rattle.std.proofs.Common.{◌≡◌, ◌≢◌, ◌⊎◌, inl, inr, ℕ, zero, suc, ◌+◌, ◌<◌, ◌≤◌, Bool, true, false, not, cond, ◌&&◌, List, [], ◌∷◌, length, Some, refl, sym, ◌∙◌, ap, arith}
use Rattle.std.specs.Prelude.{slice_get, count_by, if◌then◌else◌}
use Rattle.std.specs.List.{range_with_len}
use Rattle.std.proofs.lemmas.Bool.{cases_eq}
use Rattle.labelled_disk.specs.Sectors.{Sector}
use Rattle.label_laws.specs.Counts.{places}
use Rattle.file_manager.proofs.RunStages.{count_more}

-- tests that are equal in the range
pub same_counted : (p q : ℕ → Bool) (a n : ℕ) → ((k : ℕ) → a ≤ k → k < a + n → p k ≡ q k) → count_by p (range_with_len a n) ≡ count_by q (range_with_len a n)
same_counted p q a zero same = refl
same_counted p q a (suc n) same =
    count_more p a (range_with_len (a + 1) n)
    ∙ ap (λ (b : Bool). cond b 1 0 + count_by p (range_with_len (a + 1) n)) (same a (omega arith) (omega arith))
    ∙ ap (λ (m : ℕ). cond (q a) 1 0 + m) (same_counted p q (a + 1) n (λ k above below. same k (omega (arith, above)) (omega (arith, below))))
    ∙ sym (count_more q a (range_with_len (a + 1) n))

-- none passes
pub none_counted : (a n : ℕ) → count_by (λ k. false) (range_with_len a n) ≡ 0
none_counted a zero = refl
none_counted a (suc n) =
    let all = count_more (λ k. false) a (range_with_len (a + 1) n) in
    let rest = none_counted (a + 1) n in
    omega (arith, all, rest)

-- those that pass another test, and those that don't
pub split_counted : (p e : ℕ → Bool) (ks : List ℕ) → count_by p ks ≡ count_by (λ k. p k && e k) ks + count_by (λ k. p k && not (e k)) ks
split_counted p e [] = refl
split_counted p e (k ∷ ks) =
    let all = count_more p k ks in
    let with = count_more (λ k. p k && e k) k ks in
    let without = count_more (λ k. p k && not (e k)) k ks in
    let one = either (p k) (e k) in
    let rest = split_counted p e ks in
    omega (arith, all, with, without, one, rest)
  where
    either : (b c : Bool) → cond b 1 0 ≡ cond (b && c) 1 0 + cond (b && not c) 1 0
    either true true = refl
    either true false = refl
    either false c = refl

-- one number more
pub one_more : (p q : ℕ → Bool) (a n place : ℕ) → a ≤ place → place < a + n → p place ≡ true → q place ≡ false → ((k : ℕ) → a ≤ k → k < a + n → k ≢ place → p k ≡ q k)
    → count_by p (range_with_len a n) ≡ count_by q (range_with_len a n) + 1
one_more p q a zero place low high passes fails same = absurd (omega (arith, low, high))
one_more p q a (suc n) place low high passes fails same =
    either (cases_eq a place)
    (λ other. one_more p q (a + 1) n place (omega (arith, low, other)) (omega (arith, high)) passes fails (λ k above below apart. same k (omega (arith, above)) (omega (arith, below)) apart))
  where
    either : (a ≡ place) ⊎ (a ≢ place) → (a ≢ place → count_by p (range_with_len (a + 1) n) ≡ count_by q (range_with_len (a + 1) n) + 1)
        → count_by p (range_with_len a (suc n)) ≡ count_by q (range_with_len a (suc n)) + 1
    either (inl here) more =
        let all = count_more p a (range_with_len (a + 1) n) in
        let but_one = count_more q a (range_with_len (a + 1) n) in
        let one : ◌≡◌ {A = ℕ} (cond (p a) 1 0) 1 = ap (λ (b : Bool). cond b 1 0) (ap p here ∙ passes) in
        let none : ◌≡◌ {A = ℕ} (cond (q a) 1 0) 0 = ap (λ (b : Bool). cond b 1 0) (ap q here ∙ fails) in
        let rest = same_counted p q (a + 1) n (λ k above below. same k (omega (arith, above)) (omega (arith, below)) (λ e. omega (arith, e, here, above))) in
        omega (arith, all, but_one, one, none, rest)
    either (inr other) more =
        let all = count_more p a (range_with_len (a + 1) n) in
        let but_one = count_more q a (range_with_len (a + 1) n) in
        let one : ◌≡◌ {A = ℕ} (cond (p a) 1 0) (cond (q a) 1 0) = ap (λ (b : Bool). cond b 1 0) (same a (omega arith) (omega arith) other) in
        let rest = more other in
        omega (arith, all, but_one, one, rest)

-- as many as sectors pass that have these numbers
pub placed : (p : ℕ → Bool) (test : ℕ → Sector → Bool) (i : ℕ) (xs : List Sector) → ((j : ℕ) (s : Sector) → slice_get xs j ≡ Some s → p (i + j) ≡ test (i + j) s)
    → count_by p (range_with_len i (length xs)) ≡ length (places test i xs)
placed p test i [] same = refl
placed p test i (x ∷ xs) same =
    let first : i + 0 ≡ i = omega arith in
    let rest = placed p test (i + 1) xs (λ j s here. (let next : i + 1 + j ≡ i + suc j = omega arith in ap p next ∙ same (suc j) s here ∙ ap (λ (n : ℕ). test n s) (sym next))) in
    count_more p i (range_with_len (i + 1) (length xs))
    ∙ ap (λ (b : Bool). cond b 1 0 + count_by p (range_with_len (i + 1) (length xs))) (ap p (sym first) ∙ same 0 x refl ∙ ap (λ (n : ℕ). test n x) first) ∙ step (test i x) rest
  where
    step : (b : Bool) → count_by p (range_with_len (i + 1) (length xs)) ≡ length (places test (i + 1) xs)
        → cond b 1 0 + count_by p (range_with_len (i + 1) (length xs)) ≡ length (if b then i ∷ places test (i + 1) xs else places test (i + 1) xs)
    step true rest = omega (arith, rest)
    step false rest = omega (arith, rest)
