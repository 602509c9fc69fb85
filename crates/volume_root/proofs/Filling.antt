-- A list that is filled from its start on.
use Rattle.std.proofs.Common.{◌≡◌, ℕ, zero, suc, ◌+◌, ◌<◌, ◌≤◌, List, [], ◌∷◌, ◌++◌, map, length, drop, refl, sym, ◌∙◌, ap, arith}
use Rattle.std.specs.Prelude.{slice_set}
use Rattle.std.specs.List.{range_with_len}
use Rattle.std.proofs.lemmas.List.{append-nil, drop_all}
use Rattle.std.proofs.lemmas.List.FromFn.{length-map-range_with_len, map-range_with_len_more}

module _ {X : Type 0} where
  seam : (xs whole : List X) (k : ℕ) (x : X) → length xs ≡ k → k < length whole → slice_set (xs ++ drop k whole) k x ≡ (xs ++ x ∷ []) ++ drop (suc k) whole
  seam [] [] k x long below = absurd (omega arith)
  seam [] (y ∷ ys) zero x long below = refl
  seam [] (y ∷ ys) (suc k) x long below = absurd (omega (arith, long))
  seam (z ∷ zs) whole zero x long below = absurd (omega (arith, long))
  seam (z ∷ zs) [] (suc k) x long below = absurd (omega (arith, below))
  seam (z ∷ zs) (y ∷ ys) (suc k) x long below = ap (λ (l : List X). z ∷ l) (seam zs ys k x (omega (arith, long)) (omega (arith, below)))

  -- so many elements are made by f, the others are as they were
  abbrev pub filled : (ℕ → X) → ℕ → List X → ℕ → List X
  filled f a whole k = map f (range_with_len a k) ++ drop k whole

  pub advance : (f : ℕ → X) (a k : ℕ) (whole : List X) → k < length whole → slice_set (filled f a whole k) k (f (a + k)) ≡ filled f a whole (k + 1)
  advance f a k whole below =
      let on : suc k ≡ k + 1 = omega arith in
      seam (map f (range_with_len a k)) whole k (f (a + k)) (length-map-range_with_len f a k) below
      ∙ ap (λ (l : List X). l ++ drop (suc k) whole) (sym (map-range_with_len_more f a k (a + k) refl))
      ∙ ap (λ (n : ℕ). map f (range_with_len a (k + 1)) ++ drop n whole) on

  pub complete : (f : ℕ → X) (a k : ℕ) (whole : List X) → length whole ≤ k → filled f a whole k ≡ map f (range_with_len a k)
  complete f a k whole over = ap (λ (l : List X). map f (range_with_len a k) ++ l) (drop_all k whole over) ∙ append-nil (map f (range_with_len a k))
