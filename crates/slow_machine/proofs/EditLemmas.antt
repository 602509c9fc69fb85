-- Loops that write each element of a list.
use Rattle.std.proofs.Common.{◌≡◌, ℕ, zero, suc, ◌+◌, ◌<◌, List, [], ◌∷◌, ◌++◌, map, length, take, drop, set, get_or, refl, sym, ◌∙◌, ap, arith, add-one}
use Rattle.std.specs.List.{enumerate_from}
use Rattle.std.proofs.lemmas.List.{get_or_default}
use Rattle.std.proofs.lemmas.List.Edits.{map_over_more}

-- a loop that writes f of each element over it
pub each_step : {X : Type 0} (f : X → X) (xs ys : List X) (i : ℕ) (d : X) → i < length xs → length ys ≡ length xs
    → ys ≡ map f (take i xs) ++ drop i xs → set ys i (f (get_or ys i d)) ≡ map f (take (i + 1) xs) ++ drop (i + 1) xs
each_step f xs ys i d h l e =
    let inside : i < length ys = omega arith in
    map_over_more f xs ys i (get_or ys i d) h e (get_or_default ys i d (get_or ys i d) inside)

-- the same where f sees the element's place too, counted from n on
over_from : {X : Type 0} (f : ℕ → X → X) (n i : ℕ) (xs : List X) (d : X) → i < length xs
    → set (map (λ e. f e.0 e.1) (enumerate_from n (take i xs)) ++ drop i xs) i (f (n + i) (get_or xs i d))
    ≡ map (λ e. f e.0 e.1) (enumerate_from n (take (suc i) xs)) ++ drop (suc i) xs
over_from f n zero [] d h = absurd (omega arith)
over_from f n zero (x ∷ xs) d h = let e : n + 0 ≡ n = omega arith in rw e refl
over_from f n (suc i) [] d h = absurd (omega arith)
over_from f n (suc i) (x ∷ xs) d h =
    let e : n + suc i ≡ n + 1 + i = omega arith in
    rw e (ap (λ l. f n x ∷ l) (over_from f (n + 1) i xs d (omega arith)))

-- the elements from the place on are still the first ones
still_from : {X : Type 0} (f : ℕ → X → X) (n i : ℕ) (xs : List X) (d : X) → i < length xs
    → get_or (map (λ e. f e.0 e.1) (enumerate_from n (take i xs)) ++ drop i xs) i d ≡ get_or xs i d
still_from f n zero [] d h = refl
still_from f n zero (x ∷ xs) d h = refl
still_from f n (suc i) [] d h = absurd (omega arith)
still_from f n (suc i) (x ∷ xs) d h = still_from f (n + 1) i xs d (omega arith)

pub each_place_step : {X : Type 0} (f : ℕ → X → X) (xs ys : List X) (i : ℕ) (d : X) → i < length xs
    → ys ≡ map (λ e. f e.0 e.1) (enumerate_from 0 (take i xs)) ++ drop i xs
    → set ys i (f i (get_or ys i d)) ≡ map (λ e. f e.0 e.1) (enumerate_from 0 (take (i + 1) xs)) ++ drop (i + 1) xs
each_place_step f xs ys i d h e =
    let z : 0 + i ≡ i = omega arith in
    rw (e, still_from f 0 i xs d h, add-one) (rw z at (over_from f 0 i xs d h))

mapped_more : {X : Type 0} (f : X → X) (xs : List X) (i : ℕ) (d : X) → i < length xs → map f (take (suc i) xs) ≡ map f (take i xs) ++ f (get_or xs i d) ∷ []
mapped_more f [] i d h = absurd (omega arith)
mapped_more f (x ∷ xs) zero d h = refl
mapped_more f (x ∷ xs) (suc i) d h = ap (λ l. f x ∷ l) (mapped_more f xs i d (omega arith))

-- a loop that pushes f of each element
pub pushed_more : {X : Type 0} (f : X → X) (xs ys : List X) (i : ℕ) (x y : X) → i < length xs → x ≡ get_or xs i x
    → ys ≡ map f (take i xs) → y ≡ f x → ys ++ y ∷ [] ≡ map f (take (i + 1) xs)
pushed_more {X} f xs ys i x y inside at so_far told =
    rw (so_far, told, add-one) (ap (λ (z : X). map f (take i xs) ++ f z ∷ []) at ∙ sym (mapped_more f xs i x inside))
