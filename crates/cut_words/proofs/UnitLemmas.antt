-- Units of a page.
use Rattle.std.proofs.Common.{◌≡◌, true, ℕ, zero, suc, ◌+◌, ◌*◌, ◌<◌, ◌/◌, ◌%◌, List, [], ◌∷◌, map, take, drop, refl, sym, ◌∙◌, ap, arith}
use Rattle.std.specs.Prelude.{slice_get}
use Rattle.std.proofs.lemmas.List.{drop-map, take-map}
use Rattle.labelled_disk.proofs.WriteLemmas.{get_drop, same_elements}
use Rattle.cut_words.specs.Cut.{unit}

get_take : {X : Type 0} (n : ℕ) (xs : List X) (k : ℕ) → k < n → slice_get (take n xs) k ≡ slice_get xs k
get_take zero xs k low = absurd (omega (arith, low))
get_take (suc n) [] k low = refl
get_take (suc n) (x ∷ xs) zero low = refl
get_take (suc n) (x ∷ xs) (suc k) low = get_take n xs k (omega (arith, low))

pub unit-map : {X Y : Type 0} (f : X → Y) (u : ℕ) (xs : List X) → unit u (map f xs) ≡ map f (unit u xs)
unit-map f u xs = ap (λ l. take 16 l) (drop-map f (16 * u) xs) ∙ take-map f 16 (drop (16 * u) xs)

pub in_unit : {X : Type 0} (xs : List X) (i : ℕ) → slice_get (unit (i / 16) xs) (i % 16) ≡ slice_get xs i
in_unit xs i =
    let z : 16 * (i / 16) + i % 16 ≡ i = omega arith in
    get_take 16 (drop (16 * (i / 16)) xs) (i % 16) (omega arith) ∙ get_drop (16 * (i / 16)) xs (i % 16) ∙ ap (λ (n : ℕ). slice_get xs n) z

-- a page is its units
pub same_units : {X : Type 0} (xs ys : List X) → ((u : ℕ) → unit u xs ≡ unit u ys) → xs ≡ ys
same_units xs ys same = same_elements true 0 0 xs ys (λ i. sym (in_unit xs i) ∙ ap (λ l. slice_get l (i % 16)) (same (i / 16)) ∙ in_unit ys i)
