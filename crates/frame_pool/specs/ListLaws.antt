-- A list of which one place was replaced.
use Rattle.std.specs.Prelude.{◌≡◌, ◌≢◌, ℕ, ◌<◌, List, [], ◌∷◌, length, Some, slice_get, slice_set}
use Rattle.std.proofs.Common.{zero, suc, refl, sym, ap, arith}
use Rattle.std.proofs.lemmas.Option.{same_Some}

pub get_same : {X : Type 0} → (xs : List X) (i : ℕ) (a : X) → i < length xs → slice_get (slice_set xs i a) i ≡ Some a
get_same [] i a below = absurd (omega arith)
get_same (x ∷ xs) zero a below = refl
get_same (x ∷ xs) (suc i) a below = get_same xs i a (omega arith)

pub get_other : {X : Type 0} → (xs : List X) (i k : ℕ) (a : X) → k ≢ i → slice_get (slice_set xs i a) k ≡ slice_get xs k
get_other [] i k a other = refl
get_other (x ∷ xs) zero zero a other = absurd (other refl)
get_other (x ∷ xs) zero (suc k) a other = refl
get_other (x ∷ xs) (suc i) zero a other = refl
get_other (x ∷ xs) (suc i) (suc k) a other = get_other xs i k a (omega arith)

pub below_of : {X : Type 0} → (xs : List X) (i : ℕ) (a : X) → slice_get xs i ≡ Some a → i < length xs
below_of [] i a is = cc
below_of (x ∷ xs) zero a is = omega arith
below_of (x ∷ xs) (suc i) a is = let h = below_of xs i a is in omega (arith, h)

-- nothing changes where the place has that value
pub set_own : {X : Type 0} → (xs : List X) (i : ℕ) (a : X) → slice_get xs i ≡ Some a → slice_set xs i a ≡ xs
set_own [] i a is = refl
set_own (x ∷ xs) zero a is = ap (λ y. y ∷ xs) (sym (same_Some x a is))
set_own (x ∷ xs) (suc i) a is = ap (λ ys. x ∷ ys) (set_own xs i a is)
