-- Lists with one element more.
use Rattle.std.proofs.Common.{◌≡◌, ◌⊎◌, inl, inr, ℕ, zero, suc, ◌+◌, ◌<◌, List, [], ◌∷◌, ◌++◌, length, take, drop, Some, Result, Ok, Err, IfOk, refl, sym, ◌∙◌, ap, arith}
use Rattle.std.specs.Prelude.{slice_get}
use Rattle.std.proofs.lemmas.Option.{same_Some, none-some}

-- an element after the first n
pub dropped : {X : Type 0} (xs : List X) (n k : ℕ) → slice_get (drop n xs) k ≡ slice_get xs (n + k)
dropped xs zero k = let z : 0 + k ≡ k = omega arith in ap (slice_get xs) (sym z)
dropped [] (suc n) k = refl
dropped (x ∷ xs) (suc n) k = let s : suc n + k ≡ suc (n + k) = omega arith in dropped xs n k ∙ ap (slice_get (x ∷ xs)) (sym s)

-- it is one of the list, or the one more
pub in_pushed : {X : Type 0} (xs : List X) (x : X) (k : ℕ) (y : X) → slice_get (xs ++ x ∷ []) k ≡ Some y → (slice_get xs k ≡ Some y) ⊎ (x ≡ y)
in_pushed [] x zero y at = inr (same_Some x y at)
in_pushed [] x (suc k) y at = absurd (none-some y at)
in_pushed (z ∷ xs) x zero y at = inl at
in_pushed (z ∷ xs) x (suc k) y at = in_pushed xs x k y at

pub pushed_prefix : {X : Type 0} (xs : List X) (x : X) (k : ℕ) (y : X) → slice_get xs k ≡ Some y → slice_get (xs ++ x ∷ []) k ≡ Some y
pushed_prefix [] x k y at = absurd (none-some y at)
pushed_prefix (z ∷ xs) x zero y at = at
pushed_prefix (z ∷ xs) x (suc k) y at = pushed_prefix xs x k y at

-- an element of the longer list that isn't the last
pub pushed_below : {X : Type 0} (xs : List X) (x : X) (k : ℕ) (y : X) → k < length xs → slice_get (xs ++ x ∷ []) k ≡ Some y → slice_get xs k ≡ Some y
pushed_below [] x k y below at = absurd (omega (arith, below))
pushed_below (z ∷ xs) x zero y below at = at
pushed_below (z ∷ xs) x (suc k) y below at = pushed_below xs x k y (omega (arith, below)) at

pub pushed_last : {X : Type 0} (xs : List X) (x : X) → slice_get (xs ++ x ∷ []) (length xs) ≡ Some x
pushed_last [] x = refl
pushed_last (z ∷ xs) x = pushed_last xs x

pub pushed_some : {X : Type 0} (xs : List X) (x : X) → xs ++ x ∷ [] ≡ [] → ⊥
pushed_some [] x none = none-some x (ap (λ l. slice_get l 0) (sym none))
pushed_some (z ∷ xs) x none = none-some z (ap (λ l. slice_get l 0) (sym none))

-- one element more of the first
pub one_more : {X : Type 0} (xs : List X) (k : ℕ) (x : X) → slice_get xs k ≡ Some x → take (suc k) xs ≡ take k xs ++ x ∷ []
one_more [] k x here = absurd (none-some x here)
one_more (y ∷ ys) zero x here = ap (λ z. z ∷ []) (same_Some y x here)
one_more (y ∷ ys) (suc k) x here = ap (λ l. y ∷ l) (one_more ys k x here)

pub nothing_more : {X : Type 0} (xs : List X) → xs ++ [] ≡ xs
nothing_more [] = refl
nothing_more (x ∷ xs) = ap (λ l. x ∷ l) (nothing_more xs)

-- what is so of an answer, and a consequence
pub if_ok_more : {T E : Type 0} (r : Result T E) (P Q : T → Type 0) → IfOk r P → ((x : T) → P x → Q x) → IfOk r Q
if_ok_more (Ok x) P Q is h = h x is
if_ok_more (Err e) P Q is h = tt
