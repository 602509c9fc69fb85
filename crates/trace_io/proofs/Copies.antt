-- Bytes that are looked through for one.
use Rattle.std.proofs.Common.{◌≡◌, ℕ, zero, suc, ◌+◌, ◌-◌, false, eqb, List, [], ◌∷◌, ◌++◌, length, take, drop, refl, arith, inl, inr}
use Rattle.std.specs.List.{list_any}
use Rattle.std.proofs.Math.Seq.{take-add}
use Rattle.std.proofs.lemmas.List.{get_or_append_left, get_or-append_right, length-append}
use Rattle.std.proofs.lemmas.Bool.{cases_lt, or_parts}
use Rattle.trace_io.specs.Stream.{Misses}

-- the byte stands in neither of two lists
Misses-append : (c : ℕ) (xs ys : List ℕ) → Misses c xs → Misses c ys → Misses c (xs ++ ys)
Misses-append c xs ys first second k l =
    elim (cases_lt k (length xs)) [
      | inl below ↦ rw (get_or_append_left xs ys 0 k below) (first k below)
      | inr past ↦ rw (get_or-append_right xs ys (length xs) k 0 refl past) (second (k - length xs) (omega (arith, length-append xs ys)))
    ]

-- nor in a prefix that the two make up
pub misses_both : (c n m : ℕ) (bytes : List ℕ) → Misses c (take n bytes) → Misses c (take m (drop n bytes)) → Misses c (take (n + m) bytes)
misses_both c n m bytes first second = rw (take-add n m bytes) (Misses-append c (take n bytes) (take m (drop n bytes)) first second)

-- the byte is in no list in which no element passes the test for it
pub misses_none : (c : ℕ) (xs : List ℕ) → list_any (λ b. eqb b c) xs ≡ false → Misses c xs
misses_none c [] none k l here = absurd (omega arith)
misses_none c (x ∷ xs) none zero l here = let other = (or_parts (eqb x c) (list_any (λ b. eqb b c) xs) none).0 in absurd (grind arith)
misses_none c (x ∷ xs) none (suc k) l here = misses_none c xs (or_parts (eqb x c) (list_any (λ b. eqb b c) xs) none).1 k (omega arith) here
