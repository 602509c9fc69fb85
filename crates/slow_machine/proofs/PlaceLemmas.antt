-- The place of a new element among ascending ones.
use Rattle.std.proofs.Common.{◌≡◌, ℕ, suc, ◌+◌, ◌≤◌, Bool, true, false, not, cond, List, [], ◌∷◌, length, Some, None, refl, ap, arith}
use Rattle.std.proofs.lemmas.Bool.Decides.{nat_tests}
use Rattle.std.specs.Prelude.{nat_lt, nat_le, insert, slice_get, slice_set, ◌==◌}
use Rattle.std.specs.Option.{option_map_or}
use Rattle.flat_machine.specs.File.{File, put_file}
use Rattle.std.specs.List.{position_or_len, position, prefix_len}

-- a first place, or the length where there is none
prefix_bound : {X : Type 0} (p : X → Bool) (xs : List X) → prefix_len p xs ≤ length xs
prefix_bound p [] = omega arith
prefix_bound p (x ∷ xs) = either (p x) (prefix_bound p xs)
  where
    either : (b : Bool) → prefix_len p xs ≤ length xs → cond b (1 + prefix_len p xs) 0 ≤ suc (length xs)
    either true h = omega arith
    either false h = omega arith

place_from : (n len i : ℕ) → Some i ≡ cond (nat_lt n len) (Some n) None → i ≡ n
place_from n len i e = split (nat_lt n len) e
  where
    split : (b : Bool) → Some i ≡ cond b (Some n) None → i ≡ n
    split true q = cc
    split false q = cc

no_place_from : (n len : ℕ) → n ≤ len → cond (nat_lt n len) (Some n) None ≡ None → len ≡ n
no_place_from n len h e = split (nat_lt n len) refl e
  where
    split : (b : Bool) → nat_lt n len ≡ b → cond b (Some n) None ≡ None → len ≡ n
    split true t q = cc
    split false t q = grind (arith, nat_tests)

pub some_place : {X : Type 0} (p : X → Bool) (xs : List X) (i : ℕ) → Some i ≡ position p xs → i ≡ position_or_len p xs
some_place p xs i e = place_from (position_or_len p xs) (length xs) i e

pub none_place : {X : Type 0} (p : X → Bool) (xs : List X) → position p xs ≡ None → length xs ≡ position_or_len p xs
none_place p xs e = no_place_from (position_or_len p xs) (length xs) (prefix_bound (λ x. not (p x)) xs) e

-- A file put among ascending identifiers.

-- the element at a place has the identifier
abbrev names : ℕ → List File → ℕ → Bool
names id fs n = option_map_or (λ f. f.id == id) (slice_get fs n) false

same_lt : (a b : ℕ) → b == a ≡ true → nat_lt a b ≡ false
same_lt a b e = grind (arith, nat_tests)

same_eq : (a b : ℕ) → b == a ≡ true → a == b ≡ true
same_eq a b e = grind (arith, nat_tests)

other_lt : (a b : ℕ) → nat_le a b ≡ true → b == a ≡ false → nat_lt a b ≡ true
other_lt a b l e = grind (arith, nat_tests)

above_lt : (a b : ℕ) → nat_le a b ≡ false → nat_lt a b ≡ false
above_lt a b l = grind (arith, nat_tests)

above_eq : (a b : ℕ) → nat_le a b ≡ false → a == b ≡ false
above_eq a b l = grind (arith, nat_tests)

replaced : (file f : File) (fs : List File) (b : Bool) (n : ℕ) → nat_le file.id f.id ≡ b
    → (names file.id fs n ≡ true → slice_set fs n file ≡ put_file file fs)
    → names file.id (f ∷ fs) (cond (not b) (1 + n) 0) ≡ true
    → slice_set (f ∷ fs) (cond (not b) (1 + n) 0) file ≡ put_file file (f ∷ fs)
replaced file f fs true n l k e = rw (same_lt file.id f.id e, same_eq file.id f.id e) refl
replaced file f fs false n l k e =
    let q : 1 + n ≡ suc n = omega arith in
    rw (q, above_lt file.id f.id l, above_eq file.id f.id l) (ap (λ r. f ∷ r) (k (rw q at e)))

inserted : (file f : File) (fs : List File) (b : Bool) (n : ℕ) → nat_le file.id f.id ≡ b
    → (names file.id fs n ≡ false → insert fs n file ≡ put_file file fs)
    → names file.id (f ∷ fs) (cond (not b) (1 + n) 0) ≡ false
    → insert (f ∷ fs) (cond (not b) (1 + n) 0) file ≡ put_file file (f ∷ fs)
inserted file f fs true n l k e = rw (other_lt file.id f.id l e) refl
inserted file f fs false n l k e =
    let q : 1 + n ≡ suc n = omega arith in
    rw (q, above_lt file.id f.id l, above_eq file.id f.id l) (ap (λ r. f ∷ r) (k (rw q at e)))

over : (file : File) (fs : List File) → names file.id fs (position_or_len (λ f. nat_le file.id f.id) fs) ≡ true
    → slice_set fs (position_or_len (λ f. nat_le file.id f.id) fs) file ≡ put_file file fs
over file [] e = absurd (cc)
over file (f ∷ fs) e = replaced file f fs (nat_le file.id f.id) (position_or_len (λ g. nat_le file.id g.id) fs) refl (over file fs) e

between : (file : File) (fs : List File) → names file.id fs (position_or_len (λ f. nat_le file.id f.id) fs) ≡ false
    → insert fs (position_or_len (λ f. nat_le file.id f.id) fs) file ≡ put_file file fs
between file [] e = refl
between file (f ∷ fs) e = inserted file f fs (nat_le file.id f.id) (position_or_len (λ g. nat_le file.id g.id) fs) refl (between file fs) e

pub put_over : (file : File) (fs : List File) (n id : ℕ) → id ≡ file.id → n ≡ position_or_len (λ f. nat_le id f.id) fs
    → option_map_or (λ f. f.id == id) (slice_get fs n) false ≡ true → slice_set fs n file ≡ put_file file fs
put_over file fs n id p q e = rw (q, p) (over file fs (rw (q, p) at e))

pub put_between : (file : File) (fs : List File) (n id : ℕ) → id ≡ file.id → n ≡ position_or_len (λ f. nat_le id f.id) fs
    → option_map_or (λ f. f.id == id) (slice_get fs n) false ≡ false → insert fs n file ≡ put_file file fs
put_between file fs n id p q e = rw (q, p) (between file fs (rw (q, p) at e))
