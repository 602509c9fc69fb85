-- Intervals that are changed one by one.
use Rattle.std.proofs.Common.{◌≡◌, ℕ, zero, suc, ◌+◌, ◌<◌, ◌≤◌, Bool, false, List, [], ◌∷◌, ◌++◌, length, map, take, drop, Some, refl, sym, ◌∙◌, ap, arith}
use Rattle.std.specs.Prelude.{slice_get, slice_set, Result, Ok, Err, OnOk, IfErr, MatchResult, if◌then◌else◌}
use Rattle.projection_laws.specs.Edits.{reshown, through}
use Rattle.space_tables.specs.declared.change.Change.{Change}
use Rattle.space_tables.specs.declared.change.Change.TheVariants.{Unit as Fit, Window as Show}
use Rattle.space_tables.specs.Change.{touches, changed}
use Rattle.space_tables.specs.declared.error.SpaceError.{SpaceError}
use Rattle.space_tables.specs.declared.error.SpaceError.TheVariants.{Refused, Malformed, Mem}
use Rattle.space_tables.specs.Answer.{IfMalformed}
use Rattle.space_tables.specs.Form.{interval_record, is_interval_record, BreaksInterval, BreaksProjection}
use Rattle.std.proofs.lemmas.Option.{same_Some, none-some}
use Rattle.projection_laws.specs.Sight.{Interval}

pub both : {T X : Type 0} (r : Result T X) (A : Type 0) (Q : X → Type 0) → OnOk r A → IfErr r Q → MatchResult r (λ _. A) Q
both (Ok v) A Q h k = h
both (Err e) A Q h k = k

pub set_same : (xs : List Interval) (k : ℕ) (x : Interval) → slice_get xs k ≡ Some x → slice_set xs k x ≡ xs
set_same [] k x e = refl
set_same (y ∷ ys) zero x e = ap (λ (z : Interval). z ∷ ys) (sym (same_Some y x e))
set_same (y ∷ ys) (suc k) x e = ap (λ (zs : List Interval). y ∷ zs) (set_same ys k x e)

pub untouched : (c : Change) (x : Interval) → touches c x ≡ false → changed c x ≡ x
untouched (Fit h u) x e = ap (λ (b : Bool). if b then record x { unit = u } else x) e
untouched (Show s w) x e = ap (λ (b : Bool). if b then reshown (through s w) x else x) e

-- a record from an index on that breaks its form is one
pub some_breaks : {X : Type 0} (count : ℕ) (b : List ℕ) (from k : ℕ) → from ≤ k → (e : SpaceError X) → IfMalformed (λ page. BreaksInterval count b page k) e
    → IfMalformed (λ page. (j : ℕ) × (from ≤ j) × BreaksInterval count b page j) e
some_breaks count b from k above (Refused word) h = tt
some_breaks count b from k above (Malformed page) h = (k, above, h)
some_breaks count b from k above (Mem error) h = tt

-- where the records from an index on are those of other bytes, so does a record of those
pub breaks_before : {X : Type 0} (count : ℕ) (b now : List ℕ) (from : ℕ) → ((k : ℕ) → from ≤ k → interval_record now k ≡ interval_record b k) → (e : SpaceError X)
    → IfMalformed (λ page. (j : ℕ) × (from ≤ j) × BreaksInterval count now page j) e → IfMalformed (BreaksProjection count b) e
breaks_before count b now from rest (Refused word) h = tt
breaks_before count b now from rest (Malformed page) h = (h.0, record { counted = h.2.counted; on = h.2.on; breaks = ap is_interval_record (sym (rest h.0 h.1)) ∙ h.2.breaks })
breaks_before count b now from rest (Mem error) h = tt

pub length_map : (f : Interval → Interval) (xs : List Interval) → length (map f xs) ≡ length xs
length_map f [] = refl
length_map f (x ∷ xs) = ap suc (length_map f xs)

module _ (f : Interval → Interval) where
  pub at_turn : (xs : List Interval) (k : ℕ) (x : Interval) → slice_get xs k ≡ Some x → slice_get (map f (take k xs) ++ drop k xs) k ≡ Some x
  at_turn [] k x e = absurd (none-some x e)
  at_turn (y ∷ ys) zero x e = e
  at_turn (y ∷ ys) (suc k) x e = at_turn ys k x e

  one_more : (xs : List Interval) (k : ℕ) (x : Interval) → slice_get xs k ≡ Some x → slice_set (map f (take k xs) ++ drop k xs) k (f x) ≡ map f (take (suc k) xs) ++ drop (suc k) xs
  one_more [] k x e = absurd (none-some x e)
  one_more (y ∷ ys) zero x e = ap (λ (z : Interval). f z ∷ ys) (sym (same_Some y x e))
  one_more (y ∷ ys) (suc k) x e = ap (λ (zs : List Interval). f y ∷ zs) (one_more ys k x e)

  pub turn : (xs : List Interval) (k : ℕ) (x : Interval) → slice_get xs k ≡ Some x → slice_set (map f (take k xs) ++ drop k xs) k (f x) ≡ map f (take (k + 1) xs) ++ drop (k + 1) xs
  turn xs k x e = let n : suc k ≡ k + 1 = omega arith in one_more xs k x e ∙ ap (λ (m : ℕ). map f (take m xs) ++ drop m xs) n

  pub all_turned : (xs : List Interval) (n : ℕ) → length xs ≡ n → map f (take n xs) ++ drop n xs ≡ map f xs
  all_turned [] zero l = refl
  all_turned [] (suc n) l = absurd (omega (arith, l))
  all_turned (y ∷ ys) zero l = absurd (omega (arith, l))
  all_turned (y ∷ ys) (suc n) l = ap (λ (zs : List Interval). f y ∷ zs) (all_turned ys n (omega (arith, l)))

  -- an interval that was not reached is the same
  pub later_turn : (xs : List Interval) (n k : ℕ) (x : Interval) → n ≤ k → slice_get xs k ≡ Some x → slice_get (map f (take n xs) ++ drop n xs) k ≡ Some x
  later_turn xs zero k x l e = e
  later_turn [] (suc n) k x l e = absurd (none-some x e)
  later_turn (y ∷ ys) (suc n) zero x l e = absurd (omega (arith, l))
  later_turn (y ∷ ys) (suc n) (suc k) x l e = later_turn ys n k x (omega (arith, l)) e

  -- where the first ones stay the same, nothing was changed
  pub none_turned : (xs : List Interval) (n : ℕ) → ((k : ℕ) (x : Interval) → k < n → slice_get xs k ≡ Some x → f x ≡ x) → map f (take n xs) ++ drop n xs ≡ xs
  none_turned xs zero same = refl
  none_turned [] (suc n) same = refl
  none_turned (y ∷ ys) (suc n) same =
      let here : f y ≡ y = same 0 y (omega arith) refl in
      let rest = none_turned ys n (λ k x below e. same (suc k) x (omega (arith, below)) e) in
      λ t. here t ∷ rest t

  -- where the last ones stay the same, all are changed
  pub rest_turned : (xs : List Interval) (n : ℕ) → ((k : ℕ) (x : Interval) → n ≤ k → slice_get xs k ≡ Some x → f x ≡ x) → map f (take n xs) ++ drop n xs ≡ map f xs
  rest_turned [] zero same = refl
  rest_turned [] (suc n) same = refl
  rest_turned (y ∷ ys) zero same =
      let here : f y ≡ y = same 0 y (omega arith) refl in
      let rest = rest_turned ys 0 (λ k x low e. same (suc k) x (omega arith) e) in
      λ t. sym here t ∷ rest t
  rest_turned (y ∷ ys) (suc n) same = ap (λ (zs : List Interval). f y ∷ zs) (rest_turned ys n (λ k x low e. same (suc k) x (omega (arith, low)) e))
