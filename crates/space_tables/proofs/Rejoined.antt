-- Lists of intervals where neighbours that are alike are joined.
use Rattle.std.proofs.Common.{◌≡◌, ◌≢◌, ℕ, zero, suc, ◌+◌, ◌-◌, ◌<◌, ◌≤◌, Bool, true, false, List, [], ◌∷◌, length, Option, Some, None, refl, sym, ◌∙◌, ap, arith}
use Rattle.std.specs.Prelude.{slice_get, slice_set, if◌then◌else◌, Result, Ok, Err, IfOk, IfErr, MatchResult}
use Rattle.std.specs.List.{remove}
use Rattle.std.proofs.lemmas.Option.{none-some}
use Rattle.labelled_disk.proofs.Finds.{get_set_other}
use Rattle.projection_laws.specs.Sight.{Interval}
use Rattle.projection_laws.specs.Edits.{alike, longer, paired, paired_before, rejoined}
use Rattle.projection_laws.proofs.Steps.{paired_in_steps, joined_in_steps}
use Rattle.space_tables.specs.Change.{one_before}
use Rattle.space_tables.proofs.ReadBack.{get_or_at, there}

-- ---- an interval and the next

pub paired_alone : (xs : List Interval) (k : ℕ) → slice_get xs (suc k) ≡ None → paired xs k ≡ xs
paired_alone [] k e = refl
paired_alone (x ∷ []) zero e = refl
paired_alone (x ∷ y ∷ ys) zero e = absurd (none-some y (sym e))
paired_alone (x ∷ xs) (suc k) e = ap (λ (ws : List Interval). x ∷ ws) (paired_alone xs k e)

module _ (xs : List Interval) (k : ℕ) (i j : Interval) (e : slice_get xs k ≡ Some i) (f : slice_get xs (suc k) ≡ Some j) where
  by_test : (b : Bool) → alike i j ≡ b → paired xs k ≡ (if b then remove (slice_set xs k (longer i j)) (suc k) else xs)
  by_test b t = paired_in_steps xs k i j e f ∙ ap (λ (c : Bool). if c then remove (slice_set xs k (longer i j)) (suc k) else xs) t

  pub paired_apart : alike i j ≡ false → paired xs k ≡ xs
  paired_apart t = by_test false t

  pub paired_alike : alike i j ≡ true → paired xs k ≡ remove (slice_set xs k (longer i j)) (suc k)
  paired_alike t = by_test true t

pub at_removed : (xs : List Interval) (k : ℕ) (w : Interval) → k < length xs → slice_get (remove (slice_set xs k w) (suc k)) k ≡ Some w
at_removed [] k w l = absurd (omega (arith, l))
at_removed (x ∷ xs) zero w l = refl
at_removed (x ∷ xs) (suc k) w l = at_removed xs k w (omega (arith, l))

pub one_fewer : (xs : List Interval) (k : ℕ) → k < length xs → length (remove xs k) ≡ length xs - 1
one_fewer [] k l = absurd (omega (arith, l))
one_fewer (x ∷ xs) zero l = omega arith
one_fewer (x ∷ xs) (suc k) l = let r = one_fewer xs k (omega (arith, l)) in omega (arith, r, l)

-- ---- the one before

pub before_set : (xs : List Interval) (k : ℕ) (new : Interval) → one_before (slice_set xs k new) k ≡ one_before xs k
before_set xs zero new = refl
before_set xs (suc k) new = get_set_other xs (suc k) k new (λ q. omega (arith, q))

below_paired : (xs : List Interval) (k : ℕ) → slice_get (paired xs (suc k)) k ≡ slice_get xs k
below_paired [] k = refl
below_paired (x ∷ xs) zero = refl
below_paired (x ∷ xs) (suc k) = below_paired xs k

pub before_paired : (xs : List Interval) (k : ℕ) → one_before (paired xs k) k ≡ one_before xs k
before_paired xs zero = refl
before_paired xs (suc k) = below_paired xs k

pub first_alone : (xs : List Interval) (k : ℕ) → k < length xs → one_before xs k ≡ None → paired_before xs k ≡ xs
first_alone xs zero l e = refl
first_alone xs (suc k) l e = absurd (there xs k (omega (arith, l)) (sym e))

module _ (xs : List Interval) where
  pub paired_after : (k : ℕ) → 1 ≤ k → paired_before xs k ≡ paired xs (k - 1)
  paired_after zero l = absurd (omega (arith, l))
  paired_after (suc k) l = let n : k ≡ suc k - 1 = omega arith in ap (paired xs) n

  pub before_is : (k : ℕ) → 1 ≤ k → slice_get xs (k - 1) ≡ one_before xs k
  before_is zero l = absurd (omega (arith, l))
  before_is (suc k) l = let n : suc k - 1 ≡ k = omega arith in ap (slice_get xs) n

  pub own_is : (k : ℕ) → 1 ≤ k → slice_get xs (suc (k - 1)) ≡ slice_get xs k
  own_is zero l = absurd (omega (arith, l))
  own_is (suc k) l = let n : suc (suc k - 1) ≡ suc k = omega arith in ap (slice_get xs) n

-- ---- all three

pub next_set : (xs : List Interval) (k : ℕ) (new : Interval) → slice_get (slice_set xs k new) (suc k) ≡ slice_get xs (suc k)
next_set xs k new = get_set_other xs k (suc k) new (λ q. omega (arith, q))

pub rejoined_is : (xs : List Interval) (k : ℕ) (new : Interval) → k < length xs → paired_before (paired (slice_set xs k new) k) k ≡ rejoined xs k new
rejoined_is xs k new below = let at = get_or_at xs k below in sym (joined_in_steps xs k at.0 new at.1)

pub okay_errs : {T X : Type 0} (r : Result T X) (P : T → Type 0) (Q : X → Type 0) → IfOk r P → IfErr r Q → MatchResult r P Q
okay_errs (Ok v) P Q h k = h
okay_errs (Err e) P Q h k = k
