-- Lists of runs that are kept.
use Rattle.std.proofs.Common.{◌≡◌, ◌-◌, ℕ, zero, suc, Bool, true, false, ◌==◌, List, [], ◌∷◌, ◌++◌, length, filter, drop, refl, sym, subst}
use Rattle.std.specs.Prelude.{cond, if◌then◌else◌}
use Rattle.std.proofs.lemmas.Bool.{eqb-true}
use Rattle.std.proofs.lemmas.Option.{same_Some, none-some}
use Rattle.file_map.specs.declared.run.Run.{Run}
use Rattle.file_map.specs.Run.{IsRun}
use Rattle.filer_kernel.specs.declared.cached.CachedRuns.{CachedRuns}
use Rattle.filer_kernel.specs.Cached.{runs_of}
use Rattle.filer_kernel.specs.Runs.{AreRunsOf, newest}

pub no_runs : (n : ℕ) → AreRunsOf n []
no_runs n k r at = absurd (none-some r at)

pub one_more : (n : ℕ) (r : Run) (xs : List Run) → IsRun n r → AreRunsOf n xs → AreRunsOf n (r ∷ xs)
one_more n r xs is are zero s at = subst (IsRun n) (same_Some r s at) is
one_more n r xs is are (suc k) s at = are k s at

first_run : (n : ℕ) (r : Run) (xs : List Run) → AreRunsOf n (r ∷ xs) → IsRun n r
first_run n r xs are = are zero r refl

pub rest_runs : (n : ℕ) (r : Run) (xs : List Run) → AreRunsOf n (r ∷ xs) → AreRunsOf n xs
rest_runs n r xs are k s at = are (suc k) s at

pub runs_pushed : (n : ℕ) (xs : List Run) (r : Run) → AreRunsOf n xs → IsRun n r → AreRunsOf n (xs ++ r ∷ [])
runs_pushed n [] r are is = one_more n r [] is (no_runs n)
runs_pushed n (x ∷ xs) r are is = one_more n x (xs ++ r ∷ []) (first_run n x xs are) (runs_pushed n xs r (rest_runs n x xs are) is)

either_runs : (n : ℕ) (x : Run) (xs : List Run) (b : Bool) → IsRun n x → AreRunsOf n xs → AreRunsOf n (cond b (x ∷ xs) xs)
either_runs n x xs true is are = one_more n x xs is are
either_runs n x xs false is are = are

pub runs_filtered : (n : ℕ) (test : Run → Bool) (xs : List Run) → AreRunsOf n xs → AreRunsOf n (filter test xs)
runs_filtered n test [] are = are
runs_filtered n test (x ∷ xs) are = either_runs n x (filter test xs) (test x) (first_run n x xs are) (runs_filtered n test xs (rest_runs n x xs are))

pub runs_dropped : (n k : ℕ) (xs : List Run) → AreRunsOf n xs → AreRunsOf n (drop k xs)
runs_dropped n zero xs are = are
runs_dropped n (suc k) [] are = are
runs_dropped n (suc k) (x ∷ xs) are = runs_dropped n k xs (rest_runs n x xs are)

-- the newest of runs and one more
pub newest_runs : (n k : ℕ) (xs ys : List Run) (r : Run) → ys ≡ newest k (xs ++ r ∷ []) → AreRunsOf n xs → IsRun n r → AreRunsOf n ys
newest_runs n k xs ys r same are is = subst (AreRunsOf n) (sym same) (runs_dropped n (length (xs ++ r ∷ []) - k) (xs ++ r ∷ []) (runs_pushed n xs r are is))

-- what is left of a volume's runs, or of none
pub left_of_volume : (b : Bool) (test : Run → Bool) (xs ys : List Run) → ys ≡ filter test xs → (if b then ys else []) ≡ filter test (if b then xs else [])
left_of_volume true test xs ys same = same
left_of_volume false test xs ys same = refl

of_right : (b : Bool) (m n : ℕ) (xs : List Run) → (m == n) ≡ b → AreRunsOf m xs → AreRunsOf n (if b then xs else [])
of_right true m n xs same are = subst (λ (k : ℕ). AreRunsOf k xs) (eqb-true m n same) are
of_right false m n xs same are = no_runs n

-- those that are kept of a volume are of it
pub of_volume : (n : ℕ) (cached : CachedRuns) → AreRunsOf n (runs_of n cached)
of_volume n cached = of_right (cached.sectors == n) cached.sectors n cached.runs.items refl cached.form
