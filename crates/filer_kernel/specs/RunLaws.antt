-- What is known of runs has one value.
use Rattle.std.proofs.Common.{◌≡◌, ◌⊎◌, ◌≤◌, ℕ, List, ap, inl, inr, arith}
use Rattle.std.proofs.Math.Nat.{ℕ_set}
use Rattle.std.specs.Coded.{le_prop}
use Rattle.file_map.specs.declared.run.Run.{Run}
use Rattle.file_map.specs.Run.{IsRun}
use Rattle.filer_kernel.specs.Runs.{AreRunsOf}

file_once : (id : ℕ) → IsProp ((id ≡ 3) ⊎ (16 ≤ id))
file_once id (inl a) (inl b) = ap (λ (e : id ≡ 3). inl e) (ℕ_set id 3 a b)
file_once id (inr a) (inr b) = ap (λ (e : 16 ≤ id). inr e) (le_prop a b)
file_once id (inl a) (inr b) = absurd (omega (arith, a, b))
file_once id (inr a) (inl b) = absurd (omega (arith, a, b))

run_once : (n : ℕ) (r : Run) → IsProp (IsRun n r)
run_once n r = hlevel (le_prop, ℕ_set, file_once)

pub are_once : (n : ℕ) (runs : List Run) → IsProp (AreRunsOf n runs)
are_once n runs = hlevel run_once
