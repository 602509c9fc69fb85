-- Passes over the slots and over the intervals.
use Rattle.std.proofs.Common.{◌≡◌, ◌≢◌, ◌⊎◌, inl, inr, ℕ, ◌+◌, ◌*◌, ◌<◌, ◌≤◌, Bool, true, false, List, Option, Some, None, sym, ◌∙◌, ap, arith}
use Rattle.std.specs.Prelude.{slice_get, if◌then◌else◌}
use Rattle.std.proofs.lemmas.Bool.{cases_eq, cases_lt}
use Rattle.std.proofs.lemmas.Nat.{mul-le}
use Rattle.flat_machine.specs.declared.space.Space.{Space}
use Rattle.projection_laws.specs.Sight.{Interval}
use Rattle.space_tables.specs.Scan.{kept, AreTakenFrom}
use Rattle.space_tables.specs.Stored.{HoldTables}

pub kept_true : (test : Space → Bool) (s : Space) → true ≡ test s → kept test (Some s) ≡ Some s
kept_true test s e = ap (λ (b : Bool). if b then Some s else None) (sym e)

pub kept_false : (test : Space → Bool) (s : Space) → false ≡ test s → kept test (Some s) ≡ None
kept_false test s e = ap (λ (b : Bool). if b then Some s else None) (sym e)

-- where the bytes stay, so do the tables
pub still_hold : {M : Type 0} (reveals : M → List ℕ → Type 0) (m n : M) → ((b : List ℕ) → reveals m b → reveals n b) → (slots : List (Option Space)) (xs : List Interval) → HoldTables (reveals m) slots xs → HoldTables (reveals n) slots xs
still_hold reveals m n stay slots xs h = record { bytes = h.bytes; revealed = stay h.bytes h.revealed; are = h.are }

-- one handle more is taken
pub one_taken : (slots : List (Option Space)) (from h : ℕ) → AreTakenFrom slots from h → slice_get slots h ≢ Some None → AreTakenFrom slots from (h + 1)
one_taken slots from h taken here = λ j low below free. by j low below free (cases_eq j h)
  where
    by : (j : ℕ) → from ≤ j → j < h + 1 → slice_get slots j ≡ Some None → (j ≡ h) ⊎ (j ≢ h) → ⊥
    by j low below free (inl same) = here (ap (slice_get slots) (sym same) ∙ free)
    by j low below free (inr apart) = taken j low (omega (arith, below, apart)) free

-- those of two parts are taken
pub both_taken : (slots : List (Option Space)) (from mid end : ℕ) → AreTakenFrom slots from mid → AreTakenFrom slots mid end → AreTakenFrom slots from end
both_taken slots from mid end first next = λ j low below. elim (cases_lt j mid) [
  | inl early ↦ first j low early
  | inr late ↦ next j (omega (arith, late)) below
]

-- ---- what is paid

pub paid_more : (n k t s u : ℕ) → s ≤ t + n * k → u ≤ s + k → u ≤ t + (n + 1) * k
paid_more n k t s u cost step = omega (arith, cost, step)

pub paid_all : (n m k t s u : ℕ) → s ≤ t + n * k → u ≤ s + k → n + 1 ≤ m → u ≤ t + m * k
paid_all n m k t s u cost step few = let p = mul-le (n + 1) k m k few (omega arith) in omega (arith, p, cost, step)
