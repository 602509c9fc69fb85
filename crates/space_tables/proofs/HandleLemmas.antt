-- Handles that grow.
use Rattle.std.proofs.Common.{◌≡◌, inl, inr, ℕ, ◌+◌, List, Option, sym, ◌∙◌, ap, subst, arith}
use Rattle.std.specs.Prelude.{IfSome}
use Rattle.std.proofs.lemmas.Bool.{cases_lt}
use Rattle.projection_laws.specs.Stored.{interval_in}
use Rattle.space_tables.specs.declared.handles.Handles.{Handles}
use Rattle.space_tables.specs.declared.handles.Sought.{Sought}
use Rattle.space_tables.specs.Form.{interval_record}
use Rattle.space_tables.specs.Handles.{handle_for, IsOneOf, NameOnly, Widens}

pub still_one : (fewer more : Handles) (h : ℕ) → Widens fewer more → IsOneOf fewer h → IsOneOf more h
still_one fewer more h wider one = (omega (arith, wider.0, one.0), omega (arith, wider.1, one.1))

-- one record more
pub one_named : (sought : Sought) (b : List ℕ) (from k : ℕ) (handles more : Handles) → NameOnly sought b from k handles → Widens handles more → IfSome (handle_for sought (interval_in (interval_record b k))) (IsOneOf more)
    → NameOnly sought b from (k + 1) more
one_named sought b from k handles more names wider has = λ j h low below there. elim (cases_lt j k) [
  | inl early ↦ still_one handles more h wider (names j h low early there)
  | inr late ↦
      let same : j ≡ k = omega (arith, below, late) in
      subst (λ (o : Option ℕ). IfSome o (IsOneOf more)) (ap (λ (n : ℕ). handle_for sought (interval_in (interval_record b n))) (sym same) ∙ there) has
]

-- the records of one page more
pub both_named : (sought : Sought) (b : List ℕ) (from mid end : ℕ) (handles more : Handles) → NameOnly sought b from mid handles → Widens handles more → NameOnly sought b mid end more → NameOnly sought b from end more
both_named sought b from mid end handles more first wider next = λ j h low below there. elim (cases_lt j mid) [
  | inl early ↦ still_one handles more h wider (first j h low early there)
  | inr late ↦ next j h (omega (arith, late)) below there
]
