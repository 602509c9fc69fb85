-- Swap units, and the pages of a reference.
use Rattle.std.proofs.Common.{◌≡◌, ◌⊎◌, inl, inr, ℕ, ◌+◌, ◌-◌, ◌*◌, ◌/◌, ◌<◌, ◌≤◌, Bool, true, false, [], ◌∷◌, refl, arith}
use Rattle.std.specs.Prelude.{◌==◌, if◌then◌else◌}
use Rattle.std.proofs.lemmas.Bool.{eqb-true, eqb-false, cases_lt}
use Rattle.flat_machine.specs.Laws.{UnitHoldsItsPage, IsTouched, ReferenceTouches}

-- the block of a page holds it
block : (first n page : ℕ) → first ≤ page → 1 ≤ n → (first + n * ((page - first) / n) ≤ page) × (page < first + n * ((page - first) / n) + n)
block first n page low some = (omega (arith, low, some), omega (arith, low, some))

pub unit_holds_its_page : UnitHoldsItsPage
unit_holds_its_page s i page low some from to =
    let b = block s.first s.unit page low some in
    record {
      lies_in_span = omega (arith, from, to, b.0, b.1);
      ends_in_span = omega (arith, from, to, b.0, b.1);
      begins_before = omega (arith, from, b.0);
      ends_after = omega (arith, from, to, b.0, b.1);
      short = omega (arith, from, to, b.0, b.1);
    }

-- the pages of a reference are those of its addresses
pub reference_touches : ReferenceTouches
reference_touches address count some few = either (address / 512 == (address + count - 1) / 512) refl
  where
    first : ℕ
    first = address / 512

    either : (b : Bool) → address / 512 == (address + count - 1) / 512 ≡ b
        → IsTouched address count (if b then address / 512 ∷ [] else address / 512 ∷ (address + count - 1) / 512 ∷ [])
    either true e =
        let same = eqb-true (address / 512) ((address + count - 1) / 512) e in
        record {
          two_at_most = omega arith;
          ascending = (tt, tt);
          no_other = ((0, some, omega arith), tt);
          each = λ k l. inl (omega (arith, same, l));
        }
    either false e =
        let other = eqb-false (address / 512) ((address + count - 1) / 512) e in
        record {
          two_at_most = omega arith;
          ascending = ((omega (arith, other, some), tt), (tt, tt));
          no_other = ((0, some, omega arith), ((count - 1, omega (arith, some), omega (arith, some)), tt));
          each = λ k l. cases_of k l (cases_lt ((address + k) / 512) ((address + count - 1) / 512));
        }
      where
        cases_of : (k : ℕ) → k < count → ((address + k) / 512 < (address + count - 1) / 512) ⊎ ((address + count - 1) / 512 ≤ (address + k) / 512)
            → ((address / 512) ≡ (address + k) / 512) ⊎ ((((address + count - 1) / 512) ≡ (address + k) / 512) ⊎ ⊥)
        cases_of k l (inl m) = inl (omega (arith, m, l, few, some))
        cases_of k l (inr m) = inr (inl (omega (arith, m, l)))
