use Rattle.std.proofs.Common.{◌≡◌, ℕ, zero, suc, ◌<◌, drop, length, get_or, List, [], ◌∷◌, None, Some, true, false, refl, arith, add-one, sym, ◌∙◌}
use Rattle.std.specs.Prelude.{is_some}
use Rattle.flat_machine.specs.Refusal.{first_of, Test}
use Rattle.slow_machine.proofs.refuse.first_of.Goals as goal

skip_none : (tests : List Test) (i : ℕ) → i < length tests → is_some (get_or tests i None) ≡ false → first_of (drop (suc i) tests) ≡ first_of (drop i tests)
skip_none [] i h e = absurd (omega arith)
skip_none (None ∷ tests) zero h e = refl
skip_none (Some word ∷ tests) zero h e = absurd (cc)
skip_none (test ∷ tests) (suc i) h e = skip_none tests i (omega arith) e

pub loop-test-preserved : goal.loop-test-preserved
loop-test-preserved c =
    rw add-one (skip_none c.args.tests.now c.loop-test.test-index c.loop-test-test.true (sym c.is_some.ensures ∙ c.if-is_some.false) ∙ c.loop-test.invariant)
