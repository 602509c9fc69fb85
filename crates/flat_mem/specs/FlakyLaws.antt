-- Laws of a memory that may fail.
use Rattle.std.specs.Prelude.{ℕ, ◌≤◌}
use Rattle.std.proofs.Common.{refl, ◌∙◌, arith}
use Rattle.flat_mem.specs.Rises.{Rose}
use Rattle.flat_mem.specs.declared.flaky.FlakyMem.{FlakyMem}
use Rattle.flat_mem.specs.Flaky.{IsLater}

module _ {A : Type 0} where
  pub later_itself : (a : FlakyMem A) → IsLater a a
  later_itself a = record { size = refl; period = refl; faults = omega arith }

  pub later_through : (a b c : FlakyMem A) → IsLater a b → IsLater b c → IsLater a c
  later_through a b c h k = record { size = h.size ∙ k.size; period = h.period ∙ k.period; faults = omega (arith, h.faults, k.faults) }

pub rose_wider : (a b c d : ℕ) → a ≤ b → c ≤ d → Rose b c → Rose a d
rose_wider a b c d h k rose = omega (arith, rose)
