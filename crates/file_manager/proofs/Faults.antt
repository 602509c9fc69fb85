-- Halts for the disk, and the faults that were counted.
use Rattle.std.proofs.Common.{◌≡◌, ℕ, ◌≤◌, subst, arith}
use Rattle.labelled_disk.specs.declared.evidence.Evidence.{Evidence}
use Rattle.labelled_disk.specs.declared.evidence.Halt.{Halt}
use Rattle.labelled_disk.specs.declared.evidence.Halt.TheVariants as halt
use Rattle.labelled_disk.specs.Calls.{Rose}
use Rattle.labelled_disk.specs.State.{DiskState}
use Rattle.swapper_kernel.specs.Halts.{HasCause}

-- by its cause, after other calls
pub counted : (shown : Evidence → Type 0) (before : ℕ) (old new : DiskState) (e : Halt) → before ≤ old.faults → HasCause shown old new e → e ≡ halt.Disk → Rose before new.faults
counted shown before old new e less cause is = let rose = subst (HasCause shown old new) is cause in omega (arith, less, rose)

-- evidence is no fault
pub no_fault : {P : Type 0} {evidence : Evidence} → halt.Damaged evidence ≡ halt.Disk → P
no_fault is = absurd (subst at is tt)
  where
    at : Halt → Type 0
    at halt.Disk = ⊥
    at (halt.Damaged e) = Unit {0}

-- none is taken back
pub counted_then : {e : Halt} (a b c : ℕ) → a ≤ b → (e ≡ halt.Disk → Rose b c) → e ≡ halt.Disk → Rose a c
counted_then a b c less rose is = let later = rose is in omega (arith, less, later)
