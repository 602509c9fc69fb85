-- Halts for the disk of a result that is handed on, and the faults that were counted.
use Rattle.std.proofs.Common.{◌≡◌, ℕ, ◌≤◌, Ok, Err, Result, ap, arith}
use Rattle.labelled_disk.specs.declared.evidence.Halt.{Halt}
use Rattle.labelled_disk.specs.declared.evidence.Halt.TheVariants as halt
use Rattle.labelled_disk.specs.Calls.{Rose}

abbrev halt_in : {T : Type 0} → Result T Halt → Halt
halt_in (Ok x) = halt.Disk
halt_in (Err e) = e

-- none is taken back, after a call whose halt has counted one
pub counted_after : {T : Type 0} {e : Halt} (a b c : ℕ) → a ≤ b → (e ≡ halt.Disk → Rose b c) → ◌≡◌ {A = Result T Halt} (Err e) (Err halt.Disk) → Rose a c
counted_after {T = T} a b c less rose is = let later = rose (ap (halt_in {T = T}) is) in omega (arith, less, later)

-- the same of a result
pub counted_then : {S T : Type 0} {e : Halt} (a b c : ℕ) → a ≤ b → (◌≡◌ {A = Result S Halt} (Err e) (Err halt.Disk) → Rose b c) → ◌≡◌ {A = Result T Halt} (Err e) (Err halt.Disk) → Rose a c
counted_then a b c less rose is = counted_after a b c less (λ same. rose (ap (λ (h : Halt). Err h) same)) is
