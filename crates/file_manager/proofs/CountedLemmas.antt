-- A halt for the disk comes where its faults rose.
use Rattle.std.proofs.Common.{◌≡◌, ◌≤◌, Result, Ok, Err, sym, ap, subst, arith}
use Rattle.labelled_disk.specs.declared.evidence.Evidence.{Evidence}
use Rattle.labelled_disk.specs.declared.evidence.Halt.{Halt}
use Rattle.labelled_disk.specs.declared.evidence.Halt.TheVariants.{Disk, Damaged}
use Rattle.labelled_disk.specs.Calls.{Rose}
use Rattle.labelled_disk.specs.State.{DiskState}
use Rattle.swapper_kernel.specs.HaltLaws.{rose_wider}
use Rattle.swapper_kernel.specs.Halts.{HasCause}

abbrev is_disk : Halt → Type 0
is_disk Disk = Unit {0}
is_disk (Damaged e) = ⊥

abbrev halt_in : {T : Type 0} → Result T Halt → Halt
halt_in (Ok x) = Disk
halt_in (Err e) = e

-- by the cause
pub rose_of : (shown : Evidence → Type 0) (old new : DiskState) (e : Halt) → HasCause shown old new e → e ≡ Disk → Rose old.faults new.faults
rose_of shown old new e cause same = subst (HasCause shown old new) same cause

-- after other calls
pub rose_after : (a b c : DiskState) {e : Halt} → a.faults ≤ b.faults → (e ≡ Disk → Rose b.faults c.faults) → e ≡ Disk → Rose a.faults c.faults
rose_after a b c later rose same = rose_wider a.faults b.faults c.faults c.faults later (omega arith) (rose same)

-- damage is no such halt
pub no_damage : {R : Type 0} (e : Evidence) → Damaged e ≡ Disk → R
no_damage e same = absurd (subst is_disk (sym same) tt)

-- an answer that is such a halt
pub of_answer : {T R : Type 0} (e : Halt) → (e ≡ Disk → R) → ◌≡◌ {A = Result T Halt} (Err e) (Err Disk) → R
of_answer e rose same = rose (ap halt_in same)
