-- How a call on spaces fails, said of the halt alone.
use Rattle.std.specs.Prelude.{◌≡◌, List, Result, Err, IfErr}
use Rattle.std.proofs.Common.{ap}
use Rattle.labelled_disk.specs.declared.disk.Disk.{Ghosts}
use Rattle.labelled_disk.specs.declared.evidence.Halt.{Halt}
use Rattle.labelled_disk.specs.declared.evidence.Halt.TheVariants as halt
use Rattle.labelled_disk.specs.Calls.{Rose}
use Rattle.flat_machine.specs.declared.space.Space.{Space}
use Rattle.swapper_kernel.specs.Goes.{Pages}
use Rattle.filer_kernel.specs.Fails.{Fails}
use Rattle.filer_kernel.specs.FailsLaws.{if_fails}
use Rattle.fault_core.specs.declared.core_over.Core.{Core}
use Rattle.fault_core.specs.Core.{state}
use Rattle.space_calls.specs.Outcomes.{HaltsBy, HaltsToBring}

module _ {D A : Type 0} {G : Ghosts D} {T : Type 0} {why : Halt → Type 0} {old new : Core D A G} {r : Result T Halt} where
  pub halted : HaltsBy why old new r → IfErr r (Fails why (state old) (state new))
  halted h = if_fails why (state old) (state new) r h.cause h.counted h.evidence_seen

  pub halted_bringing : {pages : List Space → Pages} → HaltsToBring why pages old new r → IfErr r (Fails why (state old) (state new))
  halted_bringing h = if_fails why (state old) (state new) r h.cause h.counted h.evidence_seen

module _ {D A : Type 0} {G : Ghosts D} {T : Type 0} {old new : Core D A G} {e : Halt} where
  -- of one that waited for the disk alone
  pub waited_rose : HaltsBy {T = T} (λ x. x ≡ halt.Disk) old new (Err e) → Rose (state old).disk.faults (state new).disk.faults
  waited_rose h = h.counted (ap failed h.cause)
    where
      failed : Halt → Result T Halt
      failed x = Err x
