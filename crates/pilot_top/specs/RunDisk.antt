-- A disk as a run ends on it: pages may wait before it, and it may have met a label that had changed.
use Rattle.std.specs.Prelude.{◌≡◌, ℕ, false, Option, Some, None, Result}
use Rattle.std.proofs.lemmas.Option.{none-some, same_Some}
use Rattle.std.proofs.Common.{refl, sym}
use Rattle.labelled_disk.specs.declared.disk.Disk.{Ghosts}
use Rattle.labelled_disk.specs.declared.disk.DiskError.{DiskError}
use Rattle.labelled_disk.specs.declared.evidence.Evidence.{Evidence}
use Rattle.labelled_disk.specs.declared.evidence.Evidence.TheVariants.{Mismatch}
use Rattle.labelled_disk.specs.declared.evidence.Halt.{Halt}
use Rattle.labelled_disk.specs.declared.evidence.Halt.TheVariants as halt
use Rattle.labelled_disk.specs.declared.label.Label.{Label}
use Rattle.labelled_disk.specs.declared.label.Wanted.{Wanted}
use Rattle.labelled_disk.specs.Calls.{FailsWith, RevealsSame}
use Rattle.labelled_disk.specs.Label.{names}
use Rattle.labelled_disk.specs.State.{DiskState}
use Rattle.filer_kernel.specs.Evidence.{IsEvident}
use Rattle.swapper_kernel.specs.Goes.{Went}
use Rattle.pilot_engine.specs.declared.fault.StartFault.{StartFault}
use Rattle.pilot_engine.specs.declared.fault.StartFault.TheVariants as start_fault
use Rattle.write_queue.specs.declared.run_queue.RunQueue.{RunQueue}
use Rattle.write_queue.specs.ChangedLaws.{changed_differs, changed_unrevealed}
use Rattle.write_queue.specs.RunQueue.{changed_by, run_state}

-- the evidence is a label that doesn't name the page that was to be written there
pub record IsChange (e : Evidence) : Type 0 where
  pub sector : ℕ
  pub wanted : Wanted
  pub found : Label
  pub is : e ≡ Mismatch sector wanted found
  pub other : names found wanted ≡ false

-- What waited is brought to the medium, or it fails: the disk reveals the same, and no transfer more was made by calls that name a sector.
pub record Rests (old : DiskState) (result : Result (Unit {0}) DiskError) (new : DiskState) : Type 0 where
  pub same : RevealsSame old new
  pub went : Went old new
  pub transfers : new.transfers ≡ old.transfers
  pub fails : FailsWith result old new

-- a run is stopped so, where a label that had changed is shown: by that
abbrev pub halt_on : Option Evidence → Halt → Halt
halt_on (Some e) why = halt.Damaged e
halt_on None why = why

-- and so, where no session started
abbrev pub fault_on : Option Evidence → StartFault → StartFault
fault_on shown (start_fault.Halt why) = start_fault.Halt (halt_on shown why)
fault_on shown (start_fault.Root why) = start_fault.Root why
fault_on shown start_fault.NoMemory = start_fault.NoMemory

-- the evidence is the change that is shown; or where none is, it is so of the disk, and has its reason
abbrev pub HasSeen : Option Evidence → DiskState → (Evidence → Type 0) → Evidence → Type 0
HasSeen (Some f) disk reasoned e = f ≡ e
HasSeen None disk reasoned e = IsEvident disk e × reasoned e

-- what a changed label shows
abbrev pub shown_of : Option (ℕ × Wanted × Label) → Option Evidence
shown_of (Some change) = Some (Mismatch change.0 change.1 change.2)
shown_of None = None

-- The laws of the disks below.

pub never_shown : {P : Type 0} (e : Evidence) → ◌≡◌ {A = Option Evidence} None (Some e) → P
never_shown e is = absurd (none-some e is)

module _ {D A : Type 0} {G : Ghosts D} where
  pub change_shown : (q : RunQueue D A G) (e : Evidence) → shown_of (changed_by q) ≡ Some e → IsChange e × ((run_state q).contents ≡ None)
  change_shown q e shown = by (changed_by q) refl shown
    where
      by : (o : Option (ℕ × Wanted × Label)) → changed_by q ≡ o → shown_of o ≡ Some e → IsChange e × ((run_state q).contents ≡ None)
      by None is none = absurd (none-some e none)
      by (Some c) is some = (
        record { sector = c.0; wanted = c.1; found = c.2; is = sym (same_Some (Mismatch c.0 c.1 c.2) e some); other = changed_differs q c is },
        changed_unrevealed q c is,
      )
