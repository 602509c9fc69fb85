-- What one call does to a session.
use Rattle.std.specs.Prelude.{◌≡◌, ◌≤◌, ◌+◌, true, None, Result, Err, IfOk, IfErr, OnOk}
use Rattle.labelled_disk.specs.Calls.{Rose}
use Rattle.labelled_disk.specs.declared.disk.Disk.{Ghosts}
use Rattle.labelled_disk.specs.declared.evidence.Halt.{Halt}
use Rattle.labelled_disk.specs.declared.evidence.Halt.TheVariants as halt
use Rattle.filer_kernel.specs.Evidence.{ShowsEvidence}
use Rattle.flat_machine.specs.declared.call.Call.{Call}
use Rattle.flat_machine.specs.declared.call.Reply.{Reply}
use Rattle.flat_machine.specs.Machine.{Machine}
use Rattle.flat_machine.specs.References.{is_reference}
use Rattle.flat_machine.specs.Refusal.{refusal}
use Rattle.running_words.specs.Bound.{CostsOther}
use Rattle.running_words.specs.Running.{Carried, Runs}
use Rattle.running_words.specs.Stages.{Passes}
use Rattle.pilot_engine.specs.declared.session.Session.{Session}
use Rattle.pilot_engine.specs.Stepping.{waits}
use Rattle.fault_core.specs.Core.{state}
use Rattle.embedded.specs.Later.{Later}

module _ {D A : Type 0} {G : Ghosts D} where
  -- the reply and the session after it, of a session that stood for a machine; and what is so of every session
  pub record Stepped (call : Call) (old : Session D A G) (result : Result Reply Halt) (new : Session D A G)
      : Type 0 where
    pub carried : (m : Machine) → Runs old.core old.volume m → IfOk result (Carried m call new.core new.volume)
    pub sound : (m : Machine) → Runs old.core old.volume m → IfErr result (λ e. e ≡ halt.Disk)
    pub passes : (m : Machine) → Runs old.core old.volume m
        → Passes m call (state old.core).disk (state new.core).disk
    pub forced : (m : Machine) → waits call ≡ true → refusal m call ≡ None → Runs old.core old.volume m
        → OnOk result ((state new.core).disk.synced ≡ true)
    pub counted : result ≡ Err halt.Disk
        → Rose (state old.core).disk.faults (state new.core).disk.faults
    pub evidence_seen : IfErr result (ShowsEvidence (state new.core).disk)
    pub goes_on : OnOk result (new.running ≡ true)
    pub later : Later (state old.core).disk (state new.core).disk
    pub cost : (m : Machine) → Runs old.core old.volume m → CostsOther (state old.core).disk (state new.core).disk
    pub few : is_reference call ≡ true → (state new.core).disk.transfers ≤ (state old.core).disk.transfers + 1680
