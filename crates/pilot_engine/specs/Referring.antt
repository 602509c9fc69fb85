-- What a load or a store of up to a page does to a session that carries it out in place, without a reply.
use Rattle.std.specs.Prelude.{◌≡◌, ◌+◌, ◌<◌, ◌≤◌, ℕ, true, false, List, [], ◌∷◌, Some, Result, slice_get}
use Rattle.std.specs.Prelude.{IfOk, IfErr, IsOk, OnOk, OnErr}
use Rattle.labelled_disk.specs.declared.disk.Disk.{Ghosts}
use Rattle.labelled_disk.specs.declared.evidence.Halt.{Halt}
use Rattle.labelled_disk.specs.declared.evidence.Halt.TheVariants as halt
use Rattle.filer_kernel.specs.Fails.{Fails}
use Rattle.filer_kernel.specs.View.{FitsLayout}
use Rattle.flat_machine.specs.declared.call.Call.{Call}
use Rattle.flat_machine.specs.declared.call.Call.TheVariants as call
use Rattle.flat_machine.specs.declared.call.Reply.{Reply}
use Rattle.flat_machine.specs.declared.call.Reply.TheVariants as reply
use Rattle.flat_machine.specs.Allows.{Allows}
use Rattle.flat_machine.specs.declared.space.Space.{Space}
use Rattle.flat_machine.specs.Machine.{Machine}
use Rattle.file_manager.specs.Creating.{next_id}
use Rattle.fault_core.specs.declared.reference.Access.{Access}
use Rattle.fault_core.specs.declared.reference.Access.TheVariants as access
use Rattle.fault_core.specs.Core.{kept, state}
use Rattle.fault_core.specs.Lack.{MissesPage, Sees}
use Rattle.fault_core.specs.ReferenceLaws.{reply_to}
use Rattle.running_words.specs.Running.{Carried}
use Rattle.running_words.specs.Session.{IsOpen, WroteIn}
use Rattle.running_words.specs.Stages.{Passes, may_dirty}
use Rattle.pilot_engine.specs.declared.session.Session.{Session}
use Rattle.pilot_engine.specs.Advised.{IsAdvised}
use Rattle.pilot_engine.specs.Calls.{Stays}
use Rattle.pilot_engine.specs.Labels.{WritesPagesAlone}
use Rattle.pilot_engine.specs.Showing.{DirtiesShown}
use Rattle.pilot_engine.specs.Stepping.{IsResident, StepHalts, missing_page}

-- so many bytes are loaded or stored at once
abbrev pub IsAtOnce : ℕ → Type 0
IsAtOnce count = (1 ≤ count) × (count ≤ 512)

-- the machine allows each of the first bytes, so many, as the reply to a load of one byte from the address on
abbrev pub AreReplied : Machine → ℕ → ℕ → List ℕ → Type 0
AreReplied m address count bytes = (k b : ℕ) → k < count → slice_get bytes k ≡ Some b
    → Allows m (call.Load (address + k) 1) (reply.Bytes (b ∷ []))

module _ {D A : Type 0} {G : Ghosts D} where
  -- the disk has as many sectors as its layout, its root may be written, and no call has stopped the session
  pub record TakesCalls (s : Session D A G) : Type 0 where
    pub size : FitsLayout (state s.core)
    pub opened : IsOpen (state s.core).layout s.volume
    pub running : s.running ≡ true

  -- Of a session that stood for a machine: the machine allows what the call came to, with this reply where it was
  -- carried out, and the session stands for the machine after the call; or the disk failed. Each crash state of its
  -- writes has the settled files of a stage of the call. Where both pages were ready, the disk is left alone.
  pub record RefersIn (m : Machine) (call : Call) (plain : Reply) (old : Session D A G) (result : Result Access Halt)
      (new : Session D A G) : Type 0 where
    pub carried : IfOk result (λ a. Carried m call new.core new.volume (reply_to plain a))
    pub sound : IfErr result (λ e. e ≡ halt.Disk)
    pub passes : Passes m call (state old.core).disk (state new.core).disk
    pub idle : IsResident call (kept old.core) (state old.core).slots
        → IsOk result × ((state new.core).disk ≡ (state old.core).disk)

  -- Of every session, over any contents: how it fails and which pages it may miss; what was written, and by how many
  -- transfers; and what stays.
  pub record Refers (call : Call) (old : Session D A G) (result : Result Access Halt) (new : Session D A G)
      : Type 0 where
    pub fails : IfErr result
        (Fails (StepHalts (next_id old.volume.root) call old.core.intervals (state old.core) (state new.core))
        (state old.core) (state new.core))
    pub missing : (ss : List Space) → Sees (state old.core) (kept old.core) old.core.intervals ss
        → IfErr result (MissesPage (missing_page call ss))
    pub wrote : WroteIn (may_dirty call) (state old.core).disk (state old.core).slots
        (state new.core).disk (state new.core).slots
    pub shown : DirtiesShown call old new
    pub unlabelled : WritesPagesAlone (state old.core).disk (state new.core).disk
    pub ready : IfOk result (λ a. a ≡ access.Done
        → (ss : List Space) → IsAdvised ss call (kept new.core) (state new.core).slots)
    pub few : (state new.core).disk.transfers ≤ (state old.core).disk.transfers + 1680
    pub stays : Stays old new
    pub same_volume : new.volume ≡ old.volume
    pub goes_on : OnOk result (new.running ≡ true)
    pub halted : OnErr result (new.running ≡ false)
