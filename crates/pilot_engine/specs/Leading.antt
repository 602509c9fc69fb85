-- What one call of clients that wait leads a session to, whether it is tried or carried out.
use Rattle.std.specs.Prelude.{◌≡◌, ◌⊎◌, ◌+◌, ◌≤◌, ℕ, true}
use Rattle.labelled_disk.specs.declared.disk.Disk.{Ghosts}
use Rattle.flat_machine.specs.declared.call.Call.{Call}
use Rattle.flat_machine.specs.Machine.{Machine}
use Rattle.flat_machine.specs.Next.{next}
use Rattle.flat_machine.specs.References.{is_reference}
use Rattle.flight_core.specs.Carrying.{Carried, Tries, Steps}
use Rattle.file_manager.specs.Creating.{next_id}
use Rattle.file_manager.specs.Reasons.{IsNotOlder, InitialState, KeepsOn, giving}
use Rattle.fault_core.specs.Core.{state}
use Rattle.running_words.specs.Bound.{CostsOther}
use Rattle.running_words.specs.Running.{Runs}
use Rattle.running_words.specs.Session.{WroteIn}
use Rattle.running_words.specs.Stages.{Passes, may_dirty}
use Rattle.pilot_engine.specs.declared.session.Session.{Session}
use Rattle.pilot_engine.specs.Calls.{Stays}
use Rattle.pilot_engine.specs.Reasons.{SeesHome}
use Rattle.pilot_engine.specs.Referring.{TakesCalls}

abbrev pub call_of : Carried → Call
call_of (Tries call) = call
call_of (Steps call) = call

-- how many transfers a load or a store makes so, at most
abbrev pub reference_bound : Carried → ℕ
reference_bound (Tries call) = 392
reference_bound (Steps call) = 1680

module _ {D A : Type 0} {G : Ghosts D} where
  -- The later session keeps to each initial state to which the earlier one kept, with what was given out since; and it has seen what that
  -- one had.
  abbrev pub KeepsTo : Session D A G → Session D A G → Type 0
  KeepsTo old new = (o : InitialState) → KeepsOn o old.core.filer → IsNotOlder o old.volume.root
      → KeepsOn (giving o (next_id new.volume.root)) new.core.filer × (SeesHome o old.core → SeesHome o new.core)

  -- A session that took calls was led by one. Where a machine was stood for, the session stands for it or for its next where it goes on, each
  -- crash state between is one of the call, and the transfers are bounded. Over any contents: what was written, the transfers of a load or a
  -- store, what stays, and to which initial states it keeps where it goes on.
  pub record Leads (old : Session D A G) (one : Carried) (new : Session D A G) : Type 0 where
    pub ran : TakesCalls old
    pub stands : (m : Machine) → Runs old.core old.volume m → new.running ≡ true → Runs new.core new.volume m ⊎ Runs new.core new.volume (next m (call_of one))
    pub cost : (m : Machine) → Runs old.core old.volume m → CostsOther (state old.core).disk (state new.core).disk
    pub passes : (m : Machine) → Runs old.core old.volume m → Passes m (call_of one) (state old.core).disk (state new.core).disk
    pub wrote : WroteIn (may_dirty (call_of one)) (state old.core).disk (state old.core).slots (state new.core).disk (state new.core).slots
    pub few : is_reference (call_of one) ≡ true → (state new.core).disk.transfers ≤ (state old.core).disk.transfers + reference_bound one
    pub stays : Stays old new
    pub keeps_to : new.running ≡ true → KeepsTo old new
