-- What every call of a client does to a session, whatever the call.
use Rattle.std.specs.Prelude.{◌≡◌, ◌≢◌, ◌≤◌, ℕ, true, false, Some, IfOk, IfErr, OnOk, MatchResult, Result}
use Rattle.labelled_disk.specs.declared.disk.Disk.{Ghosts}
use Rattle.labelled_disk.specs.declared.evidence.Halt.{Halt}
use Rattle.labelled_disk.specs.declared.evidence.Halt.TheVariants as halt
use Rattle.flat_machine.specs.declared.call.Call.{Call}
use Rattle.flat_machine.specs.declared.call.Reply.{Reply}
use Rattle.flat_machine.specs.Machine.{Machine}
use Rattle.labelled_disk.specs.File.{File, file_at}
use Rattle.fault_core.specs.Core.{state}
use Rattle.fault_core.specs.Reach.{BringsOwn}
use Rattle.file_manager.specs.Creating.{next_id}
use Rattle.file_manager.specs.Reasons.{InitialState, KeepsOn, ShowsReason}
use Rattle.file_manager.specs.Synced.{LabelsAfterSync}
use Rattle.running_words.specs.Bound.{CostsOther}
use Rattle.running_words.specs.Running.{Carried}
use Rattle.running_words.specs.Session.{IsOpen}
use Rattle.running_words.specs.Stages.{Passes}
use Rattle.pilot_engine.specs.declared.session.Session.{Session}
use Rattle.pilot_engine.specs.Sparing.{Spares}
use Rattle.pilot_engine.specs.Stepping.{brings_clients, relabels, resizes}
use Rattle.pilot_engine.specs.Reasons.{IsBlameless, NeverBlamesEnd, SeesHome}

module _ {D A : Type 0} {G : Ghosts D} where
  -- The session stood for the machine: the reply is allowed, and the session stands for the machine after the call; the one halt
  -- is a fault of the disk; each crash state between is one of the call; no page of a client's file came into a frame by a call that
  -- goes on, but by one that brings such pages in; and the transfers are bounded.
  pub record Answers (m : Machine) (call : Call) (old new : Session D A G) (result : Result Reply Halt) : Type 0 where
    pub carried : IfOk result (Carried m call new.core new.volume)
    pub sound : IfErr result (λ e. e ≡ halt.Disk)
    pub passes : Passes m call (state old.core).disk (state new.core).disk
    pub came : brings_clients call ≡ false → OnOk result (BringsOwn (state old.core).slots (state new.core).slots)
    pub cost : CostsOther (state old.core).disk (state new.core).disk

  -- The session is open with the layout and the serial that it had, and gives no identifier out again.
  pub record Stays (old new : Session D A G) : Type 0 where
    pub open_still : IsOpen (state new.core).layout new.volume
    pub monotone : next_id old.volume.root ≤ next_id new.volume.root
    pub serial : new.volume.root.serial ≡ old.volume.root.serial
    pub layout : (state new.core).layout ≡ (state old.core).layout

  -- The session kept to this initial state: it keeps to the later one, or the halt has its reason in the first, and blames nothing
  -- that was in form.
  pub record Accounts {T : Type 0} (o later : InitialState) (old new : Session D A G) (result : Result T Halt) : Type 0 where
    pub keeps_to : OnOk result (KeepsOn later new.core.filer)
    pub reasons : IfErr result (ShowsReason o (state old.core).layout (state new.core).disk)
    pub sees : SeesHome o old.core → MatchResult result (λ _. SeesHome o new.core) (IsBlameless o (state new.core).disk)

  -- the same of a call of an end, which blames no page of the space tables
  pub record AccountsEnd {T : Type 0} (o later : InitialState) (old new : Session D A G) (result : Result T Halt) : Type 0 where
    pub keeps_to : OnOk result (KeepsOn later new.core.filer)
    pub reasons : IfErr result (ShowsReason o (state old.core).layout (state new.core).disk)
    pub sees : SeesHome o old.core → MatchResult result (λ _. SeesHome o new.core) (NeverBlamesEnd o (state new.core).disk)

  -- A file whose leaders are all permanent has the labels that it had, unless the call frees pages of it or marks it, or gives a new file
  -- its identifier.
  abbrev pub SparesOthers : Call → Session D A G → Session D A G → Type 0
  SparesOthers call old new = (id : ℕ) → 16 ≤ id → relabels call ≢ Some id → next_id old.volume.root ≢ id → Spares id (state old.core).disk (state new.core).disk

  -- Where the call gives a permanent file another size, each label that it writes comes after a sync of the call.
  abbrev pub ResizesAfterSync : Machine → Call → Session D A G → Session D A G → Type 0
  ResizesAfterSync m call old new = (id : ℕ) (f : File) → resizes call ≡ Some id → file_at m.files id ≡ Some f → f.permanent ≡ true
      → LabelsAfterSync (state old.core).disk (state new.core).disk
