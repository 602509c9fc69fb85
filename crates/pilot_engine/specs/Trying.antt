-- A call that brings in no page of a client's file.
use Rattle.std.specs.Prelude.{◌≡◌, ◌+◌, ◌≤◌, ℕ, true, false, length, None, Some, Result, Ok, Err, IfOk, IfErr, OnOk}
use Rattle.labelled_disk.specs.declared.disk.Disk.{Ghosts}
use Rattle.labelled_disk.specs.Calls.{Rose}
use Rattle.labelled_disk.specs.declared.evidence.Halt.{Halt}
use Rattle.labelled_disk.specs.declared.evidence.Halt.TheVariants as halt
use Rattle.filer_kernel.specs.Evidence.{ShowsEvidence}
use Rattle.filer_kernel.specs.Fails.{Fails}
use Rattle.filer_kernel.specs.View.{View}
use Rattle.label_calls.specs.Synced.{SyncsLeaders}
use Rattle.flat_machine.specs.declared.call.Call.{Call}
use Rattle.flat_machine.specs.declared.call.Call.TheVariants as call
use Rattle.flat_machine.specs.declared.call.Reply.{Reply}
use Rattle.flat_machine.specs.Machine.{Machine}
use Rattle.flat_machine.specs.References.{is_reference}
use Rattle.flat_machine.specs.Refusal.{refusal}
use Rattle.flight_core.specs.declared.stepped.Tried.{Tried}
use Rattle.flight_core.specs.declared.stepped.Tried.TheVariants as tried
use Rattle.flight_core.specs.Tried.{ComesBy, IsTried, MayBeTried, after_tried}
use Rattle.file_manager.specs.Creating.{next_id}
use Rattle.file_manager.specs.Reasons.{InitialState, IsNotOlder, KeepsOn, ShowsReason}
use Rattle.fault_core.specs.declared.attempt.Attempt.{Attempt}
use Rattle.fault_core.specs.declared.attempt.Attempt.TheVariants as attempt
use Rattle.fault_core.specs.Access.{BreaksFor}
use Rattle.fault_core.specs.Attempt.{IsPresent}
use Rattle.fault_core.specs.Core.{kept, state}
use Rattle.fault_core.specs.Reach.{BringsOwn, ReachHalts}
use Rattle.fault_core.specs.ReferenceLaws.{reply_to}
use Rattle.fault_core.specs.Room.{KeepsWhileEmpty, PagesStayOrYield}
use Rattle.running_words.specs.Bound.{CostsOther}
use Rattle.running_words.specs.Running.{Runs}
use Rattle.running_words.specs.Session.{WroteIn}
use Rattle.running_words.specs.Stages.{Passes, may_dirty}
use Rattle.space_calls.specs.Ranges.{BreaksRange}
use Rattle.pilot_engine.specs.declared.session.Session.{Session}
use Rattle.pilot_engine.specs.Advised.{IsAdvised}
use Rattle.pilot_engine.specs.Calls.{SparesOthers, Stays}
use Rattle.pilot_engine.specs.Labels.{WritesPagesAlone, keeps_labels}
use Rattle.pilot_engine.specs.Reasons.{IsBlameless, SeesHome}
use Rattle.pilot_engine.specs.Writing.{WritesAllowed}
use Rattle.pilot_engine.specs.Stepping.{StepHalts, brings_clients, waits, writes_leader}

-- what an attempt comes to, with this reply where the bytes were moved
abbrev pub tried_as : Reply → Attempt → Tried
tried_as plain (attempt.Access access) = tried.Reply (reply_to plain access)
tried_as plain (attempt.Absent page) = tried.Absent page

-- what a call comes to that was carried out
abbrev pub replied_as : Result Reply Halt → Result Tried Halt
replied_as (Ok reply) = Ok (tried.Reply reply)
replied_as (Err halt) = Err halt

-- why such a call stops the session: a load and a store ask the tables alone, and a space that is to be brought in is looked up
abbrev pub TryHalts : ℕ → Call → ℕ → View → View → Halt → Type 0
TryHalts new (call.Load address bytes) count v w e = ReachHalts (BreaksFor v count address bytes) v w e
TryHalts new (call.Store address bytes) count v w e = ReachHalts (BreaksFor v count address (length bytes)) v w e
TryHalts new (call.Activate space) count v w e = ReachHalts (BreaksRange v count space) v w e
TryHalts new other count v w e = StepHalts new other count v w e

module _ {D A : Type 0} {G : Ghosts D} where
  -- the session stands for the machine
  abbrev pub StandsAs : Session D A G → Machine → Type 0
  StandsAs s m = Runs s.core s.volume m

  -- a frame has the page of a file that a window of the machine shows there
  abbrev pub HasResident : Session D A G → Machine → ℕ → Type 0
  HasResident s m page = IsPresent m.spaces (state s.core).slots page

  -- Of a session that stood for a machine: what the call came to is so, and each page that is resident afterwards was so before, or is one
  -- of a space that the call mapped; the one halt is a fault of the disk; and each crash state between is one of the call. Where the call
  -- goes on, no page of a client's file came into a frame, and the frames show what another call than a load, a store and the bringing in of a
  -- space leaves in them; what such a call waits for is on the medium. The transfers are bounded.
  pub record TriesIn (m : Machine) (call : Call) (old : Session D A G) (result : Result Tried Halt) (new : Session D A G) : Type 0 where
    pub tried : IfOk result (λ t. IsTried m call t (StandsAs new) (HasResident new))
    pub quiet : IfOk result (λ t. ComesBy m call (HasResident old m) (HasResident new (after_tried m call t)))
    pub sound : IfErr result (λ e. e ≡ halt.Disk)
    pub passes : Passes m call (state old.core).disk (state new.core).disk
    pub came : OnOk result (BringsOwn (state old.core).slots (state new.core).slots)
    pub advised : brings_clients call ≡ false → refusal m call ≡ None
        → OnOk result (IsAdvised m.spaces call (kept new.core) (state new.core).slots)
    pub forced : waits call ≡ true → refusal m call ≡ None → OnOk result ((state new.core).disk.synced ≡ true)
    pub cost : CostsOther (state old.core).disk (state new.core).disk

  -- Of every session, over any contents: a page is absent only for a load or a store; how it fails; what was written, and what stays. A load or
  -- a store moves so many sectors; no page leaves by it while a slot is empty, and the slot of one that leaves has a page of the file map or of
  -- the space tables then.
  pub record Tries (call : Call) (old : Session D A G) (result : Result Tried Halt) (new : Session D A G) : Type 0 where
    pub absent : IfOk result (MayBeTried call)
    pub fails : IfErr result
        (Fails (TryHalts (next_id old.volume.root) call old.core.intervals (state old.core) (state new.core))
        (state old.core) (state new.core))
    pub wrote : WroteIn (may_dirty call) (state old.core).disk (state old.core).slots
        (state new.core).disk (state new.core).slots
    pub few : is_reference call ≡ true → (state new.core).disk.transfers ≤ (state old.core).disk.transfers + 392
    pub room : is_reference call ≡ true → KeepsWhileEmpty (state old.core).slots (state new.core).slots
    pub stay : is_reference call ≡ true → PagesStayOrYield (state old.core).slots (state new.core).slots
    pub stays : Stays old new

  -- Of every session, over any contents, labels are written as by a call that brings in what it needs. It writes what it may, other files are
  -- spared, a leader's is written between two waits for the medium, and a call that changes no file, as a load or a store, writes pages alone.
  pub record WritesLabels (call : Call) (old : Session D A G) (result : Result Tried Halt) (new : Session D A G) : Type 0 where
    pub own : WritesAllowed call old new result
    pub spares : SparesOthers call old new
    pub around : writes_leader call ≡ true → SyncsLeaders result (state old.core).disk (state new.core).disk
    pub unlabelled : keeps_labels call ≡ true → WritesPagesAlone (state old.core).disk (state new.core).disk

  -- A halt between two states of a session: it is a fault of the disk only where one was counted, and its evidence is so of the later disk. For
  -- each initial state that the earlier session kept to, it has its reason in that, and blames nothing that was in form.
  pub record IsAccounted (old new : Session D A G) (e : Halt) : Type 0 where
    pub counted : e ≡ halt.Disk → Rose (state old.core).disk.faults (state new.core).disk.faults
    pub evidence_seen : ShowsEvidence (state new.core).disk e
    pub reasons : (o : InitialState) → KeepsOn o old.core.filer → IsNotOlder o old.volume.root
        → ShowsReason o (state old.core).layout (state new.core).disk e
    pub blameless : (o : InitialState) → KeepsOn o old.core.filer → IsNotOlder o old.volume.root → SeesHome o old.core
        → IsBlameless o (state new.core).disk e
