-- How a call of a session ends, a client's and one that it makes inside: how it fails, what it wrote and what stays, what it keeps to, and what it
-- did to the machine that the session stood for.
use Rattle.std.specs.Prelude.{◌≡◌, ℕ, true, false, List, [], None, Result, IfOk, IfErr, IsOk, OnOk, OnErr, MatchResult}
use Rattle.labelled_disk.specs.declared.disk.Disk.{Ghosts}
use Rattle.labelled_disk.specs.declared.evidence.Halt.{Halt}
use Rattle.labelled_disk.specs.declared.evidence.Halt.TheVariants as halt
use Rattle.labelled_disk.specs.Sectors.{Sector}
use Rattle.labelled_disk.specs.State.{DiskState}
use Rattle.flat_machine.specs.declared.call.Call.{Call}
use Rattle.flat_machine.specs.declared.call.Reply.{Reply}
use Rattle.flat_machine.specs.declared.space.Space.{Space}
use Rattle.flat_machine.specs.Machine.{Machine}
use Rattle.flat_machine.specs.Refusal.{refusal}
use Rattle.label_calls.specs.Synced.{SyncsLeaders}
use Rattle.filer_kernel.specs.Fails.{Fails}
use Rattle.filer_kernel.specs.View.{FitsLayout, MakesOnly, View}
use Rattle.session_words.specs.Parts.{TablesMeaning}
use Rattle.session_words.specs.Volume.{volume_page}
use Rattle.file_manager.specs.Creating.{next_id}
use Rattle.file_manager.specs.Reasons.{InitialState, KeepsBare, KeepsOn, ShowsReason, giving}
use Rattle.fault_core.specs.Core.{kept, state}
use Rattle.fault_core.specs.Lack.{MissesPage, Sees}
use Rattle.fault_core.specs.Reach.{BringsOwn, Reaches}
use Rattle.running_words.specs.Running.{Runs}
use Rattle.running_words.specs.Session.{Carries, IsAlone, IsOpen, IsSession, Wrote, WroteIn}
use Rattle.running_words.specs.Stages.{Passes, may_dirty}
use Rattle.space_calls.specs.Sees.{SeesOn, StillOnOr, StillSees}
use Rattle.pilot_engine.specs.declared.session.Session.{Session}
use Rattle.pilot_engine.specs.Advised.{IsAdvised}
use Rattle.pilot_engine.specs.Calls.{Accounts, Answers, ResizesAfterSync, SparesOthers, Stays}
use Rattle.pilot_engine.specs.Closing.{Shed, Throughout}
use Rattle.pilot_engine.specs.Labels.{WritesPagesAlone, keeps_labels}
use Rattle.pilot_engine.specs.Reasons.{IsBlameless, NeverBlamesEnd, SeesHome}
use Rattle.pilot_engine.specs.Showing.{DirtiesShown, mapped_by}
use Rattle.pilot_engine.specs.Sparing.{SparesBut}
use Rattle.pilot_engine.specs.Stepping.{IsResident, StepHalts, missing_page, waits, writes_leader}
use Rattle.pilot_engine.specs.Writing.{Clears, FileMay, WritesAllowed, Written}

-- ---- How it fails, over any contents.

-- The halt has this cause, from the one state to the other. It is a fault of the disk only where one was counted, and its evidence of damage
-- is so of the later disk.
abbrev pub FailsSo : {T : Type 0} → (View → View → Halt → Type 0) → View → View → Result T Halt → Type 0
FailsSo why v w result = IfErr result (Fails (why v w) v w)

module _ {D A : Type 0} {G : Ghosts D} where
  -- so it is from the session at the start of the call to the one at its end
  abbrev pub FailsBy : {T : Type 0} → (View → View → Halt → Type 0) → Session D A G → Session D A G → Result T Halt → Type 0
  FailsBy why old new result = FailsSo why (state old.core) (state new.core) result

  -- ---- What it needs.

  -- the disk has as many sectors as its layout, and the root of the volume may be written
  pub record IsSetUp (s : Session D A G) : Type 0 where
    pub size : FitsLayout (state s.core)
    pub opened : IsOpen (state s.core).layout s.volume

  -- ---- What stays.

  -- The session stays, and it runs as before.
  pub record Remains (old new : Session D A G) : Type 0 where
    pub stays : Stays old new
    pub running : new.running ≡ old.running

  -- The session stays, and it runs until a call halts.
  pub record RunsUntilHalt {T : Type 0} (old new : Session D A G) (result : Result T Halt) : Type 0 where
    pub stays : Stays old new
    pub goes_on : OnOk result (new.running ≡ true)
    pub halted : OnErr result (new.running ≡ false)

  -- The session stays, running as it was, and what is known of the space tables stays.
  pub record RemainsInside (old new : Session D A G) : Type 0 where
    pub stays : Stays old new
    pub running : new.running ≡ old.running
    pub kept : kept new.core ≡ kept old.core
    pub intervals : new.core.intervals ≡ old.core.intervals

  -- The call only looked: pages came and went, and nothing else. Those that came are of the maps and of the space tables.
  pub record LooksOn (old new : Session D A G) : Type 0 where
    pub reaches : Reaches (state old.core) (state new.core)
    pub came : BringsOwn (state old.core).slots (state new.core).slots
    pub makes : MakesOnly volume_page [] (state old.core) (state new.core)
    pub layout : (state new.core).layout ≡ (state old.core).layout
    pub volume : new.volume ≡ old.volume
    pub running : new.running ≡ old.running
    pub intervals : new.core.intervals ≡ old.core.intervals

  -- ---- What it wrote.

  -- The writes were permitted, no page but the volume's own became dirty, and no label was written.
  pub record WritesPages (old new : Session D A G) : Type 0 where
    pub wrote : Wrote (state old.core).disk (state old.core).slots (state new.core).disk (state new.core).slots
    pub unlabelled : WritesPagesAlone (state old.core).disk (state new.core).disk

  -- The writes were permitted, and no page but the volume's own became dirty. Each is one that the call may make, and these files are spared.
  pub record WritesFile (call : Call) (spared : DiskState → DiskState → Type 0) (old new : Session D A G) : Type 0 where
    pub wrote : Wrote (state old.core).disk (state old.core).slots (state new.core).disk (state new.core).slots
    pub own : Written (FileMay call) (state old.core).disk (state new.core).disk
    pub spares : spared (state old.core).disk (state new.core).disk

  -- The same of a call that makes a file.
  pub record WritesNew {T : Type 0} (call : Call) (old new : Session D A G) (result : Result T Halt) : Type 0 where
    pub wrote : Wrote (state old.core).disk (state old.core).slots (state new.core).disk (state new.core).slots
    pub own : WritesAllowed call old new result
    pub spares : SparesBut (next_id old.volume.root) (state old.core).disk (state new.core).disk

  -- ---- What it keeps to.

  -- The session kept to this initial state: it keeps to it, or the halt has its reason in it, and blames nothing that was in form. Whatever
  -- spaces were seen before a call that goes on are seen after it.
  pub record AccountsSeen {T : Type 0} (o : InitialState) (old new : Session D A G) (result : Result T Halt) : Type 0 where
    pub keeps_to : OnOk result (KeepsOn o new.core.filer)
    pub reasons : IfErr result (ShowsReason o (state old.core).layout (state new.core).disk)
    pub sees : SeesHome o old.core → MatchResult result (λ _. SeesHome o new.core) (IsBlameless o (state new.core).disk)
    pub windows : OnOk result (StillSees old.core new.core)

  -- so it is of each
  abbrev pub AccountsOn : {T : Type 0} → Session D A G → Session D A G → Result T Halt → Type 0
  AccountsOn old new result = (o : InitialState) → KeepsOn o old.core.filer → AccountsSeen o old new result

  -- The same of a call that makes a file, whose identifier was given out then.
  pub record AccountsNew {T : Type 0} (o : InitialState) (old new : Session D A G) (result : Result T Halt) : Type 0 where
    pub keeps_to : OnOk result (KeepsOn (giving o (next_id new.volume.root)) new.core.filer)
    pub reasons : IfErr result (ShowsReason o (state old.core).layout (state new.core).disk)
    pub sees : MatchResult result (λ _. StillSees old.core new.core) (λ e. SeesOn old.core → IsBlameless o (state new.core).disk e)

  -- ---- What it did to a machine.

  -- disk, frames and what the session keeps beside them stand for the machine, where the pages of the space tables mean this
  abbrev pub IsIn : TablesMeaning → Session D A G → Machine → Type 0
  IsIn spaces_of s m = IsSession spaces_of (state s.core).disk (state s.core).slots (state s.core).layout (state s.core).runs s.volume m

  -- A call inside that so stood for the machine: the reply is allowed, and it stands for the machine after the call; each crash state between is
  -- one of the call; and where it goes on, pages of the maps and of the space tables alone came into frames.
  pub record AnswersIn (spaces_of : TablesMeaning) (m : Machine) (call : Call) (old new : Session D A G) (result : Result Reply Halt) : Type 0 where
    pub carried : IfOk result (λ reply. Carries spaces_of m call reply (state new.core).disk (state new.core).slots (state new.core).layout (state new.core).runs new.volume)
    pub passes : Passes m call (state old.core).disk (state new.core).disk
    pub came : OnOk result (BringsOwn (state old.core).slots (state new.core).slots)

  -- A question to a session that stood for the machine: what was found is so, and it stands for the same; the one halt is a fault of the disk.
  pub record Asks {T : Type 0} (m : Machine) (found : T → Type 0) (new : Session D A G) (result : Result T Halt) : Type 0 where
    pub answer : IfOk result found
    pub runs : Runs new.core new.volume m
    pub sound : IfErr result (λ e. e ≡ halt.Disk)

  -- ---- A client's call.

  -- What the call did, where the session stood for the machine; what it waits for is on the medium; the frames show what it leaves in them; labels
  -- that give a permanent file another size come after a sync; and where a load or a store finds its pages ready, the disk is left alone.
  pub record AnswersAll (m : Machine) (call : Call) (old new : Session D A G) (result : Result Reply Halt) : Type 0 where
    pub answers : Answers m call old new result
    pub forced : waits call ≡ true → refusal m call ≡ None → OnOk result ((state new.core).disk.synced ≡ true)
    pub advised : refusal m call ≡ None → OnOk result (IsAdvised m.spaces call (kept new.core) (state new.core).slots)
    pub resizes : ResizesAfterSync m call old new
    pub idle : IsResident call (kept old.core) (state old.core).slots → IsOk result × ((state new.core).disk ≡ (state old.core).disk)

  -- How it fails, and which page of a file may be missing then, by the spaces that are seen.
  pub record HaltsAs (call : Call) (old new : Session D A G) (result : Result Reply Halt) : Type 0 where
    pub fails : FailsBy (StepHalts (next_id old.volume.root) call old.core.intervals) old new result
    pub missing : (ss : List Space) → Sees (state old.core) (kept old.core) old.core.intervals ss → IfErr result (MissesPage (missing_page call ss))

  -- What the session keeps to, where it kept to this initial state; and what windows show then.
  pub record AccountsFor (call : Call) (o : InitialState) (old new : Session D A G) (result : Result Reply Halt) : Type 0 where
    pub accounts : Accounts o (giving o (next_id new.volume.root)) old new result
    pub windows : OnOk result (StillOnOr (mapped_by (next_id old.volume.root) call) old.core new.core)

  -- Which pages it made dirty, each of its writes, whose files are spared, between which syncs a leader is written, and which calls write no label.
  pub record WritesAs (call : Call) (old new : Session D A G) (result : Result Reply Halt) : Type 0 where
    pub wrote : WroteIn (may_dirty call) (state old.core).disk (state old.core).slots (state new.core).disk (state new.core).slots
    pub shown : DirtiesShown call old new
    pub own : WritesAllowed call old new result
    pub spares : SparesOthers call old new
    pub around : writes_leader call ≡ true → SyncsLeaders result (state old.core).disk (state new.core).disk
    pub unlabelled : keeps_labels call ≡ true → WritesPagesAlone (state old.core).disk (state new.core).disk

  -- ---- The session's end.

  -- so it stands for the machine, with the root's space alone
  abbrev pub IsAloneIn : TablesMeaning → Session D A G → Machine → Type 0
  IsAloneIn spaces_of s m = IsAlone spaces_of (state s.core).disk (state s.core).slots (state s.core).layout (state s.core).runs s.volume m

  -- for the machine without some of its temporary files, and with none of these
  abbrev pub ShedIn : TablesMeaning → (ℕ → Type 0) → Machine → Session D A G → Type 0
  ShedIn spaces_of gone m s = Shed spaces_of gone m (state s.core).disk (state s.core).slots (state s.core).layout (state s.core).runs s.volume

  -- Labels were freed, and none of a permanent file's; the writes were permitted, and no page but the volume's own became dirty. The session is
  -- open, with the layout and the root that it had.
  pub record ClearsOn (old new : Session D A G) : Type 0 where
    pub wrote : Wrote (state old.core).disk (state old.core).slots (state new.core).disk (state new.core).slots
    pub spares : Clears old new
    pub open_still : IsOpen (state new.core).layout new.volume
    pub layout : (state new.core).layout ≡ (state old.core).layout

  -- The session kept to this initial state, and its maps do so once the space tables are gone; or the halt has its reason in it, and blames no
  -- page of the tables.
  pub record AccountsEmptied {T : Type 0} (o : InitialState) (old new : Session D A G) (result : Result T Halt) : Type 0 where
    pub keeps_to : OnOk result (KeepsBare o new.core.filer)
    pub reasons : IfErr result (ShowsReason o (state old.core).layout (state new.core).disk)
    pub sees : SeesHome o old.core → IfErr result (NeverBlamesEnd o (state new.core).disk)

-- A step of a session's end that stood for a machine: what it gives is so; the one halt is a fault of the disk; and so is each crash state of what
-- was written.
pub record EndsIn {T : Type 0} (stop : List Sector → Type 0) (given : T → Type 0) (old new : DiskState) (result : Result T Halt) : Type 0 where
  pub gives : IfOk result given
  pub sound : IfErr result (λ e. e ≡ halt.Disk)
  pub stops : Throughout stop old new
