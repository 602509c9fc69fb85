-- What is said of a call that was carried out, said of it as one that was tried.
use Rattle.std.proofs.Common.{◌≡◌, ℕ, true, false, None, List, [], Result, Ok, Err, refl, sym, ◌∙◌, subst}
use Rattle.std.specs.Prelude.{IfErr, IfOk, OnOk}
use Rattle.std.proofs.lemmas.Bool.{true≢false}
use Rattle.labelled_disk.specs.declared.disk.Disk.{Ghosts}
use Rattle.labelled_disk.specs.State.{DiskState}
use Rattle.labelled_disk.specs.declared.evidence.Halt.{Halt}
use Rattle.labelled_disk.specs.declared.evidence.Halt.TheVariants as halt
use Rattle.label_calls.specs.Synced.{SyncsLeaders}
use Rattle.filer_kernel.specs.Fails.{Fails}
use Rattle.filer_kernel.specs.View.{View}
use Rattle.flat_machine.specs.declared.call.Call.{Call}
use Rattle.flat_machine.specs.declared.call.Call.TheVariants as call
use Rattle.flat_machine.specs.declared.call.Reply.{Reply}
use Rattle.flat_machine.specs.After.{ends_trace}
use Rattle.flat_machine.specs.Machine.{Machine}
use Rattle.flat_machine.specs.References.{is_reference}
use Rattle.flat_machine.specs.Refusal.{refusal}
use Rattle.flight_core.specs.declared.stepped.Tried.{Tried}
use Rattle.flight_core.specs.Tried.{MayBeTried}
use Rattle.file_manager.specs.Creating.{counted, next_id}
use Rattle.file_manager.specs.Reasons.{InitialState}
use Rattle.swapper_kernel.specs.Goes.{Makes, Pages}
use Rattle.filer_kernel.specs.EvidenceLaws.{Fits}
use Rattle.fault_core.specs.declared.attempt.Attempt.{Attempt}
use Rattle.fault_core.specs.declared.attempt.Attempt.TheVariants.{Access as Came, Absent}
use Rattle.fault_core.specs.Core.{kept, state}
use Rattle.fault_core.specs.Reach.{BringsOwn, ReachHalts}
use Rattle.fault_core.proofs.EvidenceLemmas.{shows_evidence}
use Rattle.running_words.specs.Bound.{CostsOther}
use Rattle.running_words.specs.Running.{Carried, Runs}
use Rattle.running_words.specs.Stages.{Passes}
use Rattle.pilot_engine.specs.declared.session.Session.{Session}
use Rattle.pilot_engine.specs.Advised.{IsAdvised}
use Rattle.pilot_engine.specs.Calls.{Accounts}
use Rattle.pilot_engine.specs.Stepping.{StepHalts, brings_clients, waits, writes_leader}
use Rattle.pilot_engine.specs.Trying.{TriesIn, TryHalts, WritesLabels, replied_as, tried_as}
use Rattle.pilot_engine.proofs.LabelLemmas.{pages_alone}
use Rattle.pilot_engine.proofs.SparedCalls.{spares_quiet}
use Rattle.pilot_engine.proofs.TryLemmas.{quiet_next}
use Rattle.pilot_engine.proofs.WritingLemmas.{allowed_asked}

-- a call that brings in no page of a client's file is neither a load nor a store
pub no_reference : (c : Call) → brings_clients c ≡ false → is_reference c ≡ false
no_reference (call.Load address count) quiet = absurd (true≢false quiet)
no_reference (call.Store address bytes) quiet = absurd (true≢false quiet)
no_reference other quiet = refl

-- it waits for the medium around a leader as one that was carried out
pub replied_around : (old new : DiskState) (r : Result Reply Halt) → SyncsLeaders r old new → SyncsLeaders (replied_as r) old new
replied_around old new (Ok reply) around = around
replied_around old new (Err e) around = around

-- it is none of the three that bring some in
pub no_client : (c : Call) → ((address count : ℕ) → c ≡ call.Load address count → ⊥) → ((address : ℕ) (bytes : List ℕ) → c ≡ call.Store address bytes → ⊥) → ((space : ℕ) → c ≡ call.Activate space → ⊥)
    → brings_clients c ≡ false
no_client (call.Load address count) n1 n2 n3 = absurd (n1 address count refl)
no_client (call.Store address bytes) n1 n2 n3 = absurd (n2 address bytes refl)
no_client (call.Activate space) n1 n2 n3 = absurd (n3 space refl)
no_client other n1 n2 n3 = refl

-- a page is absent for a load or a store
pub load_may_be : (address n : ℕ) (plain : Reply) (a : Attempt) → MayBeTried (call.Load address n) (tried_as plain a)
load_may_be address n plain (Came access) = tt
load_may_be address n plain (Absent page) = refl

pub store_may_be : (address : ℕ) (bytes : List ℕ) (plain : Reply) (a : Attempt) → MayBeTried (call.Store address bytes) (tried_as plain a)
store_may_be address bytes plain (Came access) = tt
store_may_be address bytes plain (Absent page) = refl

-- how a call fails that asks the tables alone, by its cause
pub fails_reached : (breaks : ℕ → Type 0) (v w : View) {pages : Pages} → Fits v.layout v.disk v.slots → Makes pages [] v.disk v.slots w.disk w.slots → (e : Halt) → ReachHalts breaks v w e → Fails (ReachHalts breaks v w) v w e
fails_reached breaks v w is_fit makes e halts = record {
  cause = halts;
  counted = λ is. subst (λ (x : Halt). ReachHalts breaks v w x) is halts;
  evidence_seen = shows_evidence breaks v w is_fit makes e halts;
}

-- such a call halts as one that brings in what it needs
step_halts : (new : ℕ) (c : Call) (count : ℕ) (v w : View) (e : Halt) → brings_clients c ≡ false → StepHalts new c count v w e → TryHalts new c count v w e
step_halts new (call.Load address n) count v w e quiet halts = absurd (true≢false quiet)
step_halts new (call.Store address bytes) count v w e quiet halts = absurd (true≢false quiet)
step_halts new (call.Activate space) count v w e quiet halts = absurd (true≢false quiet)
step_halts new other count v w e quiet halts = halts

-- an Ok of it is a reply
pub reply_tried : (c : Call) (r : Result Reply Halt) → IfOk (replied_as r) (MayBeTried c)
reply_tried c (Ok reply) = tt
reply_tried c (Err e) = tt

-- it fails so
pub replied_fails : (r : Result Reply Halt) (P : Halt → Type 0) → IfErr r P → IfErr (replied_as r) P
replied_fails (Ok reply) P fails = tt
replied_fails (Err e) P fails = fails

pub step_fails : (new : ℕ) (c : Call) (count : ℕ) (v w : View) (r : Result Reply Halt) → brings_clients c ≡ false → IfErr r (Fails (StepHalts new c count v w) v w) → IfErr (replied_as r) (Fails (TryHalts new c count v w) v w)
step_fails new c count v w (Ok reply) quiet fails = tt
step_fails new c count v w (Err e) quiet fails = record { cause = step_halts new c count v w e quiet fails.cause; counted = fails.counted; evidence_seen = fails.evidence_seen }

module _ {D A : Type 0} {G : Ghosts D} where
  pub replied_accounts : (o later : InitialState) (old new : Session D A G) (r : Result Reply Halt) → Accounts o later old new r → Accounts o later old new (replied_as r)
  replied_accounts o later old new (Ok reply) h = record { keeps_to = h.keeps_to; reasons = tt; sees = h.sees }
  replied_accounts o later old new (Err e) h = record { keeps_to = tt; reasons = h.reasons; sees = h.sees }

  pub replied_in : (m : Machine) (c : Call) (old new : Session D A G) (r : Result Reply Halt) → ends_trace c ≡ false → is_reference c ≡ false → Runs old.core old.volume m
      → IfOk r (Carried m c new.core new.volume) → IfErr r (λ e. e ≡ halt.Disk) → Passes m c (state old.core).disk (state new.core).disk → OnOk r (BringsOwn (state old.core).slots (state new.core).slots)
      → (brings_clients c ≡ false → refusal m c ≡ None → OnOk r (IsAdvised m.spaces c (kept new.core) (state new.core).slots)) → (waits c ≡ true → refusal m c ≡ None → OnOk r ((state new.core).disk.synced ≡ true))
      → CostsOther (state old.core).disk (state new.core).disk → TriesIn m c old (replied_as r) new
  replied_in m c old new (Ok reply) more plain runs carried sound passes came advised forced cost = record {
    tried = (record { allowed = carried.allowed; next = carried.runs }, λ one. absurd (true≢false (sym one ∙ plain)));
    quiet = quiet_next runs (state new.core).slots came c more;
    sound = tt;
    passes = passes;
    came = came;
    advised = advised;
    forced = forced;
    cost = cost;
  }
  replied_in m c old new (Err e) more plain runs carried sound passes came advised forced cost = record { tried = tt; quiet = tt; sound = sound; passes = passes; came = tt; advised = λ quiet free. tt; forced = λ one free. tt; cost = cost }

  -- a call that finds pages alone writes no label
  pub labels_quiet : (c : Call) (old new : Session D A G) (r : Result Tried Halt) {pages : Pages} → writes_leader c ≡ false
      → Makes pages [] (state old.core).disk (state old.core).slots (state new.core).disk (state new.core).slots → WritesLabels c old r new
  labels_quiet c old new r plain makes = record {
    own = allowed_asked r (next_id old.volume.root) (counted old.volume.root) new.volume.root c makes;
    spares = λ id client other fresh. spares_quiet makes id client;
    around = λ leads. absurd (true≢false (sym leads ∙ plain));
    unlabelled = λ keeps. pages_alone makes;
  }
