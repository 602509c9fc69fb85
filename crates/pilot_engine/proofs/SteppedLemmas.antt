-- A session as a machine that is stepped: it goes on taking calls, and halts are accounted for over calls in a row.
use Rattle.std.proofs.Common.{◌≡◌, ◌⊎◌, inl, inr, ℕ, false, true, Result, Ok, Err, sym, ◌∙◌, ap, subst, arith}
use Rattle.std.specs.Prelude.{IfErr, IfOk, OnErr, OnOk}
use Rattle.std.proofs.lemmas.Bool.{true≢false}
use Rattle.labelled_disk.specs.declared.disk.Disk.{Ghosts}
use Rattle.labelled_disk.specs.declared.evidence.Halt.{Halt}
use Rattle.labelled_disk.specs.declared.layout.Layout.{Layout}
use Rattle.swapper_kernel.specs.Goes.{Pages}
use Rattle.filer_kernel.specs.Fails.{Fails}
use Rattle.flat_machine.specs.declared.call.Call.{Call}
use Rattle.flat_machine.specs.declared.call.Reply.{Reply}
use Rattle.flat_machine.specs.Machine.{Machine}
use Rattle.flat_machine.specs.Next.{next}
use Rattle.flight_core.specs.declared.stepped.Tried.{Tried}
use Rattle.flight_core.specs.declared.stepped.Tried.TheVariants as tried
use Rattle.flight_core.specs.Tried.{IsAnswered, IsTried}
use Rattle.file_manager.specs.Creating.{next_id}
use Rattle.file_manager.specs.Reasons.{InitialState, IsNotOlder, KeepsOn, ShowsReason, giving}
use Rattle.fault_core.specs.Core.{state}
use Rattle.running_words.specs.Running.{Carried}
use Rattle.running_words.specs.Session.{WroteIn}
use Rattle.pilot_engine.specs.declared.session.Session.{Session}
use Rattle.pilot_engine.specs.Calls.{Accounts, Stays}
use Rattle.pilot_engine.specs.Leading.{KeepsTo}
use Rattle.pilot_engine.specs.Referring.{TakesCalls}
use Rattle.pilot_engine.specs.Trying.{HasResident, IsAccounted, StandsAs}
use Rattle.pilot_engine.proofs.ReasonSteps.{given_reasons}
use Rattle.pilot_engine.proofs.WroteLemmas.{rose_after}

module _ {D A : Type 0} {G : Ghosts D} (old new : Session D A G) where
  -- a reply that is carried out, in the words of clients that wait
  pub carried_answered : (m : Machine) (c : Call) (r : Result Reply Halt) → IfOk r (Carried m c new.core new.volume) → IfOk r (λ reply. IsAnswered m c reply (StandsAs new))
  carried_answered m c (Ok reply) carried = record { allowed = carried.allowed; next = carried.runs }
  carried_answered m c (Err e) carried = tt

  -- a session that goes on stands for the machine, or for its next
  pub stands_on : (m : Machine) (c : Call) (r : Result Tried Halt) → IfOk r (λ t. IsTried m c t (StandsAs new) (HasResident new)) → OnErr r (new.running ≡ false) → new.running ≡ true
      → StandsAs new m ⊎ StandsAs new (next m c)
  stands_on m c (Ok (tried.Reply reply)) is halted running = inr is.0.next
  stands_on m c (Ok (tried.Absent page)) is halted running = inl is.2
  stands_on m c (Err e) is halted running = absurd (true≢false (sym running ∙ halted))

  pub stands_next : (m : Machine) (c : Call) (r : Result Reply Halt) → IfOk r (Carried m c new.core new.volume) → OnErr r (new.running ≡ false) → new.running ≡ true → StandsAs new m ⊎ StandsAs new (next m c)
  stands_next m c (Ok reply) carried halted running = inr carried.runs
  stands_next m c (Err e) carried halted running = absurd (true≢false (sym running ∙ halted))

  -- for each initial state that the session kept to, and what was given out up to now
  abbrev pub AccountsFor : {T : Type 0} → Result T Halt → Type 0
  AccountsFor r = (o : InitialState) → KeepsOn o old.core.filer → IsNotOlder o old.volume.root → Accounts o (giving o (next_id new.volume.root)) old new r

  -- a session that goes on keeps to what the earlier one kept to
  pub keeps_on : {T : Type 0} (r : Result T Halt) → AccountsFor r → OnErr r (new.running ≡ false) → new.running ≡ true → KeepsTo old new
  keeps_on (Ok x) accounts halted running = λ o k up. ((accounts o k up).keeps_to, λ seen. (accounts o k up).sees seen)
  keeps_on (Err e) accounts halted running = absurd (true≢false (sym running ∙ halted))

  -- a halt is accounted for
  pub accounted_now : {T : Type 0} (r : Result T Halt) (why : Halt → Type 0) → IfErr r (Fails why (state old.core) (state new.core)) → AccountsFor r → IfErr r (IsAccounted old new)
  accounted_now (Ok x) why fails accounts = tt
  accounted_now (Err e) why fails accounts = record {
    counted = fails.counted;
    evidence_seen = fails.evidence_seen;
    reasons = λ o k up. (accounts o k up).reasons;
    blameless = λ o k up seen. (accounts o k up).sees seen;
  }

  module _ (stays : Stays old new) {pages : Pages} (wrote : WroteIn pages (state old.core).disk (state old.core).slots (state new.core).disk (state new.core).slots) where
    -- after a call that goes on the session takes calls
    pub takes_more : {T : Type 0} (r : Result T Halt) → TakesCalls old → OnOk r (new.running ≡ true) → OnOk r (TakesCalls new)
    takes_more (Ok x) takes running = record {
      size = wrote.makes.went.sectors ∙ takes.size ∙ ap (λ (l : Layout). l.sectors) (sym stays.layout);
      opened = stays.open_still;
      running = running;
    }
    takes_more (Err e) takes running = tt

    -- an initial state that is not newer is not, with what was given out meanwhile
    ahead : (o : InitialState) → IsNotOlder o old.volume.root → IsNotOlder (giving o (next_id new.volume.root)) new.volume.root
    ahead o up = record {
      monotone = (let less = up.monotone.0 in let more = stays.monotone in omega (arith, less, more), stays.serial ∙ up.monotone.1);
      next = omega arith;
    }

    -- what is accounted for from then on is so from before
    pub accounted_later : {T : Type 0} (r : Result T Halt) → AccountsFor r → (s : Session D A G) (e : Halt) → OnOk r (IsAccounted new s e → IsAccounted old s e)
    accounted_later (Err f) accounts s e = tt
    accounted_later (Ok x) accounts s e = λ h. record {
      counted = λ is. rose_after _ _ _ wrote.makes.went.faults (h.counted is);
      evidence_seen = h.evidence_seen;
      reasons = λ o k up.
          let next = next_id new.volume.root in
          given_reasons {X = Reply} (Err e) o next (state old.core).layout (state s.core).disk
          (subst (λ (l : Layout). ShowsReason (giving o next) l (state s.core).disk e) stays.layout (h.reasons (giving o next) (accounts o k up).keeps_to (ahead o up)));
      blameless = λ o k up seen.
          let next = next_id new.volume.root in
          h.blameless (giving o next) (accounts o k up).keeps_to (ahead o up) ((accounts o k up).sees seen);
    }
