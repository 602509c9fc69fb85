-- From a call of a session to one of an engine.
use Rattle.std.proofs.Common.{◌≡◌, ◌∙◌, sym, ap, subst, refl, true, false, Option, Some, None, Result, Ok, Err, OnOk, IfSome, inl, inr}
use Rattle.labelled_disk.specs.Calls.{Rose}
use Rattle.labelled_disk.specs.State.{DiskState}
use Rattle.labelled_disk.specs.declared.disk.Disk.{Ghosts}
use Rattle.labelled_disk.specs.declared.evidence.Halt.{Halt}
use Rattle.labelled_disk.specs.declared.evidence.Halt.TheVariants as halt
use Rattle.filer_kernel.specs.Evidence.{ShowsEvidence}
use Rattle.flat_machine.specs.declared.call.Call.{Call}
use Rattle.flat_machine.specs.declared.call.Reply.{Reply}
use Rattle.flat_machine.specs.declared.call.Reply.TheVariants as reply
use Rattle.flat_machine.specs.Machine.{Machine}
use Rattle.running_words.specs.Stages.{Passes}
use Rattle.embedded.specs.declared.code.Code.{Code}
use Rattle.embedded.specs.declared.code.Code.TheVariants as code
use Rattle.embedded.specs.declared.engine.Engine.{Engine}
use Rattle.embedded.specs.declared.held.Held.{Held}
use Rattle.embedded.specs.declared.held.Held.TheVariants as held
use Rattle.embedded.specs.declared.live.Live.{Live}
use Rattle.embedded.specs.Answers.{answer_to}
use Rattle.embedded.specs.Called.{Called, HasStopped}
use Rattle.embedded.specs.Engine.{IsClosed, IsIn, OfBoth, StandsFor, disk_of, is_running}
use Rattle.embedded.specs.Spending.{IsLater, MovedFew}
use Rattle.embedded.specs.Stepped.{Stepped}
use Rattle.embedded.proofs.SpendLemmas.{few_of_call, few_of_piece, later_itself, moved_none}
use Rattle.fault_core.specs.Core.{state}

-- where each reply has it, so has each answer that is a reply
on_answer : {P : Type 0} → P → (r : Reply) → OnOk (answer_to r) P
on_answer p (reply.Refused word) = tt
on_answer p reply.Nothing = tt
on_answer p other = p

-- no reply is answered by a halt
not_halted : {why : Halt} (r : Reply) → answer_to r ≡ Err (code.Halted why) → ⊥
not_halted (reply.Refused word) is = cc is
not_halted reply.Nothing is = cc is
not_halted other is = cc is

module _ {D A : Type 0} {G : Ghosts D} where
  -- what stands for a machine is running
  pub open_in : (h : Held D A G) (m : Machine) → IsIn h m → is_running h ≡ true
  open_in (held.Session live) m stands = stands.0
  open_in other m stands = absurd stands

  -- an engine without a session answers so, and stays as it is
  pub closed_called : (call : Call) (e : Engine D A G) → IsClosed e → Called call e (Err code.Closed) e
  closed_called call e closed = record {
    answers = λ m stands. absurd (cc (open_in e.held m stands, closed));
    passes = λ m stands. absurd (cc (open_in e.held m stands, closed));
    forced = λ m stands waits free. tt;
    closed = λ is. (refl, refl);
    stopped = λ why is. absurd (cc is);
    cause = λ is. absurd (cc is);
    later = later_itself (disk_of e);
    cost = λ m stands. moved_none 1 0 (disk_of e);
    few = λ is. moved_none 0 1 (disk_of e);
  }

  -- the session replied
  pub replied_called : (call : Call) (a b : Live D A G) (why : Option Halt) (r : Reply) → a.session.running ≡ true → Stepped call a.session (Ok r) b.session
      → Called call (record { held = held.Session a; halt = why }) (answer_to r) (record { held = held.Session b; halt = why })
  replied_called call a b why r running s = record {
    answers = λ m stands. inl (record {
      reply = r;
      allowed = (s.carried m stands.1).allowed;
      answered = refl;
      stands = (s.goes_on, (s.carried m stands.1).runs);
    });
    passes = λ m stands. s.passes m stands.1;
    forced = λ m stands waits free. on_answer (s.forced m waits free stands.1) r;
    closed = λ closed. absurd (cc (running, closed));
    stopped = λ other is. absurd (not_halted r is);
    cause = λ is. absurd (not_halted r is);
    later = s.later;
    cost = λ m stands. few_of_call (state a.session.core).disk (state b.session.core).disk (s.cost m stands.1);
    few = λ is. few_of_piece (state a.session.core).disk (state b.session.core).disk (s.few is);
  }

  -- the session stopped, and the engine let it go
  pub stopped_called : (call : Call) (a b : Live D A G) (why : Option Halt) (h : Halt) (e : Engine D A G) → a.session.running ≡ true
      → Stepped call a.session (Err h) b.session → IsClosed e → disk_of e ≡ Some (state b.session.core).disk → e.halt ≡ Some h
      → Called call (record { held = held.Session a; halt = why }) (Err (code.Halted h)) e
  stopped_called call a b why h e running s closed disk kept =
      let before = (state a.session.core).disk in
      record {
        answers = λ m stands. inr (ap (λ (x : Halt). Err (code.Halted x)) (s.sound m stands.1));
        passes = λ m stands. subst (λ (o : Option DiskState). OfBoth (Passes m call) (Some before) o) (sym disk) (s.passes m stands.1);
        forced = λ m stands waits free. tt;
        closed = λ is. absurd (cc (running, is));
        stopped = λ other is.
            let same : h ≡ other = cc is in
            record {
              closed = closed;
              kept = kept ∙ ap Some same;
              evident = subst (λ (o : Option DiskState). IfSome o (λ d. ShowsEvidence d other)) (sym disk)
                  (subst (λ (x : Halt). ShowsEvidence (state b.session.core).disk x) same s.evidence_seen);
            };
        cause = λ is.
            let same : h ≡ halt.Disk = cc is in
            subst (λ (o : Option DiskState). OfBoth (λ x y. Rose x.faults y.faults) (Some before) o) (sym disk)
            (s.counted (ap (λ (x : Halt). Err x) same));
        later = subst (λ (o : Option DiskState). IsLater (Some before) o) (sym disk) s.later;
        cost = λ m stands. subst (λ (o : Option DiskState). MovedFew 1 0 (Some before) o) (sym disk) (few_of_call before (state b.session.core).disk (s.cost m stands.1));
        few = λ is. subst (λ (o : Option DiskState). MovedFew 0 1 (Some before) o) (sym disk) (few_of_piece before (state b.session.core).disk (s.few is));
      }

  -- the same of any engine with such a session

  pub replied_called_at : (call : Call) (old new : Engine D A G) (a b : Live D A G) (x : Result Reply Code) (r : Reply) → old.held ≡ held.Session a
      → new ≡ record old { held = held.Session b } → x ≡ answer_to r → a.session.running ≡ true → Stepped call a.session (Ok r) b.session → Called call old x new
  replied_called_at call old new a b x r had has is running s =
      subst (λ (y : Result Reply Code). Called call old y new) (sym is)
      (subst (λ (e : Engine D A G). Called call old (answer_to r) e) (sym has)
      (subst (λ (h : Held D A G). Called call (record old { held = h }) (answer_to r) (record old { held = held.Session b })) (sym had)
      (replied_called call a b old.halt r running s)))

  pub stopped_called_at : (call : Call) (old e : Engine D A G) (a b : Live D A G) (h : Halt) → old.held ≡ held.Session a → a.session.running ≡ true
      → Stepped call a.session (Err h) b.session → IsClosed e → disk_of e ≡ Some (state b.session.core).disk → e.halt ≡ Some h
      → Called call old (Err (code.Halted h)) e
  stopped_called_at call old e a b h had running s closed disk kept =
      subst (λ (k : Held D A G). Called call (record old { held = k }) (Err (code.Halted h)) e) (sym had)
      (stopped_called call a b old.halt h e running s closed disk kept)
