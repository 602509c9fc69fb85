-- From a load or a store that answers without a reply to a call that replies.
use Rattle.std.proofs.Common.{◌≡◌, ◌∙◌, ◌*◌, ℕ, List, false, true, sym, ap, subst, refl, Result, Ok, Err}
use Rattle.std.proofs.lemmas.Bool.{true≢false}
use Rattle.std.proofs.Math.Nat.{ℕ_set}
use Rattle.labelled_disk.specs.declared.disk.Disk.{Ghosts}
use Rattle.labelled_disk.specs.declared.evidence.Halt.{Halt}
use Rattle.flat_machine.specs.declared.call.Call.{Call}
use Rattle.flat_machine.specs.declared.call.Call.TheVariants as call
use Rattle.flat_machine.specs.declared.call.Reply.{Reply}
use Rattle.flat_machine.specs.declared.call.Reply.TheVariants as reply
use Rattle.flat_machine.specs.Machine.{Machine}
use Rattle.fault_core.specs.Core.{state}
use Rattle.fault_core.specs.declared.reference.Access.{Access}
use Rattle.fault_core.specs.declared.reference.Access.TheVariants as access
use Rattle.fault_core.specs.ReferenceLaws.{reply_to}
use Rattle.filer_kernel.specs.View.{FitsLayout}
use Rattle.running_words.specs.Running.{Runs}
use Rattle.running_words.specs.Session.{IsOpen}
use Rattle.pilot_engine.specs.declared.session.Session.{Session}
use Rattle.pilot_engine.specs.Referring.{Refers, RefersIn}
use Rattle.pilot_engine.specs.Stepping.{waits}
use Rattle.embedded.specs.declared.code.Code.{Code}
use Rattle.embedded.specs.declared.engine.Engine.{Engine}
use Rattle.embedded.specs.declared.live.Live.{Live}
use Rattle.embedded.specs.Once.{is_open_once}
use Rattle.embedded.specs.Answers.{answer_of, answer_to, replied}
use Rattle.embedded.specs.Called.{Called}
use Rattle.embedded.specs.Engine.{StandsFor}
use Rattle.embedded.specs.References.{AreAt}
use Rattle.embedded.specs.Stepped.{Stepped}
use Rattle.embedded.proofs.ReferenceLemmas.{load_ok}
use Rattle.embedded.proofs.SpendLemmas.{coarsely}

-- what a reference came to is answered as its reply is
pub same_answer : (plain : Reply) (a : Access) (r : Result (Unit {0}) Code) → answer_to plain ≡ Ok plain → r ≡ answer_of a → replied plain r ≡ answer_to (reply_to plain a)
same_answer plain a r itself is = ap (replied plain) is ∙ by a
  where
    by : (a : Access) → replied plain (answer_of a) ≡ answer_to (reply_to plain a)
    by access.Done = sym itself
    by (access.NoMap page) = refl
    by (access.ReadOnly page) = refl

-- a session with what its calls require is that session alone
pub live_facts : {D A : Type 0} {G : Ghosts D} (s : Session D A G) (a b : FitsLayout (state s.core)) (c d : IsOpen (state s.core).layout s.volume)
    → ◌≡◌ {A = Live D A G} (record { session = s; size = a; opened = c }) (record { session = s; size = b; opened = d })
live_facts s a b c d i = record { session = s; size = ℕ_set _ _ a b i; opened = is_open_once (state s.core).layout s.volume c d i }

pub live_same : {D A : Type 0} {G : Ghosts D} (s t : Session D A G) → s ≡ t → (a : FitsLayout (state s.core)) (b : FitsLayout (state t.core)) (c : IsOpen (state s.core).layout s.volume) (d : IsOpen (state t.core).layout t.volume)
    → ◌≡◌ {A = Live D A G} (record { session = s; size = a; opened = c }) (record { session = t; size = b; opened = d })
live_same {D} {A} {G} s t is a b c d =
    subst (λ (u : Session D A G). (f : FitsLayout (state u.core)) (o : IsOpen (state u.core).layout u.volume)
    → ◌≡◌ {A = Live D A G} (record { session = s; size = a; opened = c }) (record { session = u; size = f; opened = o })) is
    (λ f o. live_facts s a f c o) b d

module _ {D A : Type 0} {G : Ghosts D} (call : Call) (plain : Reply) (old new : Session D A G) (moves_on : waits call ≡ false) where
  -- a session that did not halt replied
  pub replied_step : (a : Access) → ((m : Machine) → Runs old.core old.volume m → RefersIn m call plain old (Ok a) new) → Refers call old (Ok a) new
      → Stepped call old (Ok (reply_to plain a)) new
  replied_step a machine refers = record {
    carried = λ m r. (machine m r).carried;
    sound = λ m r. tt;
    passes = λ m r. (machine m r).passes;
    forced = λ m waiting free r. absurd (true≢false (sym waiting ∙ moves_on));
    counted = λ is. absurd (cc is);
    evidence_seen = tt;
    goes_on = refers.goes_on;
    later = record { sectors = refers.wrote.makes.went.sectors; faults = refers.wrote.makes.went.faults };
    cost = λ m r. coarsely (state old.core).disk.transfers (state new.core).disk.transfers
        (64 * (state old.core).disk.sectors * (state old.core).disk.sectors) refers.few;
    few = λ is. refers.few;
  }

  -- one that did is as after a call that halted
  pub halted_step : (e : Halt) → ((m : Machine) → Runs old.core old.volume m → RefersIn m call plain old (Err e) new) → Refers call old (Err e) new
      → Stepped call old (Err e) new
  halted_step e machine refers = record {
    carried = λ m r. tt;
    sound = λ m r. (machine m r).sound;
    passes = λ m r. (machine m r).passes;
    forced = λ m waiting free r. tt;
    counted = λ is. refers.fails.counted (cc is);
    evidence_seen = refers.fails.evidence_seen;
    goes_on = tt;
    later = record { sectors = refers.wrote.makes.went.sectors; faults = refers.wrote.makes.went.faults };
    cost = λ m r. coarsely (state old.core).disk.transfers (state new.core).disk.transfers
        (64 * (state old.core).disk.sectors * (state old.core).disk.sectors) refers.few;
    few = λ is. refers.few;
  }

module _ {D A : Type 0} {G : Ghosts D} where
  -- the bytes of a load that was carried out are the machine's, and the engine stands for it still
  pub loaded_at : (m : Machine) (address n : ℕ) (bytes : List ℕ) (old new : Engine D A G) → Called (call.Load address n) old (Ok (reply.Bytes bytes)) new → StandsFor old m
      → AreAt m address n bytes × StandsFor new m
  loaded_at m address n bytes old new called stands =
      let l = load_ok m address n old new (reply.Bytes bytes) called stands in
      let same : bytes ≡ l.0 = cc l.1 in
      (subst (λ (bs : List ℕ). AreAt m address n bs) (sym same) l.3, l.4)
