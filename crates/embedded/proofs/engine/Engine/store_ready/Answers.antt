use Rattle.std.proofs.Common.{◌∙◌, arith, inl, inr, refl}
use Rattle.std.proofs.lemmas.Bool.{true≢false}
use Rattle.session_words.specs.StandsFor.{RevealsSettled}
use Rattle.embedded.proofs.FaultLemmas.{loses_none, session_loses_none}
use Rattle.embedded.proofs.ReferenceLemmas.{stored_none}
use Rattle.embedded.proofs.SpendLemmas.{session_spends_none, spends_none}
use Rattle.embedded.proofs.StopLemmas.{session_leaves}
use Rattle.embedded.proofs.engine.Engine.store_ready.Goals as goal

-- ---- There is no session.

pub returns-in_default-clause-stored : goal.returns-in_default-clause-stored
returns-in_default-clause-stored g c = λ m stands. stored_none m c.args.address c.args.bytes.now c.args.self.now stands

pub returns-in_default-clause-leaves : goal.returns-in_default-clause-leaves
returns-in_default-clause-leaves g c = λ m stands. inl refl

pub returns-in_default-clause-faults : goal.returns-in_default-clause-faults
returns-in_default-clause-faults g c = loses_none c.args.self.now

pub returns-in_default-clause-spends : goal.returns-in_default-clause-spends
returns-in_default-clause-spends g c = spends_none 0 1 c.args.self.now

pub returns-then-not-running-clause-stored : goal.returns-then-not-running-clause-stored
returns-then-not-running-clause-stored g c = λ m stands. stored_none m c.args.address c.args.bytes.now _ (rw c.in-Session.is at stands)

pub returns-then-not-running-clause-leaves : goal.returns-then-not-running-clause-leaves
returns-then-not-running-clause-leaves g c = λ m stands. inl (rw (← c.in-Session.is) refl)

pub returns-then-not-running-clause-left : goal.returns-then-not-running-clause-left
returns-then-not-running-clause-left g c = λ none. rw (← c.in-Session.is) refl

pub returns-then-not-running-clause-faults : goal.returns-then-not-running-clause-faults
returns-then-not-running-clause-faults g c = session_loses_none c.args.self.now _ c.in-Session.live c.in-Session.live c.in-Session.is refl (omega arith)

pub returns-then-not-running-clause-spends : goal.returns-then-not-running-clause-spends
returns-then-not-running-clause-spends g c =
    session_spends_none c.args.self.now _ c.in-Session.live c.in-Session.live c.in-Session.is refl refl
    (λ known. elim known [
      | inl closed ↦ inl (rw c.in-Session.is at closed)
      | inr there ↦ inr (there.0, rw c.in-Session.is at there.1)
    ])

-- ---- There is one.

pub returns-clause-stored : goal.returns-clause-stored
returns-clause-stored g c = λ m stands.
    let did = c.store_ready.ensures.machine m (rw c.in-Session.is at stands).1 in
    record {
      pieces = did.pieces;
      some = did.some;
      whole = did.whole;
      after = did.after;
      lead = did.lead;
      stands = (c.store_ready.ensures.stays.taken.running, did.runs);
    }

pub returns-clause-leaves : goal.returns-clause-leaves
returns-clause-leaves g c = λ m stands.
    session_leaves (λ d. RevealsSettled d m) c.args.self.now _ c.in-Session.live c.store_ready.new.self c.in-Session.is refl
    (c.store_ready.ensures.machine m (rw c.in-Session.is at stands).1).settled

pub returns-clause-closed : goal.returns-clause-closed
returns-clause-closed g c = λ closed. absurd (true≢false (c.if-not-running.ensures ∙ (rw c.in-Session.is at closed)))

pub returns-clause-left : goal.returns-clause-left
returns-clause-left g c = λ none. rw (c.store_ready.ensures.left none, ← c.in-Session.is) refl

pub returns-clause-faults : goal.returns-clause-faults
returns-clause-faults g c =
    session_loses_none c.args.self.now _ c.in-Session.live c.store_ready.new.self c.in-Session.is refl c.store_ready.ensures.stays.wrote.makes.went.faults

pub returns-clause-spends : goal.returns-clause-spends
returns-clause-spends g c =
    session_spends_none c.args.self.now _ c.in-Session.live c.store_ready.new.self c.in-Session.is refl c.store_ready.ensures.stays.disk
    (λ known. elim known [
      | inl closed ↦ absurd (true≢false (c.if-not-running.ensures ∙ (rw c.in-Session.is at closed)))
      | inr there ↦
          let did = c.store_ready.ensures.machine there.0 (rw c.in-Session.is at there.1).1 in
          inr (did.after, (c.store_ready.ensures.stays.taken.running, did.runs))
    ])
