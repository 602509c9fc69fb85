use Rattle.std.proofs.Common.{ℕ, List, sym, ◌∙◌, subst}
use Rattle.std.specs.Prelude.{Result}
use Rattle.std.proofs.lemmas.Bool.{true≢false}
use Rattle.labelled_disk.specs.declared.evidence.Halt.{Halt}
use Rattle.flat_machine.specs.declared.call.Call.TheVariants as call
use Rattle.file_manager.specs.Creating.{next_id}
use Rattle.file_manager.specs.Reasons.{giving}
use Rattle.fault_core.specs.Core.{state}
use Rattle.flight_core.specs.declared.stepped.Tried.{Tried}
use Rattle.label_calls.specs.Synced.{SyncsLeaders}
use Rattle.pilot_engine.specs.Calls.{Accounts}
use Rattle.pilot_engine.specs.Trying.{Tries, TriesIn, WritesLabels}
use Rattle.pilot_engine.proofs.TriedLemmas.{no_client, no_reference, replied_accounts, replied_around, replied_in, reply_tried, step_fails}
use Rattle.pilot_engine.specs.Writing.{CallMay, WritesAllowed, Written}
use Rattle.pilot_engine.proofs.WritingLemmas.{allowed_tried}
use Rattle.pilot_engine.proofs.session.Session.try_answer.Goals as goal

pub returns-in-Load : goal.returns-in-Load
returns-in-Load g c = record {
  machine = λ m r. rw c.in-Load.is (c.try_load.ensures.machine m r);
  accounts = λ o k up. c.try_load.ensures.accounts o k up;
  tries = rw c.in-Load.is c.try_load.ensures.tries;
  labels = rw c.in-Load.is c.try_load.ensures.labels;
  running = c.try_load.ensures.running;
}

pub returns-in-Store : goal.returns-in-Store
returns-in-Store g c = record {
  machine = λ m r. rw c.in-Store.is
      (subst (λ (bs : List ℕ). TriesIn m (call.Store c.in-Store.address bs) c.args.self.now c.try_store.result c.try_store.new.self) c.as_slice.ensures.bytes (c.try_store.ensures.machine m r));
  accounts = λ o k up. c.try_store.ensures.accounts o k up;
  tries = rw c.in-Store.is
      (subst (λ (bs : List ℕ). Tries (call.Store c.in-Store.address bs) c.args.self.now c.try_store.result c.try_store.new.self) c.as_slice.ensures.bytes c.try_store.ensures.tries);
  labels = rw c.in-Store.is
      (subst (λ (bs : List ℕ). WritesLabels (call.Store c.in-Store.address bs) c.args.self.now c.try_store.result c.try_store.new.self) c.as_slice.ensures.bytes c.try_store.ensures.labels);
  running = c.try_store.ensures.running;
}

pub returns-in-Activate : goal.returns-in-Activate
returns-in-Activate g c = record {
  machine = λ m r. rw c.in-Activate.is (c.look_up.ensures.machine m r);
  accounts = λ o k up. c.look_up.ensures.accounts o k up;
  tries = rw c.in-Activate.is c.look_up.ensures.tries;
  labels = rw c.in-Activate.is c.look_up.ensures.labels;
  running = c.look_up.ensures.running;
}

pub returns-in_default : goal.returns-in_default
returns-in_default g c =
    let what = c.args.call.now in
    let old = c.args.self.now in
    let new = c.answer.new.self in
    let did = c.answer.ensures in
    let r = c.answer.result in
    let quiet = no_client what c.in_default.not-Load c.in_default.not-Store c.in_default.not-Activate in
    record {
      machine = λ m runs.
          let all = did.machine m runs in
          let a = all.answers in
          subst (λ (t : Result Tried Halt). TriesIn m what old t new) (sym c.replied.ensures)
          (replied_in m what old new r c.requires.more (no_reference what quiet) runs a.carried a.sound a.passes (a.came quiet) (λ none free. all.advised free) (λ one free. all.forced one free) a.cost);
      accounts = λ o k up.
          subst (λ (t : Result Tried Halt). Accounts o (giving o (next_id new.volume.root)) old new t) (sym c.replied.ensures)
          (replied_accounts o (giving o (next_id new.volume.root)) old new r ((did.accounts o k up).accounts));
      tries = subst (λ (t : Result Tried Halt). Tries what old t new) (sym c.replied.ensures) (record {
        absent = reply_tried what r;
        fails = step_fails (next_id old.volume.root) what old.core.intervals (state old.core) (state new.core) r quiet did.halts.fails;
        wrote = did.writes.wrote;
        few = λ one. absurd (true≢false (sym one ∙ no_reference what quiet));
        room = λ one. absurd (true≢false (sym one ∙ no_reference what quiet));
        stay = λ one. absurd (true≢false (sym one ∙ no_reference what quiet));
        stays = did.remains.stays;
      });
      labels = record {
        own = subst (λ (t : Result Tried Halt). WritesAllowed what old new t) (sym c.replied.ensures) (allowed_tried r (Written (CallMay (next_id old.volume.root) new.volume.root what) (state old.core).disk (state new.core).disk) did.writes.own);
        spares = did.writes.spares;
        around = λ leads. subst (λ (t : Result Tried Halt). SyncsLeaders t (state old.core).disk (state new.core).disk) (sym c.replied.ensures) (replied_around (state old.core).disk (state new.core).disk r (did.writes.around leads));
        unlabelled = did.writes.unlabelled;
      };
      running = did.remains.running;
    }
