-- A call on files, as one of a client's calls.
use Rattle.std.proofs.Common.{◌≡◌, ℕ, true, false, List, Some, None, Result, refl, ap, sym, ◌∙◌}
use Rattle.std.proofs.lemmas.Bool.{true≢false}
use Rattle.labelled_disk.specs.declared.disk.Disk.{Ghosts}
use Rattle.labelled_disk.specs.declared.evidence.Halt.{Halt}
use Rattle.frame_pool.specs.Frames.{Slots}
use Rattle.flat_machine.specs.declared.call.Call.{Call}
use Rattle.flat_machine.specs.declared.call.Reply.{Reply}
use Rattle.flat_machine.specs.Machine.{Machine}
use Rattle.label_calls.specs.Synced.{SyncsLeaders}
use Rattle.swap_units.specs.declared.interval.Interval.{Interval}
use Rattle.file_manager.specs.Creating.{counted, next_id}
use Rattle.file_manager.specs.Reasons.{InitialState, IsNotOlder, KeepsOn}
use Rattle.fault_core.specs.Core.{kept, state}
use Rattle.running_words.specs.Session.{WroteIn}
use Rattle.running_words.specs.Stages.{may_dirty}
use Rattle.space_calls.specs.Sees.{SeesOn}
use Rattle.pilot_engine.specs.declared.session.Session.{Session}
use Rattle.pilot_engine.specs.Advised.{IsAdvised}
use Rattle.pilot_engine.specs.Calls.{Answers, ResizesAfterSync, Stays}
use Rattle.pilot_engine.specs.Labels.{keeps_labels}
use Rattle.pilot_engine.specs.Outcomes.{AccountsFor, AccountsNew, AccountsOn, AnswersAll, WritesAs, WritesFile, WritesNew, WritesPages}
use Rattle.pilot_engine.specs.Reasons.{IsBlameless}
use Rattle.pilot_engine.specs.Showing.{DirtiesShown, mapped_by}
use Rattle.pilot_engine.specs.Sparing.{SparesBut}
use Rattle.pilot_engine.specs.Stepping.{IsResident, relabels, resizes, waits, writes_leader}
use Rattle.pilot_engine.proofs.HomeSteps.{same_or_blameless}
use Rattle.pilot_engine.proofs.OwnLemmas.{around_other, resizes_none}
use Rattle.pilot_engine.proofs.ReasonSteps.{not_older_on}
use Rattle.pilot_engine.proofs.ReferLemmas.{ok_always}
use Rattle.pilot_engine.proofs.SparedCalls.{spares_alone}
use Rattle.pilot_engine.proofs.WindowLemmas.{if_ok, sees_or_more}
use Rattle.pilot_engine.proofs.WritingLemmas.{allowed_alone, allowed_call}

module _ {D A : Type 0} {G : Ghosts D} {old new : Session D A G} where
  -- it waits for nothing, and shows nothing in frames
  pub sized_all : {m : Machine} (c : Call) (r : Result Reply Halt) → waits c ≡ false → ((kept : List Interval) (slots : Slots) → IsResident c kept slots → ⊥) → ((kept : List Interval) (slots : Slots) → IsAdvised m.spaces c kept slots)
      → ResizesAfterSync m c old new → Answers m c old new r → AnswersAll m c old new r
  sized_all c r quiet absent plain after answers = record {
    answers = answers;
    forced = λ waiting free. absurd (true≢false (sym waiting ∙ quiet));
    advised = λ free. ok_always r _ (plain (kept new.core) (state new.core).slots);
    resizes = λ id f is found permanent. after id f is found permanent;
    idle = λ resident. absurd (absent (kept old.core) (state old.core).slots resident);
  }

  -- and gives no file another size
  pub plain_all : {m : Machine} (c : Call) (r : Result Reply Halt) → waits c ≡ false → ((kept : List Interval) (slots : Slots) → IsResident c kept slots → ⊥) → ((kept : List Interval) (slots : Slots) → IsAdvised m.spaces c kept slots)
      → resizes c ≡ None → Answers m c old new r → AnswersAll m c old new r
  plain_all c r quiet absent plain never answers = sized_all c r quiet absent plain (λ id f is found permanent. resizes_none c id never is) answers

  -- it gives no identifier out, and shows no file
  pub plain_accounts : (c : Call) (r : Result Reply Halt) → Stays old new → AccountsOn old new r → (o : InitialState) → KeepsOn o old.core.filer → IsNotOlder o old.volume.root → AccountsFor c o old new r
  plain_accounts c r stays accounts o k n =
      let a = accounts o k in
      record {
        accounts = record { keeps_to = not_older_on r o (state new.core) old.volume.root new.volume.root n stays.monotone a.keeps_to; reasons = a.reasons; sees = a.sees };
        windows = sees_or_more (mapped_by (next_id old.volume.root) c) r old.core new.core a.windows;
      }

  -- or it makes a file
  pub new_accounts : (c : Call) {d : Call} (r : Result Reply Halt) → WritesNew d old new r → (o : InitialState) → AccountsNew o old new r → AccountsFor c o old new r
  new_accounts c r writes o a = record {
    accounts = record { keeps_to = a.keeps_to; reasons = a.reasons; sees = λ seen. same_or_blameless o old.core new.core writes.wrote.makes r a.sees seen };
    windows = sees_or_more (mapped_by (next_id old.volume.root) c) r old.core new.core (if_ok r old.core new.core (λ (e : Halt). SeesOn old.core → IsBlameless o (state new.core).disk e) a.sees);
  }

  module _ (c : Call) (r : Result Reply Halt) (dirtied : WroteIn (may_dirty c) (state old.core).disk (state old.core).slots (state new.core).disk (state new.core).slots) (shown : DirtiesShown c old new) where
    -- it asks
    pub asked_all : writes_leader c ≡ false → WritesPages old new → WritesAs c old new r
    asked_all never writes = record {
      wrote = dirtied;
      shown = shown;
      own = allowed_alone r (next_id old.volume.root) (counted old.volume.root) new.volume.root c writes.wrote.makes writes.unlabelled;
      spares = λ id client other fresh. spares_alone writes.wrote.makes writes.unlabelled id client;
      around = around_other c never;
      unlabelled = λ keeps. writes.unlabelled;
    }

    -- it changes a file
    pub file_all : {id : ℕ} → relabels c ≡ Some id → keeps_labels c ≡ false → (writes_leader c ≡ true → SyncsLeaders r (state old.core).disk (state new.core).disk) → WritesFile c (SparesBut id) old new → WritesAs c old new r
    file_all named labels around writes = record {
      wrote = dirtied;
      shown = shown;
      own = allowed_call r (next_id old.volume.root) (counted old.volume.root) new.volume.root c refl writes.own;
      spares = λ id client other fresh. writes.spares id client (λ is. other (named ∙ ap (λ (n : ℕ). Some n) is));
      around = around;
      unlabelled = λ keeps. absurd (true≢false (sym keeps ∙ labels));
    }

    -- it makes one
    pub new_all : keeps_labels c ≡ false → writes_leader c ≡ false → WritesNew c old new r → WritesAs c old new r
    new_all labels never writes = record {
      wrote = dirtied;
      shown = shown;
      own = writes.own;
      spares = λ id client other fresh. writes.spares id client fresh;
      around = around_other c never;
      unlabelled = λ keeps. absurd (true≢false (sym keeps ∙ labels));
    }
