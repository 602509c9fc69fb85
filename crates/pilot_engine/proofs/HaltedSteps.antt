-- What a call did to a session it did also to one that it halted, which is the same but for that.
use Rattle.std.proofs.Common.{◌≡◌, Bool, true, false, Result, Ok, Err, refl, sym, ◌∙◌}
use Rattle.std.specs.Prelude.{is_err}
use Rattle.std.proofs.lemmas.Bool.{true≢false}
use Rattle.labelled_disk.specs.declared.disk.Disk.{Ghosts}
use Rattle.labelled_disk.specs.declared.evidence.Halt.{Halt}
use Rattle.flat_machine.specs.declared.call.Call.{Call}
use Rattle.flat_machine.specs.declared.call.Reply.{Reply}
use Rattle.flat_machine.specs.Machine.{Machine}
use Rattle.file_manager.specs.Reasons.{InitialState}
use Rattle.pilot_engine.specs.declared.session.Session.{Session}
use Rattle.pilot_engine.specs.Calls.{Stays}
use Rattle.pilot_engine.specs.Outcomes.{AccountsFor, AnswersAll, HaltsAs, Remains, RunsUntilHalt, WritesAs}

module _ {D A : Type 0} {G : Ghosts D} (old new : Session D A G) (still : Bool) where
  pub answers_halted : (m : Machine) (call : Call) (r : Result Reply Halt) → AnswersAll m call old new r → AnswersAll m call old (record new { running = still }) r
  answers_halted m call r all = record {
    answers = record { carried = all.answers.carried; sound = all.answers.sound; passes = all.answers.passes; came = all.answers.came; cost = all.answers.cost };
    forced = λ waits free. all.forced waits free;
    advised = λ free. all.advised free;
    resizes = λ id f is found permanent. all.resizes id f is found permanent;
    idle = λ resident. all.idle resident;
  }

  pub halts_halted : (call : Call) (r : Result Reply Halt) → HaltsAs call old new r → HaltsAs call old (record new { running = still }) r
  halts_halted call r halts = record { fails = halts.fails; missing = λ ss sees. halts.missing ss sees }

  pub accounts_halted : (call : Call) (o : InitialState) (r : Result Reply Halt) → AccountsFor call o old new r → AccountsFor call o old (record new { running = still }) r
  accounts_halted call o r all = record {
    accounts = record { keeps_to = all.accounts.keeps_to; reasons = all.accounts.reasons; sees = λ seen. all.accounts.sees seen };
    windows = all.windows;
  }

  pub writes_halted : (call : Call) (r : Result Reply Halt) → WritesAs call old new r → WritesAs call old (record new { running = still }) r
  writes_halted call r writes = record {
    wrote = writes.wrote;
    shown = λ ss s. writes.shown ss s;
    own = writes.own;
    spares = writes.spares;
    around = writes.around;
    unlabelled = writes.unlabelled;
  }

  stays_halted : Stays old new → Stays old (record new { running = still })
  stays_halted stays = record { open_still = stays.open_still; monotone = stays.monotone; serial = stays.serial; layout = stays.layout }

-- a call that halts has the session stop
pub stopped : {D A T : Type 0} {G : Ghosts D} (old new : Session D A G) (r : Result T Halt) → is_err r ≡ true → Stays old new → RunsUntilHalt old (record new { running = false }) r
stopped old new (Ok x) failed stays = absurd (true≢false (sym failed))
stopped old new (Err e) failed stays = record { stays = stays_halted old new false stays; goes_on = tt; halted = refl }

-- and one that goes on leaves it running
pub ran_on : {D A T : Type 0} {G : Ghosts D} (old new : Session D A G) (r : Result T Halt) → is_err r ≡ false → old.running ≡ true → Remains old new → RunsUntilHalt old new r
ran_on old new (Ok x) failed running remains = record { stays = remains.stays; goes_on = remains.running ∙ running; halted = tt }
ran_on old new (Err e) failed running remains = absurd (true≢false failed)
