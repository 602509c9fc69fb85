-- A call on spaces, as one of the session that it is made for.
use Rattle.std.proofs.Common.{◌≡◌, ℕ, false, List, [], Result, refl, arith}
use Rattle.std.specs.Prelude.{OnOk}
use Rattle.labelled_disk.specs.declared.disk.Disk.{Ghosts}
use Rattle.labelled_disk.specs.declared.evidence.Halt.{Halt}
use Rattle.flat_machine.specs.declared.call.Call.{Call}
use Rattle.flat_machine.specs.declared.call.Reply.{Reply}
use Rattle.flat_machine.specs.declared.space.Space.{Space}
use Rattle.flat_machine.specs.Machine.{Machine}
use Rattle.swapper_kernel.specs.Goes.{Pages, no_page}
use Rattle.filer_kernel.specs.View.{MakesOnly, View, accepted}
use Rattle.file_manager.specs.Creating.{counted, next_id}
use Rattle.file_manager.specs.Reasons.{InitialState, IsNotOlder, KeepsOn, WasBelow, giving}
use Rattle.fault_core.specs.declared.core_over.Core.{Core}
use Rattle.fault_core.specs.Core.{state}
use Rattle.fault_core.specs.Reach.{BringsOwn, ReachHalts, TouchHalts}
use Rattle.running_words.specs.Bound.{CostsOther}
use Rattle.running_words.specs.Moving.{Moves}
use Rattle.running_words.specs.Session.{IsOpen, WroteIn}
use Rattle.running_words.specs.Stages.{may_dirty}
use Rattle.space_calls.specs.Calls.{Answers as AnswersOnCore}
use Rattle.space_calls.specs.Outcomes.{HaltsBy, HaltsToBring}
use Rattle.space_calls.specs.ReasonLaws.{HasReasonAfter, after_it, reach_before, touch_before}
use Rattle.space_calls.specs.Sees.{StillOn, StillOnOr}
use Rattle.pilot_engine.specs.declared.session.Session.{Session}
use Rattle.pilot_engine.specs.Calls.{Accounts, Answers, Stays}
use Rattle.pilot_engine.specs.Outcomes.{AccountsFor, Remains, WritesAs}
use Rattle.pilot_engine.specs.Reasons.{SeesHome}
use Rattle.pilot_engine.specs.Showing.{DirtiesShown, mapped_by}
use Rattle.pilot_engine.specs.Stepping.{brings_clients, writes_leader}
use Rattle.pilot_engine.proofs.HomeSteps.{none_or_blameless, still_or_blameless}
use Rattle.pilot_engine.proofs.LabelLemmas.{pages_alone}
use Rattle.pilot_engine.proofs.LackLemmas.{Misses, fails_missing_page}
use Rattle.pilot_engine.proofs.LiftLemmas.{still_open}
use Rattle.pilot_engine.proofs.OwnLemmas.{around_other}
use Rattle.pilot_engine.proofs.ReasonSteps.{moving_ahead, moving_reasons}
use Rattle.pilot_engine.proofs.SparedCalls.{spares_quiet}
use Rattle.pilot_engine.proofs.WindowLemmas.{on_or_more}
use Rattle.pilot_engine.proofs.WritingLemmas.{allowed_asked}

-- evidence of a page of the space tables has its reason
pub reached_reasons : (breaks : View → ℕ → Type 0) → HasReasonAfter (λ v w e. ReachHalts (breaks v) v w e)
reached_reasons breaks = after_it (λ v w e. ReachHalts (breaks v) v w e) (reach_before breaks)

-- and of a page of a client
pub touched_reasons : (breaks : View → ℕ → Type 0) → HasReasonAfter (λ v w e. TouchHalts (breaks v) v w e)
touched_reasons breaks = after_it (λ v w e. TouchHalts (breaks v) v w e) (touch_before breaks)

module _ {D A : Type 0} {G : Ghosts D} (old : Session D A G) (core : Core D A G) where
  -- it leaves the volume
  pub stays_on : IsOpen (state old.core).layout old.volume → (state core).layout ≡ (state old.core).layout → Stays old (record old { core = core })
  stays_on opened layout = record { open_still = still_open _ _ _ _ opened layout refl; monotone = omega arith; serial = refl; layout = layout }

  pub remains_on : IsOpen (state old.core).layout old.volume → (state core).layout ≡ (state old.core).layout → Remains old (record old { core = core })
  remains_on opened layout = record { stays = stays_on opened layout; running = refl }

  -- it writes no label
  pub writes_on : {pages : Pages} (call : Call) (r : Result Reply Halt) → writes_leader call ≡ false → WroteIn (may_dirty call) (state old.core).disk (state old.core).slots (state core).disk (state core).slots → DirtiesShown call old (record old { core = core })
      → MakesOnly pages [] (state old.core) (state core) → WritesAs call old (record old { core = core }) r
  writes_on call r never dirtied shown makes = record {
    wrote = dirtied;
    shown = shown;
    own = allowed_asked r (next_id old.volume.root) (counted old.volume.root) old.volume.root call makes;
    spares = λ id client other fresh. spares_quiet makes id client;
    around = around_other call never;
    unlabelled = λ keeps. pages_alone makes;
  }

  -- what the core answers, the session does
  pub answers_on : {m : Machine} {call : Call} {r : Result Reply Halt} → AnswersOnCore m call old.core core old.volume r → (brings_clients call ≡ false → OnOk r (BringsOwn (state old.core).slots (state core).slots))
      → CostsOther (state old.core).disk (state core).disk → Answers m call old (record old { core = core }) r
  answers_on answers came cost = record { carried = answers.carried; sound = answers.sound; passes = answers.passes; came = came; cost = cost }

  module _ {X : Type 0} (P : View → View → Halt → Type 0) (reasons : HasReasonAfter P) (r : Result X Halt) (moves : Moves (state old.core) (state core)) (sees : OnOk r (StillOn old.core core))
      (o : InitialState) (k : KeepsOn o old.core.filer) (n : IsNotOlder o old.volume.root) where
    -- of the initial state it keeps what the session kept, and none but pages of the space tables are missing
    pub quiet_accounts : Misses P no_page → HaltsBy (P (state old.core) (state core)) old.core core r → Accounts o (giving o (next_id old.volume.root)) old (record old { core = core }) r
    quiet_accounts misses fails = record {
      keeps_to = moving_ahead (state old.core) (state core) r (accepted old.core.filer) moves o old.volume.root k n;
      reasons = moving_reasons P reasons (state old.core) (state core) r (accepted old.core.filer) moves fails.cause o k;
      sees = λ seen. none_or_blameless o old.core core moves.goes.makes r sees fails.right (fails_missing_page P no_page misses (state old.core) (state core) r fails.cause) seen;
    }

    -- or some that windows show
    pub bringing_accounts : (units : List Space → Pages) → HaltsToBring (P (state old.core) (state core)) units old.core core r
        → ((seen : SeesHome o old.core) (id page : ℕ) → units seen.0 id page → WasBelow o (state old.core).disk id page) → Accounts o (giving o (next_id old.volume.root)) old (record old { core = core }) r
    bringing_accounts units fails below = record {
      keeps_to = moving_ahead (state old.core) (state core) r (accepted old.core.filer) moves o old.volume.root k n;
      reasons = moving_reasons P reasons (state old.core) (state core) r (accepted old.core.filer) moves fails.cause o k;
      sees = λ seen. still_or_blameless o old.core core moves.goes.makes r sees fails.right (units seen.0) (fails.missing seen.0 seen.1.0) (below seen) seen;
    }

  -- and windows show what they showed
  module _ (P : View → View → Halt → Type 0) (reasons : HasReasonAfter P) (r : Result Reply Halt) (moves : Moves (state old.core) (state core)) (sees : OnOk r (StillOn old.core core)) (o : InitialState) (k : KeepsOn o old.core.filer)
      (n : IsNotOlder o old.volume.root) (call : Call) where
    windows_for : OnOk r (StillOnOr (mapped_by (next_id old.volume.root) call) old.core core)
    windows_for = on_or_more (mapped_by (next_id old.volume.root) call) r old.core core sees

    pub quiet_for : Misses P no_page → HaltsBy (P (state old.core) (state core)) old.core core r → AccountsFor call o old (record old { core = core }) r
    quiet_for misses fails = record { accounts = quiet_accounts P reasons r moves sees o k n misses fails; windows = windows_for }

    pub bringing_for : (units : List Space → Pages) → HaltsToBring (P (state old.core) (state core)) units old.core core r → ((seen : SeesHome o old.core) (id page : ℕ) → units seen.0 id page → WasBelow o (state old.core).disk id page)
        → AccountsFor call o old (record old { core = core }) r
    bringing_for units fails below = record { accounts = bringing_accounts P reasons r moves sees o k n units fails below; windows = windows_for }
