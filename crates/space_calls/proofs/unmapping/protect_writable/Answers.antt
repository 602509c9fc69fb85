use Rattle.std.proofs.Common.{◌≡◌, inl, inr, Bool, true, false, subst}
use Rattle.std.specs.Bool.{then_some}
use Rattle.flat_machine.specs.declared.call.Call.TheVariants as call
use Rattle.flat_machine.specs.declared.call.Refusal.TheVariants as why
use Rattle.flat_machine.specs.Refusal.{is_immutable}
use Rattle.space_calls.proofs.CarryLemmas.{refused_carried}
use Rattle.space_calls.proofs.TableAnswers.{not_refused, was_done}
use Rattle.space_calls.proofs.TakeLemmas.{handle_is, may, mode_carried, mode_fits, mode_frames, mode_machine, mode_refused}
use Rattle.fault_core.specs.Core.{state}
use Rattle.space_calls.proofs.HaltLemmas.{counted_change}
use Rattle.space_tables.specs.Shows.{window_of}
use Rattle.space_calls.proofs.SeesLemmas.{are_seen, handle_so, shown_fits, shown_may, windows_seen}
use Rattle.space_calls.specs.FilesLaws.{shown_here}
use Rattle.space_calls.proofs.OnLemmas.{mode_on}
use Rattle.space_calls.proofs.unmapping.protect_writable.Goals as goal
use Rattle.space_calls.proofs.unmapping.protect_writable.Goals.{After-change_window}
use Rattle.space_calls.proofs.unmapping.protect_writable.Given as given
use Rattle.space_calls.proofs.OutcomeLemmas.{halts_after, halts_wider, made_looked, made_reshaped, made_then}
use Rattle.space_calls.specs.Outcomes.{MakesOwn}
use Rattle.filer_kernel.specs.View.{accepted}

pub returns-in-Ok-true-clause-carried : goal.returns-in-Ok-true-clause-carried
returns-in-Ok-true-clause-carried g c = λ volume m s r at has.
    let r1 = c.shows_immutable.ensures.looks.runs volume m r in
    let l = c.shows_immutable.new.core in
    let revealed = subst (λ (b : Bool). is_immutable m c.args.shown.id ≡ then_some b why.Immutable) c.in-Ok-true.field-0-test (c.in-Ok-true.ensures.answer volume m r) in
    let decided = mode_refused l volume m r1 c.args.space c.args.shown s at has true revealed in
    refused_carried l volume m (call.Protect c.args.space true) why.Immutable decided r1

pub returns-in-Err-clause-carried : goal.returns-in-Err-clause-carried
returns-in-Err-clause-carried g c = λ volume m s r at has. c.in-Err.ensures.answer volume m r

pub returns-in-Ok-Ok-clause-carried : goal.returns-in-Ok-Ok-clause-carried
returns-in-Ok-Ok-clause-carried g c = λ volume m s r at has.
    let r1 = c.shows_immutable.ensures.looks.runs volume m r in
    let l = c.shows_immutable.new.core in
    let revealed = subst (λ (b : Bool). is_immutable m c.args.shown.id ≡ then_some b why.Immutable) c.in-Ok-false.field-0-test (c.in-Ok-false.ensures.answer volume m r) in
    let decided = mode_refused l volume m r1 c.args.space c.args.shown s at has false revealed in
    let done = c.in-Ok-Ok.ensures.done volume m s m.unforced r1 (may l volume m r1 c.args.space c.args.shown s at has) (handle_is l volume m r1 c.args.space c.args.shown s at has) (mode_fits l volume m r1 c.args.space c.args.shown s at has true)
    (mode_machine l volume m r1 c.args.space c.args.shown s at has true decided) (mode_frames l volume m r1 c.args.space c.args.shown s at has true) r1.session.stands.dirty in
    mode_carried l volume m r1 c.args.space c.args.shown s at has true decided c.change_window.new.core (was_done _ c.in-Ok-Ok.field-0 c.in-Ok-Ok.field-0-is done)

pub returns-in-Ok-Err-clause-carried : goal.returns-in-Ok-Err-clause-carried
returns-in-Ok-Err-clause-carried g c = λ volume m s r at has.
    let r1 = c.shows_immutable.ensures.looks.runs volume m r in
    let l = c.shows_immutable.new.core in
    let revealed = subst (λ (b : Bool). is_immutable m c.args.shown.id ≡ then_some b why.Immutable) c.in-Ok-false.field-0-test (c.in-Ok-false.ensures.answer volume m r) in
    let decided = mode_refused l volume m r1 c.args.space c.args.shown s at has false revealed in
    let done = c.in-Ok-Err.ensures.done volume m s m.unforced r1 (may l volume m r1 c.args.space c.args.shown s at has) (handle_is l volume m r1 c.args.space c.args.shown s at has) (mode_fits l volume m r1 c.args.space c.args.shown s at has true)
    (mode_machine l volume m r1 c.args.space c.args.shown s at has true decided) (mode_frames l volume m r1 c.args.space c.args.shown s at has true) r1.session.stands.dirty in
    absurd (not_refused _ c.in-Ok-Err.field-0 c.in-Ok-Err.word c.in-Ok-Err.field-0-is done)

pub returns-in-Err-change_window-clause-carried : goal.returns-in-Err-change_window-clause-carried
returns-in-Err-change_window-clause-carried g c = λ volume m s r at has.
    let r1 = c.shows_immutable.ensures.looks.runs volume m r in
    let l = c.shows_immutable.new.core in
    c.in-Err-change_window.ensures.sound volume m s r1 (may l volume m r1 c.args.space c.args.shown s at has) (handle_is l volume m r1 c.args.space c.args.shown s at has) (mode_fits l volume m r1 c.args.space c.args.shown s at has true)

-- ---- Why it failed.

pub returns-in-Err-clause-fails : goal.returns-in-Err-clause-fails
returns-in-Err-clause-fails g c = halts_wider c.in-Err.ensures.fails (inl c.in-Err.ensures.fails.cause)

pub returns-in-Err-change_window-clause-fails : goal.returns-in-Err-change_window-clause-fails
returns-in-Err-change_window-clause-fails g c =
    let x = c.shows_immutable.new.core in
    let looks = c.shows_immutable.ensures.looks in
    halts_after looks c.in-Err-change_window.ensures.fails (inr (
      state x,
      looks.reaches,
      counted_change (state x) (state c.change_window.new.core) c.args.core.now.intervals x.intervals looks.intervals c.in-Err-change_window.halt c.in-Err-change_window.ensures.fails.cause,
    ))

-- ---- What was written.

changed : (g : given.Over) (c : After-change_window g) → MakesOwn (state c.args.core.now) (state c.change_window.new.core)
changed g c = made_then (accepted c.args.core.now.filer) (made_looked c.shows_immutable.ensures.looks) (made_reshaped c.change_window.ensures.makes c.change_window.ensures.reshapes)

pub returns-in-Ok-true-clause-went : goal.returns-in-Ok-true-clause-went
returns-in-Ok-true-clause-went g c = made_looked c.shows_immutable.ensures.looks

pub returns-in-Err-clause-went : goal.returns-in-Err-clause-went
returns-in-Err-clause-went g c = made_looked c.shows_immutable.ensures.looks

pub returns-in-Ok-Ok-clause-went : goal.returns-in-Ok-Ok-clause-went
returns-in-Ok-Ok-clause-went g c = changed g (goal.at.returns-in-Ok-Ok-clause-went g c).After-change_window

pub returns-in-Ok-Err-clause-went : goal.returns-in-Ok-Err-clause-went
returns-in-Ok-Err-clause-went g c = changed g (goal.at.returns-in-Ok-Err-clause-went g c).After-change_window

pub returns-in-Err-change_window-clause-went : goal.returns-in-Err-change_window-clause-went
returns-in-Err-change_window-clause-went g c = changed g (goal.at.returns-in-Err-change_window-clause-went g c).After-change_window

-- ---- The tables are revealed.

pub returns-in-Ok-true-clause-sees : goal.returns-in-Ok-true-clause-sees
returns-in-Ok-true-clause-sees g c = λ ss x s at has. (ss, (c.shows_immutable.ensures.looks.still ss s, shown_here ss))

pub returns-in-Ok-Ok-clause-sees : goal.returns-in-Ok-Ok-clause-sees
returns-in-Ok-Ok-clause-sees g c = λ ss x s at has.
    let revealed = c.in-Ok-Ok.ensures.sees ss x (c.shows_immutable.ensures.looks.still ss s) (shown_may ss c.args.space (are_seen s) x at (window_of c.args.shown) has) (handle_so ss c.args.space (are_seen s) x at) (shown_fits ss c.args.space (are_seen s) x at (window_of c.args.shown) has (windows_seen s) true) in
    (_, (revealed, mode_on ss (are_seen s) c.args.space c.args.shown (x, at, has) true))

pub returns-in-Ok-Err-clause-sees : goal.returns-in-Ok-Err-clause-sees
returns-in-Ok-Err-clause-sees g c = λ ss x s at has.
    let revealed = c.in-Ok-Err.ensures.sees ss x (c.shows_immutable.ensures.looks.still ss s) (shown_may ss c.args.space (are_seen s) x at (window_of c.args.shown) has) (handle_so ss c.args.space (are_seen s) x at) (shown_fits ss c.args.space (are_seen s) x at (window_of c.args.shown) has (windows_seen s) true) in
    (_, (revealed, mode_on ss (are_seen s) c.args.space c.args.shown (x, at, has) true))
