use Rattle.std.proofs.Common.{◌≡◌, ℕ, Some, None, ◌∙◌, refl}
use Rattle.flat_machine.specs.declared.space.Space.{Space}
use Rattle.flat_machine.specs.Next.{without_window_of}
use Rattle.space_tables.specs.declared.shown.Shown.{Shown}
use Rattle.space_tables.specs.Shows.{window_of, IsRunAt, IsShownAt}
use Rattle.swapper_kernel.specs.GoesLaws.{makes_then}
use Rattle.space_calls.specs.Unmapping.{without_window}
use Rattle.space_calls.proofs.FileLemmas.{found_refused, found_revealed}
use Rattle.space_calls.proofs.RunLemmas.{reached_makes, settled_runs, size_kept}
use Rattle.space_calls.proofs.TableAnswers.{not_refused, was_done}
use Rattle.space_calls.proofs.TakeLemmas.{gone_frames, gone_loose, handle_is, machine_left, may}
use Rattle.fault_core.specs.Core.{state}
use Rattle.fault_core.proofs.ReachLemmas.{reaches_itself}
use Rattle.table_calls.specs.Answers.{TablesSay}
use Rattle.space_calls.specs.Ranges.{BreaksWindow}
use Rattle.space_calls.proofs.RangeLemmas.{fault_halt, given_so}
use Rattle.space_calls.proofs.WindowHalts.{slot_window, range_window, change_halt}
use Rattle.space_calls.proofs.ReshapeLemmas.{reshapes_after, reshapes_reached, reshapes_settled}
use Rattle.space_calls.specs.Sees.{IsShown}
use Rattle.space_calls.proofs.SeesLemmas.{are_seen, handle_so, shown_may}
use Rattle.space_calls.specs.FilesLaws.{shown_here}
use Rattle.space_calls.proofs.OnLemmas.{window_set_on}
use Rattle.space_calls.proofs.unmapping.take_window.Goals as goal
use Rattle.space_calls.proofs.unmapping.take_window.Goals.{After-change_window, After-evict_range, After-sync}
use Rattle.space_calls.proofs.unmapping.take_window.Given as given
use Rattle.space_calls.proofs.OutcomeLemmas.{halts_after, halts_wider, halts_written}
use Rattle.space_calls.proofs.LookLemmas.{looks_then}
use Rattle.space_calls.specs.Unmapping.{Reshapes}
use Rattle.space_calls.specs.Calls.{Looks}
use Rattle.filer_kernel.specs.View.{accepted}

-- ---- What the tables say.

looked : (g : given.Over) (c : After-evict_range g) → Looks c.args.core.now c.evict_range.new.core
looked g c = looks_then c.find_window.ensures.looks c.evict_range.ensures.looks

-- ---- The machine that is left.

pub returns-in-Ok-Err-clause-takes : goal.returns-in-Ok-Err-clause-takes
returns-in-Ok-Err-clause-takes g c = λ volume m r. record {
  taken = (found_refused m.spaces c.args.space c.in-Ok-Err.field-0 (c.in-Ok-Err.ensures.answer volume m r) c.in-Ok-Err.word c.in-Ok-Err.field-0-is, tt);
  refused = c.find_window.ensures.looks.runs volume m r;
  sound = tt;
}

pub returns-in-Err-clause-takes : goal.returns-in-Err-clause-takes
returns-in-Err-clause-takes g c = λ volume m r. record { taken = tt; refused = tt; sound = c.in-Err.ensures.answer volume m r }

pub returns-in-Err-evict_range-clause-takes : goal.returns-in-Err-evict_range-clause-takes
returns-in-Err-evict_range-clause-takes g c = λ volume m r. record { taken = tt; refused = tt; sound = c.in-Err-evict_range.ensures.rest volume m (c.find_window.ensures.looks.runs volume m r) }

pub returns-in-Ok-Err-change_window-clause-takes : goal.returns-in-Ok-Err-change_window-clause-takes
returns-in-Ok-Err-change_window-clause-takes g c = λ volume m r.
    let r1 = c.find_window.ensures.looks.runs volume m r in
    let w = (found_revealed m.spaces c.args.space c.in-Ok-Ok.field-0 (c.in-Ok-Ok.ensures.answer volume m r) c.in-Ok-Ok.found c.in-Ok-Ok.field-0-is).1 in
    let s : Space = w.0 in
    let l = c.evict_range.new.core in
    let r2 = c.evict_range.ensures.looks.runs volume m r1 in
    let shown : Shown = c.in-Ok-Ok.found.0 in
    let has : s.window ≡ Some (window_of shown) = w.2 in
    let may_have = may l volume m r2 c.args.space shown s w.1 has in
    let named = handle_is l volume m r2 c.args.space shown s w.1 has in
    let gone = c.in-Ok.ensures.rest volume m r1 in
    let done = c.in-Ok-Err-change_window.ensures.done volume m s (without_window_of s m.unforced) r2 may_have named tt (machine_left l volume m r2 c.args.space shown s w.1 has)
    (gone_frames l volume m r2 c.args.space shown s w.1 has c.in-Ok-Ok.found.1 c.in-Ok-Ok.found.2 w.3 w.4 gone) (gone_loose l volume m r2 c.args.space shown s w.1 has c.in-Ok-Ok.found.1 c.in-Ok-Ok.found.2 w.3 w.4 gone) in
    absurd (not_refused _ c.in-Ok-Err-change_window.field-0 c.in-Ok-Err-change_window.word c.in-Ok-Err-change_window.field-0-is done)

pub returns-in-Err-change_window-clause-takes : goal.returns-in-Err-change_window-clause-takes
returns-in-Err-change_window-clause-takes g c = λ volume m r.
    let r1 = c.find_window.ensures.looks.runs volume m r in
    let w = (found_revealed m.spaces c.args.space c.in-Ok-Ok.field-0 (c.in-Ok-Ok.ensures.answer volume m r) c.in-Ok-Ok.found c.in-Ok-Ok.field-0-is).1 in
    let s : Space = w.0 in
    let l = c.evict_range.new.core in
    let r2 = c.evict_range.ensures.looks.runs volume m r1 in
    let shown : Shown = c.in-Ok-Ok.found.0 in
    let has : s.window ≡ Some (window_of shown) = w.2 in
    let may_have = may l volume m r2 c.args.space shown s w.1 has in
    let named = handle_is l volume m r2 c.args.space shown s w.1 has in
    record { taken = tt; refused = tt; sound = c.in-Err-change_window.ensures.sound volume m s r2 may_have named tt }

pub returns-in-Ok-sync-clause-takes : goal.returns-in-Ok-sync-clause-takes
returns-in-Ok-sync-clause-takes g c = λ volume m r.
    let r1 = c.find_window.ensures.looks.runs volume m r in
    let w = (found_revealed m.spaces c.args.space c.in-Ok-Ok.field-0 (c.in-Ok-Ok.ensures.answer volume m r) c.in-Ok-Ok.found c.in-Ok-Ok.field-0-is).1 in
    let s : Space = w.0 in
    let l = c.evict_range.new.core in
    let r2 = c.evict_range.ensures.looks.runs volume m r1 in
    let shown : Shown = c.in-Ok-Ok.found.0 in
    let has : s.window ≡ Some (window_of shown) = w.2 in
    let may_have = may l volume m r2 c.args.space shown s w.1 has in
    let named = handle_is l volume m r2 c.args.space shown s w.1 has in
    let gone = c.in-Ok.ensures.rest volume m r1 in
    let done = c.in-Ok-Ok-change_window.ensures.done volume m s (without_window_of s m.unforced) r2 may_have named tt (machine_left l volume m r2 c.args.space shown s w.1 has)
    (gone_frames l volume m r2 c.args.space shown s w.1 has c.in-Ok-Ok.found.1 c.in-Ok-Ok.found.2 w.3 w.4 gone) (gone_loose l volume m r2 c.args.space shown s w.1 has c.in-Ok-Ok.found.1 c.in-Ok-Ok.found.2 w.3 w.4 gone) in
    let old = c.args.core.now in
    let h = c.change_window.new.core in
    let size = size_kept old h (makes_then (makes_then c.find_window.ensures.looks.makes c.evict_range.ensures.looks.makes) c.change_window.ensures.makes) (c.change_window.ensures.reshapes.layout ∙ c.evict_range.ensures.looks.layout ∙ c.find_window.ensures.looks.layout) c.requires.size in
    let r3 = was_done _ c.in-Ok-Ok-change_window.field-0 c.in-Ok-Ok-change_window.field-0-is done in
    let r4 = settled_runs h c.sync.new.core (accepted h.filer) size volume (without_window c.args.space s m) r3 c.sync.ensures.waits.reaches c.sync.ensures.waits.frames c.sync.ensures.waits.intervals c.sync.ensures.waits.known in
    record { taken = ((found_revealed m.spaces c.args.space c.in-Ok-Ok.field-0 (c.in-Ok-Ok.ensures.answer volume m r) c.in-Ok-Ok.found c.in-Ok-Ok.field-0-is).0, (s, w.1, has, r4)); refused = tt; sound = tt }

pub returns-in-Err-sync-clause-takes : goal.returns-in-Err-sync-clause-takes
returns-in-Err-sync-clause-takes g c = λ volume m r. record { taken = tt; refused = tt; sound = c.in-Err-sync.ensures.fails.cause }

-- ---- Why it failed.

pub returns-in-Err-clause-fails : goal.returns-in-Err-clause-fails
returns-in-Err-clause-fails g c =
    let v = state c.args.core.now in
    halts_wider c.in-Err.ensures.fails (slot_window v v (accepted c.args.core.now.filer) c.args.space (reaches_itself v) c.args.core.now.intervals c.args.core.now.intervals refl (state c.find_window.new.core) c.in-Err.halt c.in-Err.ensures.fails.cause)

pub returns-in-Err-evict_range-clause-fails : goal.returns-in-Err-evict_range-clause-fails
returns-in-Err-evict_range-clause-fails g c =
    let old = c.args.core.now in
    let w = c.find_window.new.core in
    let looks = c.find_window.ensures.looks in
    let found : Shown × ℕ × ℕ = c.in-Ok-Ok.found in
    let read = given_so (λ (f : Shown × ℕ × ℕ). TablesSay (state old) (λ b. IsRunAt b c.args.space) (f.1, f.2)) found c.in-Ok-Ok.field-0 c.in-Ok-Ok.field-0-is c.in-Ok-Ok.ensures.range in
    halts_after looks c.in-Err-evict_range.ensures.fails
    (range_window (state old) (state w) (accepted old.filer) c.args.space looks.reaches old.intervals w.intervals looks.intervals (state c.evict_range.new.core) (found.1, found.2) read c.in-Err-evict_range.halt c.in-Err-evict_range.ensures.fails.cause)

pub returns-in-Err-change_window-clause-fails : goal.returns-in-Err-change_window-clause-fails
returns-in-Err-change_window-clause-fails g c =
    let old = c.args.core.now in
    let w = c.evict_range.new.core in
    let looks = looked g (goal.at.returns-in-Err-change_window-clause-fails g c).After-evict_range in
    halts_after looks c.in-Err-change_window.ensures.fails
    (change_halt (state old) (state w) (accepted old.filer) c.args.space looks.reaches old.intervals w.intervals looks.intervals (state c.change_window.new.core) c.in-Err-change_window.halt c.in-Err-change_window.ensures.fails.cause)

pub returns-in-Err-sync-clause-fails : goal.returns-in-Err-sync-clause-fails
returns-in-Err-sync-clause-fails g c =
    let old = c.args.core.now in
    let made = makes_then (looked g (goal.at.returns-in-Err-sync-clause-fails g c).After-evict_range).makes c.change_window.ensures.makes in
    halts_written made c.in-Err-sync.ensures.fails
    (fault_halt (BreaksWindow (state old) old.intervals c.args.space) (state old) (state c.change_window.new.core) (state c.sync.new.core) c.in-Err-sync.halt made.went.faults c.in-Err-sync.ensures.fails.cause)

-- ---- What was written.

reshaped : (g : given.Over) (c : After-change_window g) → Reshapes (state c.args.core.now) (state c.change_window.new.core)
reshaped g c =
    let looks = looks_then c.find_window.ensures.looks c.evict_range.ensures.looks in
    reshapes_after (state c.args.core.now) (state c.evict_range.new.core) (state c.change_window.new.core) (accepted c.args.core.now.filer) looks.reaches looks.came c.change_window.ensures.reshapes

settled : (g : given.Over) (c : After-sync g) → Reshapes (state c.args.core.now) (state c.sync.new.core)
settled g c =
    let looks = looks_then c.find_window.ensures.looks c.evict_range.ensures.looks in
    let change = reshapes_after (state c.args.core.now) (state c.evict_range.new.core) (state c.change_window.new.core) (accepted c.args.core.now.filer) looks.reaches looks.came c.change_window.ensures.reshapes in
    let waits = c.sync.ensures.waits in
    reshapes_settled (state c.args.core.now) (state c.change_window.new.core) (state c.sync.new.core) change waits.reaches waits.frames waits.layout waits.runs

pub returns-in-Err-evict_range-clause-makes : goal.returns-in-Err-evict_range-clause-makes
returns-in-Err-evict_range-clause-makes g c = (looked g (goal.at.returns-in-Err-evict_range-clause-makes g c).After-evict_range).makes

pub returns-in-Ok-Err-change_window-clause-makes : goal.returns-in-Ok-Err-change_window-clause-makes
returns-in-Ok-Err-change_window-clause-makes g c = makes_then (looked g (goal.at.returns-in-Ok-Err-change_window-clause-makes g c).After-evict_range).makes c.change_window.ensures.makes

pub returns-in-Err-change_window-clause-makes : goal.returns-in-Err-change_window-clause-makes
returns-in-Err-change_window-clause-makes g c = makes_then (looked g (goal.at.returns-in-Err-change_window-clause-makes g c).After-evict_range).makes c.change_window.ensures.makes

pub returns-in-Ok-sync-clause-makes : goal.returns-in-Ok-sync-clause-makes
returns-in-Ok-sync-clause-makes g c = makes_then (makes_then (looked g (goal.at.returns-in-Ok-sync-clause-makes g c).After-evict_range).makes c.change_window.ensures.makes) (reached_makes c.sync.ensures.waits.reaches)

pub returns-in-Err-sync-clause-makes : goal.returns-in-Err-sync-clause-makes
returns-in-Err-sync-clause-makes g c = makes_then (makes_then (looked g (goal.at.returns-in-Err-sync-clause-makes g c).After-evict_range).makes c.change_window.ensures.makes) (reached_makes c.sync.ensures.waits.reaches)

pub returns-in-Ok-Err-clause-reshapes : goal.returns-in-Ok-Err-clause-reshapes
returns-in-Ok-Err-clause-reshapes g c = reshapes_reached c.find_window.ensures.looks.reaches c.find_window.ensures.looks.came

pub returns-in-Err-clause-reshapes : goal.returns-in-Err-clause-reshapes
returns-in-Err-clause-reshapes g c = reshapes_reached c.find_window.ensures.looks.reaches c.find_window.ensures.looks.came

pub returns-in-Err-evict_range-clause-reshapes : goal.returns-in-Err-evict_range-clause-reshapes
returns-in-Err-evict_range-clause-reshapes g c =
    let looks = looked g (goal.at.returns-in-Err-evict_range-clause-reshapes g c).After-evict_range in
    reshapes_reached looks.reaches looks.came

pub returns-in-Ok-Err-change_window-clause-reshapes : goal.returns-in-Ok-Err-change_window-clause-reshapes
returns-in-Ok-Err-change_window-clause-reshapes g c = reshaped g (goal.at.returns-in-Ok-Err-change_window-clause-reshapes g c).After-change_window

pub returns-in-Err-change_window-clause-reshapes : goal.returns-in-Err-change_window-clause-reshapes
returns-in-Err-change_window-clause-reshapes g c = reshaped g (goal.at.returns-in-Err-change_window-clause-reshapes g c).After-change_window

pub returns-in-Ok-sync-clause-reshapes : goal.returns-in-Ok-sync-clause-reshapes
returns-in-Ok-sync-clause-reshapes g c = settled g (goal.at.returns-in-Ok-sync-clause-reshapes g c).After-sync

pub returns-in-Err-sync-clause-reshapes : goal.returns-in-Err-sync-clause-reshapes
returns-in-Err-sync-clause-reshapes g c = settled g (goal.at.returns-in-Err-sync-clause-reshapes g c).After-sync

pub returns-in-Ok-sync-clause-read : goal.returns-in-Ok-sync-clause-read
returns-in-Ok-sync-clause-read g c =
    given_so (λ (f : Shown × ℕ × ℕ). TablesSay (state c.args.core.now) (λ b. IsShownAt b c.args.space) f.0) c.in-Ok-Ok.found c.in-Ok-Ok.field-0 c.in-Ok-Ok.field-0-is c.in-Ok-Ok.ensures.read

-- ---- The tables are revealed.

pub returns-in-Ok-Err-clause-sees : goal.returns-in-Ok-Err-clause-sees
returns-in-Ok-Err-clause-sees g c = λ ss s. (ss, (c.find_window.ensures.looks.still ss s, shown_here ss))

pub returns-in-Ok-Err-change_window-clause-sees : goal.returns-in-Ok-Err-change_window-clause-sees
returns-in-Ok-Err-change_window-clause-sees g c = λ ss s.
    let w = (found_revealed ss c.args.space c.in-Ok-Ok.field-0 (c.in-Ok-Ok.ensures.seen ss s) c.in-Ok-Ok.found c.in-Ok-Ok.field-0-is).1 in
    let revealed = c.in-Ok-Err-change_window.ensures.sees ss w.0 (c.evict_range.ensures.looks.still ss (c.find_window.ensures.looks.still ss s)) (shown_may ss c.args.space (are_seen s) w.0 w.1 (window_of c.in-Ok-Ok.found.0) w.2) (handle_so ss c.args.space (are_seen s) w.0 w.1) tt in
    (_, (revealed, window_set_on (IsShown ss) ss (shown_here ss) c.args.space None (λ x there same. tt)))

pub returns-in-Ok-sync-clause-sees : goal.returns-in-Ok-sync-clause-sees
returns-in-Ok-sync-clause-sees g c = λ ss s.
    let w = (found_revealed ss c.args.space c.in-Ok-Ok.field-0 (c.in-Ok-Ok.ensures.seen ss s) c.in-Ok-Ok.found c.in-Ok-Ok.field-0-is).1 in
    let revealed = c.in-Ok-Ok-change_window.ensures.sees ss w.0 (c.evict_range.ensures.looks.still ss (c.find_window.ensures.looks.still ss s)) (shown_may ss c.args.space (are_seen s) w.0 w.1 (window_of c.in-Ok-Ok.found.0) w.2) (handle_so ss c.args.space (are_seen s) w.0 w.1) tt in
    (_, (c.sync.ensures.waits.still _ revealed, window_set_on (IsShown ss) ss (shown_here ss) c.args.space None (λ x there same. tt)))

pub returns-in-Ok-sync-clause-seen : goal.returns-in-Ok-sync-clause-seen
returns-in-Ok-sync-clause-seen g c = λ ss s.
    let w = (found_revealed ss c.args.space c.in-Ok-Ok.field-0 (c.in-Ok-Ok.ensures.seen ss s) c.in-Ok-Ok.found c.in-Ok-Ok.field-0-is).1 in
    (w.0, w.1, w.2)
