use Rattle.std.proofs.Common.{false, ◌+◌, ◌∙◌}
use Rattle.flat_machine.specs.Next.{without_window_of}
use Rattle.swapper_kernel.specs.GoesLaws.{makes_then}
use Rattle.space_calls.proofs.RunLemmas.{settled_runs, size_kept}
use Rattle.space_calls.proofs.TableAnswers.{not_refused, was_done}
use Rattle.space_calls.proofs.TakeLemmas.{clean_loose, handle_is, may, mode_carried, mode_fits, mode_frames, mode_machine, read_only_allowed}
use Rattle.fault_core.specs.Core.{state}
use Rattle.space_calls.specs.Ranges.{BreaksPart}
use Rattle.space_calls.proofs.RangeLemmas.{fault_halt}
use Rattle.space_calls.proofs.WindowHalts.{part_change, part_halt}
use Rattle.space_tables.specs.Shows.{window_of}
use Rattle.space_calls.proofs.SeesLemmas.{are_seen, handle_so, shown_fits, shown_may, windows_seen}
use Rattle.space_calls.proofs.OnLemmas.{mode_on}
use Rattle.space_calls.proofs.unmapping.protect_read_only.Goals as goal
use Rattle.space_calls.proofs.unmapping.protect_read_only.Goals.{After-change_window, After-sync}
use Rattle.space_calls.proofs.unmapping.protect_read_only.Given as given
use Rattle.space_calls.proofs.OutcomeLemmas.{halts_after, halts_wider, halts_written, made_looked, made_reshaped, made_then, made_waited}
use Rattle.space_calls.specs.Outcomes.{MakesOwn}
use Rattle.filer_kernel.specs.View.{accepted}

pub returns-in-Err-clause-carried : goal.returns-in-Err-clause-carried
returns-in-Err-clause-carried g c = λ volume m s r at has begins long. c.in-Err.ensures.rest volume m r

pub returns-in-Ok-Err-clause-carried : goal.returns-in-Ok-Err-clause-carried
returns-in-Ok-Err-clause-carried g c = λ volume m s r at has begins long.
    let r1 = c.flush_range.ensures.looks.runs volume m r in
    let l = c.flush_range.new.core in
    let decided = read_only_allowed l volume m r1 c.args.space c.args.shown s at has in
    let done = c.in-Ok-Err.ensures.done volume m s (without_window_of s m.unforced) r1 (may l volume m r1 c.args.space c.args.shown s at has) (handle_is l volume m r1 c.args.space c.args.shown s at has) (mode_fits l volume m r1 c.args.space c.args.shown s at has false)
    (mode_machine l volume m r1 c.args.space c.args.shown s at has false decided) (mode_frames l volume m r1 c.args.space c.args.shown s at has false)
    (clean_loose l volume m r1 c.args.space c.args.shown s at has c.args.first c.args.pages begins long (c.in-Ok.ensures.rest volume m r)) in
    absurd (not_refused _ c.in-Ok-Err.field-0 c.in-Ok-Err.word c.in-Ok-Err.field-0-is done)

pub returns-in-Ok-Err-clause-synced : goal.returns-in-Ok-Err-clause-synced
returns-in-Ok-Err-clause-synced g c = λ volume m s r at has begins long.
    let r1 = c.flush_range.ensures.looks.runs volume m r in
    let l = c.flush_range.new.core in
    let decided = read_only_allowed l volume m r1 c.args.space c.args.shown s at has in
    let done = c.in-Ok-Err.ensures.done volume m s (without_window_of s m.unforced) r1 (may l volume m r1 c.args.space c.args.shown s at has) (handle_is l volume m r1 c.args.space c.args.shown s at has) (mode_fits l volume m r1 c.args.space c.args.shown s at has false)
    (mode_machine l volume m r1 c.args.space c.args.shown s at has false decided) (mode_frames l volume m r1 c.args.space c.args.shown s at has false)
    (clean_loose l volume m r1 c.args.space c.args.shown s at has c.args.first c.args.pages begins long (c.in-Ok.ensures.rest volume m r)) in
    absurd (not_refused _ c.in-Ok-Err.field-0 c.in-Ok-Err.word c.in-Ok-Err.field-0-is done)

pub returns-in-Err-change_window-clause-carried : goal.returns-in-Err-change_window-clause-carried
returns-in-Err-change_window-clause-carried g c = λ volume m s r at has begins long.
    let r1 = c.flush_range.ensures.looks.runs volume m r in
    let l = c.flush_range.new.core in
    c.in-Err-change_window.ensures.sound volume m s r1 (may l volume m r1 c.args.space c.args.shown s at has) (handle_is l volume m r1 c.args.space c.args.shown s at has) (mode_fits l volume m r1 c.args.space c.args.shown s at has false)

pub returns-in-Ok-sync-clause-carried : goal.returns-in-Ok-sync-clause-carried
returns-in-Ok-sync-clause-carried g c = λ volume m s r at has begins long.
    let r1 = c.flush_range.ensures.looks.runs volume m r in
    let l = c.flush_range.new.core in
    let decided = read_only_allowed l volume m r1 c.args.space c.args.shown s at has in
    let done = c.in-Ok-Ok.ensures.done volume m s (without_window_of s m.unforced) r1 (may l volume m r1 c.args.space c.args.shown s at has) (handle_is l volume m r1 c.args.space c.args.shown s at has) (mode_fits l volume m r1 c.args.space c.args.shown s at has false)
    (mode_machine l volume m r1 c.args.space c.args.shown s at has false decided) (mode_frames l volume m r1 c.args.space c.args.shown s at has false)
    (clean_loose l volume m r1 c.args.space c.args.shown s at has c.args.first c.args.pages begins long (c.in-Ok.ensures.rest volume m r)) in
    let h = c.change_window.new.core in
    let size = size_kept c.args.core.now h (makes_then c.flush_range.ensures.looks.makes c.change_window.ensures.makes) (c.change_window.ensures.reshapes.layout ∙ c.flush_range.ensures.looks.layout) c.requires.size in
    let r2 = was_done _ c.in-Ok-Ok.field-0 c.in-Ok-Ok.field-0-is done in
    mode_carried l volume m r1 c.args.space c.args.shown s at has false decided c.sync.new.core
    (settled_runs h c.sync.new.core (accepted h.filer) size volume _ r2 c.sync.ensures.waits.reaches c.sync.ensures.waits.frames c.sync.ensures.waits.intervals c.sync.ensures.waits.known)

-- ---- What was written.

changed : (g : given.Over) (c : After-change_window g) → MakesOwn (state c.args.core.now) (state c.change_window.new.core)
changed g c = made_then (accepted c.args.core.now.filer) (made_looked c.flush_range.ensures.looks) (made_reshaped c.change_window.ensures.makes c.change_window.ensures.reshapes)

settled : (g : given.Over) (c : After-sync g) → MakesOwn (state c.args.core.now) (state c.sync.new.core)
settled g c =
    let change = made_reshaped c.change_window.ensures.makes c.change_window.ensures.reshapes in
    made_then (accepted c.args.core.now.filer) (made_then (accepted c.args.core.now.filer) (made_looked c.flush_range.ensures.looks) change) (made_waited c.sync.ensures.waits)

pub returns-in-Err-clause-went : goal.returns-in-Err-clause-went
returns-in-Err-clause-went g c = made_looked c.flush_range.ensures.looks

pub returns-in-Ok-Err-clause-went : goal.returns-in-Ok-Err-clause-went
returns-in-Ok-Err-clause-went g c = changed g (goal.at.returns-in-Ok-Err-clause-went g c).After-change_window

pub returns-in-Err-change_window-clause-went : goal.returns-in-Err-change_window-clause-went
returns-in-Err-change_window-clause-went g c = changed g (goal.at.returns-in-Err-change_window-clause-went g c).After-change_window

pub returns-in-Ok-sync-clause-went : goal.returns-in-Ok-sync-clause-went
returns-in-Ok-sync-clause-went g c = settled g (goal.at.returns-in-Ok-sync-clause-went g c).After-sync

pub returns-in-Err-sync-clause-went : goal.returns-in-Err-sync-clause-went
returns-in-Err-sync-clause-went g c = settled g (goal.at.returns-in-Err-sync-clause-went g c).After-sync

-- ---- Why it failed.

pub returns-in-Err-clause-fails : goal.returns-in-Err-clause-fails
returns-in-Err-clause-fails g c =
    let old = c.args.core.now in
    halts_wider c.in-Err.ensures.fails (part_halt (state old) (state c.flush_range.new.core) (accepted old.filer) old.intervals c.args.first (c.args.first + c.args.pages) c.in-Err.halt c.in-Err.ensures.fails.cause)

pub returns-in-Err-change_window-clause-fails : goal.returns-in-Err-change_window-clause-fails
returns-in-Err-change_window-clause-fails g c =
    let old = c.args.core.now in
    let w = c.flush_range.new.core in
    let looks = c.flush_range.ensures.looks in
    halts_after looks c.in-Err-change_window.ensures.fails
    (part_change (state old) (state w) (accepted old.filer) c.args.space looks.reaches old.intervals w.intervals looks.intervals (state c.change_window.new.core) c.args.first (c.args.first + c.args.pages) c.in-Err-change_window.halt c.in-Err-change_window.ensures.fails.cause)

pub returns-in-Err-sync-clause-fails : goal.returns-in-Err-sync-clause-fails
returns-in-Err-sync-clause-fails g c =
    let old = c.args.core.now in
    let made = changed g (goal.at.returns-in-Err-sync-clause-fails g c).After-change_window in
    halts_written made.makes c.in-Err-sync.ensures.fails
    (fault_halt (BreaksPart (state old) old.intervals c.args.first (c.args.first + c.args.pages)) (state old) (state c.change_window.new.core) (state c.sync.new.core) c.in-Err-sync.halt made.makes.went.faults c.in-Err-sync.ensures.fails.cause)

-- ---- The tables are revealed.

pub returns-in-Ok-Err-clause-sees : goal.returns-in-Ok-Err-clause-sees
returns-in-Ok-Err-clause-sees g c = λ ss x s at has.
    let revealed = c.in-Ok-Err.ensures.sees ss x (c.flush_range.ensures.looks.still ss s) (shown_may ss c.args.space (are_seen s) x at (window_of c.args.shown) has) (handle_so ss c.args.space (are_seen s) x at) (shown_fits ss c.args.space (are_seen s) x at (window_of c.args.shown) has (windows_seen s) false) in
    (_, (revealed, mode_on ss (are_seen s) c.args.space c.args.shown (x, at, has) false))

pub returns-in-Ok-sync-clause-sees : goal.returns-in-Ok-sync-clause-sees
returns-in-Ok-sync-clause-sees g c = λ ss x s at has.
    let revealed = c.in-Ok-Ok.ensures.sees ss x (c.flush_range.ensures.looks.still ss s) (shown_may ss c.args.space (are_seen s) x at (window_of c.args.shown) has) (handle_so ss c.args.space (are_seen s) x at) (shown_fits ss c.args.space (are_seen s) x at (window_of c.args.shown) has (windows_seen s) false) in
    (_, (c.sync.ensures.waits.still _ revealed, mode_on ss (are_seen s) c.args.space c.args.shown (x, at, has) false))
