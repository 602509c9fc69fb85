use Rattle.std.proofs.Common.{refl, subst}
use Rattle.flat_machine.specs.declared.call.Call.TheVariants as call
use Rattle.flat_machine.specs.declared.call.Reply.TheVariants.{Done}
use Rattle.flat_machine.specs.Machine.{Machine}
use Rattle.fault_core.specs.Core.{kept, state}
use Rattle.fault_core.proofs.ReachLemmas.{reaches_then}
use Rattle.running_words.specs.Running.{Runs}
use Rattle.running_words.proofs.RunningLemmas.{running_laws}
use Rattle.space_calls.proofs.AdviceLemmas.{activate_refused, activate_stays, activate_there, asked_range, asked_word, came_asked, never_brought, never_refused, range_active, range_brought, whole_core}
use Rattle.space_calls.proofs.CameLemmas.{came_then, knows, still_runs, still_reveals}
use Rattle.space_calls.proofs.CarryLemmas.{allowed_done}
use Rattle.space_calls.proofs.RunLemmas.{reached_makes}
use Rattle.space_tables.specs.Shows.{IsRunAt}
use Rattle.table_calls.specs.Answers.{TablesSay}
use Rattle.fault_core.specs.ReachLaws.{reach_misses, touch_of_reach}
use Rattle.space_calls.specs.Ranges.{BreaksRange, space_units}
use Rattle.space_calls.proofs.RangeLemmas.{asked_halt, found_run, given_so, run_misses, within_touch}
use Rattle.space_calls.specs.FilesLaws.{shown_here}
use Rattle.space_calls.proofs.advice.activate.Goals as goal
use Rattle.space_calls.proofs.advice.activate.Goals.{After-activate, After-bounds}
use Rattle.space_calls.proofs.advice.activate.Given as given
use Rattle.space_calls.proofs.OutcomeLemmas.{bringing, err_of, halts_after, halts_at, halts_touched, over_reached}
use Rattle.space_calls.proofs.LookLemmas.{looked_fault, looked_word, looks_asked, looks_fits}
use Rattle.space_calls.specs.Calls.{Looks}
use Rattle.labelled_disk.specs.declared.evidence.Halt.{Halt}
use Rattle.fault_core.specs.Reach.{Reaches, TouchHalts}
use Rattle.filer_kernel.specs.View.{accepted, disk_of}

asked : (g : given.Over) (c : After-bounds g) → Looks c.args.core.now c.bounds.new.core
asked g c = looks_asked c.requires.size c.bounds.ensures.asked c.bounds.ensures.sees

brought : (g : given.Over) (c : After-activate g) → Reaches (state c.args.core.now) (state c.activate.new.self)
brought g c = reaches_then (state c.args.core.now) (state c.bounds.new.core) (accepted c.args.core.now.filer) c.bounds.ensures.asked.reaches (state c.activate.new.self) c.activate.ensures.brings.reaches

-- ---- It is refused.

pub returns-in-Ok-Err-clause-answers : goal.returns-in-Ok-Err-clause-answers
returns-in-Ok-Err-clause-answers g c = λ volume m r.
    let old = c.args.core.now in
    let known = knows running_laws (whole_core old c.requires.size) r in
    let is = asked_word m.spaces c.args.space c.in-Ok-Err.field-0 c.in-Ok-Err.word c.in-Ok-Err.field-0-is (c.in-Ok-Err.ensures.answer _ _ m.spaces known) in
    looked_word (asked g (goal.at.returns-in-Ok-Err-clause-answers g c).After-bounds) (g.met.D.Disk.in_form (disk_of old.filer)) r (call.Activate c.args.space) c.in-Ok-Err.word (activate_refused m c.args.space c.in-Ok-Err.word is)

pub returns-in-Ok-Err-clause-whole : goal.returns-in-Ok-Err-clause-whole
returns-in-Ok-Err-clause-whole g c = λ volume m s runs there.
    let whole = whole_core c.args.core.now c.requires.size in
    let revealed = knows running_laws whole runs in
    never_refused m c.args.space (kept c.bounds.new.core) (state c.bounds.new.core).slots s c.in-Ok-Err.word there
    (asked_word m.spaces c.args.space c.in-Ok-Err.field-0 c.in-Ok-Err.word c.in-Ok-Err.field-0-is (c.in-Ok-Err.ensures.answer _ _ m.spaces revealed))

pub returns-in-Ok-Err-clause-brought : goal.returns-in-Ok-Err-clause-brought
returns-in-Ok-Err-clause-brought g c = λ volume m s runs there.
    let whole = whole_core c.args.core.now c.requires.size in
    let revealed = knows running_laws whole runs in
    never_brought m c.args.space (kept c.bounds.new.core) (state c.bounds.new.core).slots _ s c.in-Ok-Err.word there
    (asked_word m.spaces c.args.space c.in-Ok-Err.field-0 c.in-Ok-Err.word c.in-Ok-Err.field-0-is (c.in-Ok-Err.ensures.answer _ _ m.spaces revealed))

-- ---- The tables could not be asked.

pub returns-in-Err-clause-answers : goal.returns-in-Err-clause-answers
returns-in-Err-clause-answers g c = λ volume m r.
    let old = c.args.core.now in
    let known = knows running_laws (whole_core old c.requires.size) r in
    looked_fault (asked g (goal.at.returns-in-Err-clause-answers g c).After-bounds) (g.met.D.Disk.in_form (disk_of old.filer)) r (call.Activate c.args.space) c.in-Err.halt (c.in-Err.ensures.sound _ _ m.spaces known)

-- ---- The units were brought in.

pub returns-in-Ok-clause-answers : goal.returns-in-Ok-clause-answers
returns-in-Ok-clause-answers g c = λ volume m r.
    let whole = whole_core c.args.core.now c.requires.size in
    let revealed = knows running_laws whole r in
    let found = asked_range m.spaces c.args.space c.in-Ok-Ok.field-0 c.in-Ok-Ok.run' c.in-Ok-Ok.field-0-is (c.in-Ok-Ok.ensures.answer _ _ m.spaces revealed) in
    let e = c.activate.ensures in
    let came = came_then (state c.args.core.now) (state c.bounds.new.core) (state c.activate.new.self) whole.layout (came_asked c.bounds.ensures.asked) (record { reaches = e.brings.reaches; brings = e.brings.came; known = e.stays.same; same_count = e.stays.intervals }) in
    record {
      carried = (record {
        allowed = allowed_done m (call.Activate c.args.space) Done (activate_there m c.args.space found.0) refl;
        runs = subst (λ (n : Machine). Runs c.activate.new.self volume n) (activate_stays m c.args.space) (still_runs running_laws whole r came);
      });
      sound = tt;
      passes = (still_reveals running_laws whole r (state c.activate.new.self) (g.met.D.Disk.in_form (disk_of c.args.core.now.filer)) (call.Activate c.args.space) (reached_makes (brought g (goal.at.returns-in-Ok-clause-answers g c).After-activate)));
    }

pub returns-in-Ok-clause-whole : goal.returns-in-Ok-clause-whole
returns-in-Ok-clause-whole g c = λ volume m s runs there.
    let whole = whole_core c.args.core.now c.requires.size in
    let revealed = knows running_laws whole runs in
    let found = asked_range m.spaces c.args.space c.in-Ok-Ok.field-0 c.in-Ok-Ok.run' c.in-Ok-Ok.field-0-is (c.in-Ok-Ok.ensures.answer _ _ m.spaces revealed) in
    range_active m.spaces (kept c.activate.new.self) (state c.activate.new.self).slots c.args.space s c.in-Ok-Ok.run' there found.1
    (c.in-Ok.ensures.whole _ _ m.spaces (c.bounds.ensures.asked.same _ _ m.spaces revealed))

pub returns-in-Ok-clause-brought : goal.returns-in-Ok-clause-brought
returns-in-Ok-clause-brought g c = λ volume m s runs there.
    let whole = whole_core c.args.core.now c.requires.size in
    let revealed = knows running_laws whole runs in
    let found = asked_range m.spaces c.args.space c.in-Ok-Ok.field-0 c.in-Ok-Ok.run' c.in-Ok-Ok.field-0-is (c.in-Ok-Ok.ensures.answer _ _ m.spaces revealed) in
    range_brought m.spaces (kept c.activate.new.self) (state c.activate.new.self).slots c.args.space s c.in-Ok-Ok.run' _ _ c.in-Ok._units c.bounds.ensures.asked.reaches.goes.makes.count there found.1
    (c.in-Ok.ensures.units _ _ m.spaces (c.bounds.ensures.asked.same _ _ m.spaces revealed))

-- ---- A unit could not be brought in.

pub returns-in-Err-activate-clause-answers : goal.returns-in-Err-activate-clause-answers
returns-in-Err-activate-clause-answers g c = λ volume m r.
    let whole = whole_core c.args.core.now c.requires.size in
    record {
      carried = tt;
      sound = (c.in-Err-activate.ensures.fails.sound _ _ m.spaces (c.bounds.ensures.asked.same _ _ m.spaces (knows running_laws whole r)));
      passes = (still_reveals running_laws whole r (state c.activate.new.self) (g.met.D.Disk.in_form (disk_of c.args.core.now.filer)) (call.Activate c.args.space) (reached_makes (brought g (goal.at.returns-in-Err-activate-clause-answers g c).After-activate)));
    }

-- ---- Why it failed.

pub returns-in-Err-clause-fails : goal.returns-in-Err-clause-fails
returns-in-Err-clause-fails g c =
    let old = c.args.core.now in
    let new = c.bounds.new.core in
    let broken = BreaksRange (state old) old.intervals c.args.space in
    let breaks = asked_halt (state old) (state new) (accepted old.filer) c.args.space old.intervals c.in-Err.halt c.in-Err.ensures.cause in
    let fails = halts_at c.requires.size c.bounds.ensures.asked.reaches.goes.makes c.in-Err.halt c.in-Err.ensures.cause c.in-Err.ensures.right in
    bringing {why = TouchHalts broken (state old) (state new)} fails (touch_of_reach broken (state old) (state new) c.in-Err.halt breaks) (λ ss s. reach_misses broken (state old) (state new) (space_units ss c.args.space) c.in-Err.halt breaks)

pub returns-in-Err-activate-clause-fails : goal.returns-in-Err-activate-clause-fails
returns-in-Err-activate-clause-fails g c =
    let old = c.args.core.now in
    let mid = c.bounds.new.core in
    let new = c.activate.new.self in
    let first = c.bounds.ensures.asked in
    let failed = c.in-Err-activate.ensures.fails in
    let looks = asked g (goal.at.returns-in-Err-activate-clause-fails g c).After-bounds in
    let fails = halts_touched (looks_fits looks c.requires.size) c.activate.ensures.brings.reaches.goes.makes (err_of {S = Unit {0}} c.in-Err-activate.halt) failed.cause failed.right in
    let read = given_so (TablesSay (state old) (λ b. IsRunAt b c.args.space)) c.in-Ok-Ok.run' c.in-Ok-Ok.field-0 c.in-Ok-Ok.field-0-is c.in-Ok-Ok.ensures.read in
    let why : Halt → Type 0 = TouchHalts (BreaksRange (state old) old.intervals c.args.space) (state old) (state new) in
    let cause = within_touch (state old) (state mid) (accepted old.filer) c.args.space first.reaches old.intervals mid.intervals first.intervals (state new) c.in-Ok-Ok.run' read c.in-Err-activate.halt failed.cause in
    bringing {how = why} {why = why} (halts_after {T = Unit {0}} {why = why} looks fails cause) cause (λ ss s.
    let found = found_run ss c.args.space c.in-Ok-Ok.run' c.in-Ok-Ok.field-0 c.in-Ok-Ok.field-0-is (c.in-Ok-Ok.ensures.seen ss s) in
    run_misses ss c.args.space c.in-Ok-Ok.run' found.1 c.in-Err-activate.halt (failed.missing ss (c.bounds.ensures.sees ss s)))

-- ---- What was written.

pub returns-in-Ok-Err-clause-went : goal.returns-in-Ok-Err-clause-went
returns-in-Ok-Err-clause-went g c = over_reached c.bounds.ensures.asked.reaches

pub returns-in-Err-clause-went : goal.returns-in-Err-clause-went
returns-in-Err-clause-went g c = over_reached c.bounds.ensures.asked.reaches

pub returns-in-Ok-clause-went : goal.returns-in-Ok-clause-went
returns-in-Ok-clause-went g c = over_reached (brought g (goal.at.returns-in-Ok-clause-went g c).After-activate)

pub returns-in-Err-activate-clause-went : goal.returns-in-Err-activate-clause-went
returns-in-Err-activate-clause-went g c = over_reached (brought g (goal.at.returns-in-Err-activate-clause-went g c).After-activate)

-- ---- The tables are revealed.

pub returns-in-Ok-Err-clause-sees : goal.returns-in-Ok-Err-clause-sees
returns-in-Ok-Err-clause-sees g c = λ ss s. (ss, (c.bounds.ensures.sees ss s, shown_here ss))

pub returns-in-Ok-clause-sees : goal.returns-in-Ok-clause-sees
returns-in-Ok-clause-sees g c = λ ss s. (ss, (c.activate.ensures.stays.sees ss (c.bounds.ensures.sees ss s), shown_here ss))
