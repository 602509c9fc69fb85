use Rattle.swapper_kernel.specs.Goes.{no_page}
use Rattle.fault_core.specs.Reach.{no_break}
use Rattle.fault_core.specs.ReachLaws.{reach_misses}
use Rattle.filer_kernel.specs.View.{accepted, disk_of, swapper_of, view_of}
use Rattle.running_words.specs.RunningLaws.{IsWhole}
use Rattle.pilot_engine.proofs.AloneLemmas.{own_makes}
use Rattle.pilot_engine.proofs.StartRuns.{begun_runs, bytes, known_before, tables_before}
use Rattle.filer_kernel.specs.EvidenceLaws.{fits}
use Rattle.fault_core.proofs.EvidenceLemmas.{shows_evidence}
use Rattle.running_words.specs.MovingLaws.{keeps_moved, reach_reasons}
use Rattle.running_words.specs.BlamelessLaws.{never_blames_form}
use Rattle.pilot_engine.proofs.InitialStateLemmas.{moves_of_tables}
use Rattle.std.proofs.Common.{subst}
use Rattle.pilot_engine.specs.Beginning.{TablesHalts}
use Rattle.pilot_engine.proofs.start.write_tables.Goals as goal

pub returns-clause-runs : goal.returns-clause-runs
returns-clause-runs g c = λ d volume s.
    let old = c.args.filer.now in
    let whole : IsWhole (view_of old) = record { layout = (accepted old); size = c.requires.size } in
    let reveals = c.in-Ok.ensures.begun (bytes (view_of old) volume d whole s) (tables_before (view_of old) volume d whole s) in
    let now = begun_runs (view_of old) volume d whole s (view_of c.begin.new.filer) c.begin.ensures.kept c.begin.ensures.came (g.met.D.Disk.in_form (disk_of c.begin.new.filer)) c.look_at_frames.ensures.pages reveals in
    rw c.look_at_frames.ensures.same now

pub returns-in-Err-clause-sound : goal.returns-in-Err-clause-sound
returns-in-Err-clause-sound g c = λ d volume s.
    let old = c.args.filer.now in
    let whole : IsWhole (view_of old) = record { layout = (accepted old); size = c.requires.size } in
    c.in-Err.ensures.sound s.stands.memory s.stands.is.named (bytes (view_of old) volume d whole s) (known_before (view_of old) volume d whole s)

pub returns-clause-makes : goal.returns-clause-makes
returns-clause-makes g c = rw c.look_at_frames.ensures.same (own_makes c.begin.ensures.kept.goes.makes)

pub returns-in-Err-clause-makes : goal.returns-in-Err-clause-makes
returns-in-Err-clause-makes g c = own_makes c.begin.ensures.kept.goes.makes

pub returns-in-Err-clause-fails : goal.returns-in-Err-clause-fails
returns-in-Err-clause-fails g c =
    record {
      cause = c.in-Err.ensures.cause;
      counted = λ is. subst (TablesHalts (view_of c.args.filer.now) (view_of c.begin.new.filer)) is c.in-Err.ensures.cause;
      evidence_seen = shows_evidence _ (view_of c.args.filer.now) (view_of c.begin.new.filer) (fits (swapper_of c.args.filer.now) c.requires.size) c.begin.ensures.kept.goes.makes c.in-Err.halt c.in-Err.ensures.cause;
    }

-- ---- What began stays a reason.

pub returns-clause-keeps_to : goal.returns-clause-keeps_to
returns-clause-keeps_to g c = λ o keeps.
    let v = view_of c.args.filer.now in
    let w = view_of c.begin.new.filer in
    rw c.look_at_frames.ensures.same (keeps.0, keeps_moved o v w keeps.0 (accepted c.args.filer.now) keeps.1 (moves_of_tables v w c.begin.ensures.kept))

pub returns-in-Err-clause-reasons : goal.returns-in-Err-clause-reasons
returns-in-Err-clause-reasons g c = λ o keeps.
    reach_reasons o (view_of c.args.filer.now) (view_of c.begin.new.filer) keeps.0 _ (accepted c.args.filer.now) keeps.1 c.begin.ensures.kept.goes.makes c.in-Err.halt c.in-Err.ensures.cause

-- ---- What it sees.

pub returns-clause-sees : goal.returns-clause-sees
returns-clause-sees g c = λ b revealed. rw c.look_at_frames.ensures.same (c.in-Ok.ensures.sees b revealed)

pub returns-in-Err-clause-sees : goal.returns-in-Err-clause-sees
returns-in-Err-clause-sees g c = λ b revealed. (never_blames_form c.in-Err.halt (c.in-Err.ensures.right b revealed), reach_misses no_break (view_of c.args.filer.now) (view_of c.begin.new.filer) no_page c.in-Err.halt c.in-Err.ensures.cause)
