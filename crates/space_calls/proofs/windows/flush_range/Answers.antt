use Rattle.std.proofs.Common.{◌+◌}
use Rattle.fault_core.specs.Core.{state}
use Rattle.fault_core.specs.Kill.{BreaksWithin}
use Rattle.fault_core.specs.Reach.{ReachHalts}
use Rattle.space_calls.specs.Outcomes.{HaltsBy}
use Rattle.space_calls.proofs.RunLemmas.{knows, moved_runs, moved_size}
use Rattle.space_calls.proofs.LookLemmas.{looks_moved}
use Rattle.space_calls.proofs.OutcomeLemmas.{done_or_not, halts_core}
use Rattle.space_calls.proofs.windows.flush_range.Goals as goal
use Rattle.filer_kernel.specs.View.{accepted}

pub returns-clause-rest : goal.returns-clause-rest
returns-clause-rest g c = λ volume m r.
    let old = c.args.core.now in
    let core = c.frame_count-frames.new.core in
    let size = moved_size old core c.frame_count-frames.ensures.same c.requires.size in
    let runs = moved_runs old core volume m c.frame_count-frames.ensures.same r in
    let known = knows core (accepted core.filer) size volume m runs in
    done_or_not _ _ c.flush.result (c.flush.ensures.clean _ _ m.spaces known) (c.flush.ensures.fails.sound _ _ m.spaces known)

pub returns-clause-looks : goal.returns-clause-looks
returns-clause-looks g c = looks_moved c.frame_count-frames.ensures.same c.requires.size c.flush.ensures.brings.reaches c.flush.ensures.brings.came c.flush.ensures.stays.intervals c.flush.ensures.stays.same c.flush.ensures.stays.sees

pub returns-clause-fails : goal.returns-clause-fails
returns-clause-fails g c =
    let mid = c.frame_count-frames.new.core in
    let size = moved_size c.args.core.now mid c.frame_count-frames.ensures.same c.requires.size in
    let fails : HaltsBy (ReachHalts (BreaksWithin (state mid) mid.intervals c.args.first (c.args.first + c.args.pages)) (state mid) (state c.flush.new.self)) mid c.flush.new.self c.flush.result =
    halts_core size c.flush.ensures.brings.reaches.goes.makes c.flush.result c.flush.ensures.fails in
    rw c.frame_count-frames.ensures.same at fails
