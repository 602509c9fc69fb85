use Rattle.std.proofs.Common.{◌+◌}
use Rattle.fault_core.specs.Core.{state}
use Rattle.fault_core.specs.Kill.{BreaksWithin}
use Rattle.fault_core.specs.Reach.{ReachHalts}
use Rattle.space_calls.specs.Outcomes.{HaltsBy}
use Rattle.space_calls.proofs.RunLemmas.{knows, moved_runs, moved_size}
use Rattle.space_calls.proofs.LookLemmas.{looks_moved}
use Rattle.space_calls.proofs.OutcomeLemmas.{done_or_not, halts_core}
use Rattle.space_calls.proofs.windows.evict_range.Goals as goal
use Rattle.filer_kernel.specs.View.{accepted}

pub returns-clause-rest : goal.returns-clause-rest
returns-clause-rest g c = λ volume m r.
    let old = c.args.core.now in
    let core = c.frame_count-frames.new.core in
    let size = moved_size old core c.frame_count-frames.ensures.same c.requires.size in
    let runs = moved_runs old core volume m c.frame_count-frames.ensures.same r in
    let known = knows core (accepted core.filer) size volume m runs in
    done_or_not _ _ c.evict.result (c.evict.ensures.gone _ _ m.spaces known) (c.evict.ensures.fails.sound _ _ m.spaces known)

pub returns-clause-looks : goal.returns-clause-looks
returns-clause-looks g c = looks_moved c.frame_count-frames.ensures.same c.requires.size c.evict.ensures.brings.reaches c.evict.ensures.brings.came c.evict.ensures.stays.intervals c.evict.ensures.stays.same c.evict.ensures.stays.sees

pub returns-clause-fails : goal.returns-clause-fails
returns-clause-fails g c =
    let mid = c.frame_count-frames.new.core in
    let size = moved_size c.args.core.now mid c.frame_count-frames.ensures.same c.requires.size in
    let fails : HaltsBy (ReachHalts (BreaksWithin (state mid) mid.intervals c.args.first (c.args.first + c.args.pages)) (state mid) (state c.evict.new.self)) mid c.evict.new.self c.evict.result =
    halts_core size c.evict.ensures.brings.reaches.goes.makes c.evict.result c.evict.ensures.fails in
    rw c.frame_count-frames.ensures.same at fails
