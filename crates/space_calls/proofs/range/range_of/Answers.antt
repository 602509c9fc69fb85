use Rattle.fault_core.specs.Core.{state}
use Rattle.space_calls.specs.Halts.{SlotHalts}
use Rattle.space_calls.specs.Outcomes.{HaltsBy}
use Rattle.space_calls.proofs.RunLemmas.{moved_size}
use Rattle.space_calls.proofs.OutcomeLemmas.{given_or_not, halts_reached}
use Rattle.space_calls.proofs.range.range_of.Goals as goal

pub returns-clause-answer : goal.returns-clause-answer
returns-clause-answer g c =
    let answer = rw c.frame_count-frames.ensures.same at c.bounds.ensures.answer in
    let sound = rw c.frame_count-frames.ensures.same at c.bounds.ensures.sound in
    λ x named ss known. given_or_not _ _ c.bounds.result (answer x named ss known) (sound x named ss known)

pub returns-clause-read : goal.returns-clause-read
returns-clause-read g c = rw c.frame_count-frames.ensures.same at c.bounds.ensures.read

pub returns-clause-fails : goal.returns-clause-fails
returns-clause-fails g c =
    let mid = c.frame_count-frames.new.core in
    let size = moved_size c.args.core.now mid c.frame_count-frames.ensures.same c.requires.size in
    let fails : HaltsBy (SlotHalts c.args.space (state mid) (state c.bounds.new.core)) mid c.bounds.new.core c.bounds.result =
    halts_reached size c.bounds.ensures.asked.reaches.goes.makes c.bounds.result c.bounds.ensures.cause c.bounds.ensures.right in
    rw c.frame_count-frames.ensures.same at fails

pub returns-clause-still : goal.returns-clause-still
returns-clause-still g c = rw c.frame_count-frames.ensures.same at c.bounds.ensures.sees
