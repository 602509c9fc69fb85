use Rattle.std.proofs.Common.{Result, refl, ◌∙◌, subst}
use Rattle.trace_io.specs.PairReading.{pair_reading}
use Rattle.volume_pair.specs.declared.fault.PairStart.{PairStart}
use Rattle.pair_session.specs.Owned.{RepliesTo}
use Rattle.pair_session.specs.Second.{Replicates}
use Rattle.pilot_top.specs.Replicating.{JudgesRoots}
use Rattle.pilot_top.proofs.JudgedRootLemmas.{none_refused, refused_lines}
use Rattle.pilot_top.proofs.ReplicatedStates.{ended_less, replicates_before, replies_before}
use Rattle.pilot_top.proofs.ReplicatingLemmas.{read_before, shown_before, wrote_before}
use Rattle.pilot_top.proofs.replicating.run_lines.Goals as goal

-- one of both volumes can't be opened
pub returns-in-Err : goal.returns-in-Err
returns-in-Err g c =
    let from = g.D.Disk.state c.args.disk.now in
    let to = g.E.Disk.state c.args.other.now in
    let new_from = g.D.Disk.state c.judge_roots.new.disk in
    let new_to = g.E.Disk.state c.judge_roots.new.other in
    let judges = subst (λ (r : Result (Unit {0}) PairStart). JudgesRoots r from to new_from new_to) c.in-Err.is c.judge_roots.ensures in
    record { ran = refused_lines from to new_from new_to c.in-Err.why judges _ _ _ _; kept = (refl, refl) }

-- both can
pub returns-in-Ok : goal.returns-in-Ok
returns-in-Ok g c =
    let from = g.D.Disk.state c.args.disk.now in
    let to = g.E.Disk.state c.args.other.now in
    let mid = g.D.Disk.state c.judge_roots.new.disk in
    let mid_to = g.E.Disk.state c.judge_roots.new.other in
    let new = g.D.Disk.state c.replicate.new.from in
    let new_to = g.E.Disk.state c.replicate.new.to in
    let judges = subst (λ (r : Result (Unit {0}) PairStart). JudgesRoots r from to mid mid_to) c.in-Ok.is c.judge_roots.ensures in
    let e = c.replicate.ensures in
    let how = c.replicate.result in
    record {
      ran = record {
        replies = λ d f b t revealed there sound sound_too source sink.
            ended_less (Replicates how d f (pair_reading b) mid_to new_to) (Replicates how d f (pair_reading b) to new_to) (replicates_before how d f (pair_reading b) to mid_to new_to judges.to_reads) how b _ t _
            (e.replies d f b t (judges.from_reads.contents ∙ revealed) (judges.to_reads.contents ∙ there) sound sound_too source sink);
        texts = λ b t source sink. ended_less (RepliesTo how (pair_reading b) mid_to new_to) (RepliesTo how (pair_reading b) to new_to) (replies_before how (pair_reading b) to mid_to new_to judges.to_reads) how b _ t _ (e.texts b t source sink);
        from = read_before judges.from_reads e.from;
        to = wrote_before how to mid_to new_to judges.to_reads e.to;
        judged = λ d f revealed there. e.judged d f (judges.from_reads.contents ∙ revealed) (judges.to_reads.contents ∙ there);
        shown = shown_before how from to mid mid_to new new_to judges.from_reads.faults judges.to_reads.faults e.shown;
        refuses = none_refused how from to mid mid_to judges;
        reason = e.reason;
      };
      kept = e.kept;
    }
