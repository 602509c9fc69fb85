use Rattle.std.proofs.Common.{inl, inr, sym, ap, ◌∙◌, subst}
use Rattle.volume_pair.specs.declared.fault.PairStart.TheVariants as unstarted
use Rattle.labelled_disk.specs.declared.layout.RootFault.TheVariants as fault
use Rattle.pilot_top.specs.declared.status.Status.{Status}
use Rattle.pilot_top.specs.Replicating.{Replicated, cause_after}
use Rattle.pilot_top.specs.World.{world}
use Rattle.pilot_top.proofs.JudgedRootLemmas.{of_unstarted}
use Rattle.pilot_top.proofs.ReplicatingLemmas.{ends_so, map_unstarted, not_opened, put_before, replicated}
use Rattle.pilot_top.proofs.replicating.replicate_on.Goals as goal

pub returns : goal.returns
returns g c =
    let how = c.run_lines-how.result in
    let ran = c.run_lines-how.ensures.ran in
    let kept = c.run_lines-how.ensures.kept in
    let ends = c.end_lines.ensures in
    let before = world (g.D.Disk.state c.args.disk.now) (g.S.Source.left c.args.source.now) (g.S.Source.faults c.args.source.now) (g.K.Sink.took c.args.sink.now) (g.K.Sink.faults c.args.sink.now) in
    let after = world (g.D.Disk.state c.run_lines-how.new.disk) (g.S.Source.left c.run_lines-how.new.source) (g.S.Source.faults c.run_lines-how.new.source) (g.K.Sink.took c.end_lines.new.sink) (g.K.Sink.faults c.end_lines.new.sink) in
    let heard = g.K.Sink.took c.run_lines-how.new.sink in
    let then = g.K.Sink.faults c.run_lines-how.new.sink in
    let second = g.E.Disk.state c.args.other.now in
    let second_after = g.E.Disk.state c.run_lines-how.new.other in
    let put = put_before heard after.took before.sink_faults then after.sink_faults (cause_after how) ran.reason.sink_later ends.line in
    record {
      replicated = subst (λ (s : Status). Replicated s before after second second_after) (sym ends.status)
          (replicated how before after heard then second second_after ran ends.later (map_unstarted how (λ both. ap g.K.Sink.took both.1) kept) put);
      keeps_source = λ words meant takes. elim takes [
        | inl none ↦ absurd (none (inr (inr (c.args.frames, meant))))
        | inr (inl usage) ↦ absurd ((ends_so how).3 (sym ends.status ∙ usage))
        | inr (inr (inl opened)) ↦ let all = not_opened _ heard after.took how put (sym ends.status ∙ opened) in (of_unstarted how kept all.0 all.1).0
        | inr (inr (inr (inl memory))) ↦ (of_unstarted how kept unstarted.NoMemory ((ends_so how).0 (sym ends.status ∙ memory))).0
        | inr (inr (inr (inr (d, why, revealed, refused)))) ↦ elim (ran.refuses.first d why revealed refused) [
          | inl (inl is) ↦ (of_unstarted how kept (unstarted.From why) is).0
          | inl (inr is) ↦ (of_unstarted how kept unstarted.NoMemory is).0
          | inr is ↦ (of_unstarted how kept (unstarted.From fault.Disk) is).0
        ]
      ];
      understood = λ is. (ends_so how).3 (sym ends.status ∙ is);
      keeps_sink = λ is.
          let none = (ends_so how).0 (sym ends.status ∙ is) in
          ends.quiet none ∙ (of_unstarted how kept unstarted.NoMemory none).1;
    }
