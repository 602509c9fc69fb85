use Rattle.std.proofs.Common.{◌∙◌, ap, sym, slice_index_or, arith}
use Rattle.std.proofs.lemmas.Option.{slice_get-get_or}
use Rattle.labelled_disk.specs.Sectors.{free_label}
use Rattle.label_survey.specs.declared.sector_state.SectorState.TheVariants.{Free}
use Rattle.volume_convert.proofs.HeadLoops.{collected_head, collected_none}
use Rattle.volume_convert.proofs.heads.collect_heads.Goals as goal
use Rattle.volume_convert.proofs.heads.collect_heads.Goals.{then-is_leader+in_ok-push, else-is_leader}

pub loop-i-preserved : goal.loop-i-preserved
loop-i-preserved g c =
    let at = slice_get-get_or c.args.labels.now c.loop-i.i free_label c.loop-i-test.true in
    let stands = slice_get-get_or c.args.sector_states.now c.loop-i.i Free (omega (arith, c.loop-i-test.true, c.requires.same_length)) in
    elim c.if-is_leader.branch [
      | then-is_leader+in_ok-push w ↦
          ap (λ v. v.items) w.heads-is
          ∙ collected_head c.args.labels.now c.args.sector_states.now c.loop-i.i (slice_index_or c.args.labels.now c.loop-i.i free_label) (slice_index_or c.args.sector_states.now c.loop-i.i Free) c.loop-i.heads.items w.push.new.self.items _
          c.loop-i.invariant w.in_ok-push.ensures.items w.of.ensures (sym c.is_leader.ensures ∙ w.if-is_leader.true) at stands
      | else-is_leader w ↦
          ap (λ v. v.items) w.heads-is
          ∙ collected_none c.args.labels.now c.args.sector_states.now c.loop-i.i (slice_index_or c.args.labels.now c.loop-i.i free_label) (slice_index_or c.args.sector_states.now c.loop-i.i Free) c.loop-i.heads.items
          c.loop-i.invariant (sym c.is_leader.ensures ∙ w.if-is_leader.false) at stands
    ]
