use Rattle.std.proofs.Common.{◌∙◌, ap, sym, slice_index_or, arith}
use Rattle.std.proofs.lemmas.Option.{slice_get-get_or}
use Rattle.labelled_disk.specs.Sectors.{free_label}
use Rattle.label_survey.specs.declared.sector_state.SectorState.TheVariants.{Free}
use Rattle.label_survey.proofs.TripleLemmas.{collected_kept, collected_other}
use Rattle.label_survey.proofs.triples.collect_triples.Goals as goal
use Rattle.label_survey.proofs.triples.collect_triples.Goals.{then-is_kept+in_ok-push, else-is_kept}

pub loop-i-preserved : goal.loop-i-preserved
loop-i-preserved g c =
    let at = slice_get-get_or c.args.labels.now c.loop-i.i free_label c.loop-i-test.true in
    let stands = slice_get-get_or c.args.sector_states.now c.loop-i.i Free (omega (arith, c.loop-i-test.true, c.requires.same_length)) in
    elim c.if-is_kept.branch [
      | then-is_kept+in_ok-push w ↦
          ap (λ v. v.items) w.triples-is
          ∙ collected_kept c.args.first c.args.labels.now c.args.sector_states.now c.loop-i.i (slice_index_or c.args.labels.now c.loop-i.i free_label) (slice_index_or c.args.sector_states.now c.loop-i.i Free) c.loop-i.triples.items w.push.new.self.items _
          c.loop-i.invariant w.in_ok-push.ensures.items (omega (arith, c.requires.few, c.loop-i-test.true)) (sym c.is_kept.ensures ∙ w.if-is_kept.true) at stands
      | else-is_kept w ↦
          ap (λ v. v.items) w.triples-is
          ∙ collected_other c.args.first c.args.labels.now c.args.sector_states.now c.loop-i.i (slice_index_or c.args.labels.now c.loop-i.i free_label) (slice_index_or c.args.sector_states.now c.loop-i.i Free) c.loop-i.triples.items
          c.loop-i.invariant (sym c.is_kept.ensures ∙ w.if-is_kept.false) at stands
    ]
