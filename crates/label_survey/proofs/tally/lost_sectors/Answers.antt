use Rattle.std.proofs.Common.{◌∙◌, ap, sym, slice_index_or, arith}
use Rattle.std.proofs.lemmas.Option.{slice_get-get_or}
use Rattle.label_survey.specs.declared.sector_state.SectorState.TheVariants.{Free}
use Rattle.label_survey.specs.Survey.{is_lost}
use Rattle.label_survey.proofs.TallyLemmas.{lost_more, place_same}
use Rattle.label_survey.proofs.tally.lost_sectors.Goals as goal
use Rattle.label_survey.proofs.tally.lost_sectors.Goals.{then-is_lost+in_ok-push, else-is_lost}

pub loop-i-preserved : goal.loop-i-preserved
loop-i-preserved g c =
    let at = slice_get-get_or c.args.sector_states.now c.loop-i.i Free c.loop-i-test.true in
    elim c.if-is_lost.branch [
      | then-is_lost+in_ok-push w ↦
          ap (λ v. v.items) w.lost-is
          ∙ lost_more c.args.first c.args.sector_states.now c.loop-i.i (slice_index_or c.args.sector_states.now c.loop-i.i Free) c.loop-i.lost.items w.push.new.self.items _
          c.loop-i.invariant w.in_ok-push.ensures.items (omega (arith, c.requires.few, c.loop-i-test.true)) at (sym c.is_lost.ensures ∙ w.if-is_lost.true)
      | else-is_lost w ↦
          ap (λ v. v.items) w.lost-is
          ∙ c.loop-i.invariant
          ∙ sym (place_same is_lost c.args.first c.args.sector_states.now c.loop-i.i (slice_index_or c.args.sector_states.now c.loop-i.i Free) at (sym c.is_lost.ensures ∙ w.if-is_lost.false))
    ]
