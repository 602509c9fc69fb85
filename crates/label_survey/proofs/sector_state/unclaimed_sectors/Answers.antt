use Rattle.std.proofs.Common.{◌∙◌}
use Rattle.label_survey.specs.SectorStates.{unclaimed}
use Rattle.label_survey.proofs.ScanLemmas.{pushed_more}
use Rattle.label_survey.proofs.sector_state.unclaimed_sectors.Goals as goal

pub loop-i-preserved : goal.loop-i-preserved
loop-i-preserved g c =
    c.in_ok-push.ensures.items
    ∙ pushed_more unclaimed c.args.labels.now c.loop-i.i _ c.loop-i.sector_states.items c.unclaimed.result c.loop-i-test.true c.loop-i.invariant c.unclaimed.ensures
