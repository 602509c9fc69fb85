use Rattle.std.proofs.Common.{List, ◌∙◌, ap, subst, sym}
use Rattle.label_survey.specs.declared.sector_state.SectorState.{SectorState}
use Rattle.label_survey.specs.SectorStates.{AreSectorStates}
use Rattle.label_survey.specs.Survey.{is_lost, places_by}
use Rattle.label_survey.proofs.TallyLemmas.{reveals}
use Rattle.label_survey.proofs.survey.survey_labels.Goals as goal

pub returns-clause-reveals : goal.returns-clause-reveals
returns-clause-reveals g c = λ d at labels.
    let are = c.in_ok-sector_states.ensures.sector_states d labels in
    reveals d c.in_ok-sector_states.sector_states.items are c.tally_sectors-tally.result c.args.first c.in_ok-lost.lost.items
    (c.tally_sectors-tally.ensures.tallies d (subst (λ (l : List SectorState). AreSectorStates d l) (sym c.deref-2.ensures.value) are))
    at (c.in_ok-lost.ensures ∙ ap (places_by is_lost c.args.first) c.deref.ensures.value)
