use Rattle.std.proofs.Common.{◌∙◌, sym, subst}
use Rattle.label_survey.specs.SectorStates.{AreSectorStates}
use Rattle.volume_view.specs.Listed.{AreSorted}
use Rattle.volume_view.proofs.found.find_files.Goals as goal

pub returns : goal.returns
returns g c = λ d at are.
    let reveals = c.in_ok-survey.ensures.reveals d at are in
    let needed = c.in_ok-triples.ensures.needed d at are (subst (AreSectorStates d) (sym c.deref.ensures.value) reveals.sector_states) in
    let sorted : AreSorted d c.in_ok-triples.triples.items = record { needed = needed; up = c.in_ok-triples.ensures.order } in
    record {
      survey = reveals;
      files = c.in_ok-files.ensures d at are (subst (AreSorted d) (sym c.deref-2.ensures.value) sorted);
      triples = c.in_ok-triples.triples.items;
      sorted = sorted;
      runs = record { same = c.in_ok-runs.ensures.pages ∙ c.deref-3.ensures.value; long = c.in_ok-runs.ensures.joined.long };
      joined = c.in_ok-runs.ensures.joined;
      leftovers = c.in_ok-leftovers.ensures d at are (subst (AreSectorStates d) (sym c.deref-4.ensures.value) reveals.sector_states);
    }
