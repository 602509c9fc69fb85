-- What the labels of a disk reveal.
use Rattle.std.specs.Prelude.{List}
use Rattle.labelled_disk.specs.Sectors.{Sector}
use Rattle.labelled_disk.specs.FilesOn.{files_on}
use Rattle.label_survey.specs.Runs.{AreRunsOf}
use Rattle.label_survey.specs.Survey.{Reveals}
use Rattle.label_survey.specs.declared.triples.Triple.{Triple}
use Rattle.volume_view.specs.declared.found.Found.{Found}
use Rattle.volume_view.specs.Files.{AreLinesOf}
use Rattle.volume_view.specs.Leftovers.{AreLeftovers}
use Rattle.volume_view.specs.Listed.{AreSorted}
use Rattle.volume_view.specs.Rows.{AreJoined}

-- what each data sector is, and what would be freed and lost; a line for each permanent file, in ascending identifiers;
-- where they lie: the runs of exactly the leaders and pages that the files need, by identifier and page, each as long
-- as it can be; and what is left over
pub record IsFound {A : Type 0} (d : List Sector) (found : Found A) : Type 0 where
  pub survey : Reveals d found.survey.sector_states.items found.survey.tally found.survey.lost.items
  pub files : AreLinesOf d found.files.items (files_on d)
  pub triples : List Triple
  pub sorted : AreSorted d triples
  pub runs : AreRunsOf triples found.runs.items
  pub joined : AreJoined found.runs.items
  pub leftovers : AreLeftovers d found.leftovers.items
