use Rattle.label_laws.proofs.MixedLemmas as laws
use Rattle.label_laws.proofs.MixedRunLemmas as runs
use Rattle.label_laws.proofs.VolumeLemmas as volumes
use Rattle.label_laws.proofs.laws.labels_by_label_writes.Goals as goal

pub returns-clause-labels : goal.returns-clause-labels
returns-clause-labels c = laws.labels_by_label_writes

pub returns-clause-sectors : goal.returns-clause-sectors
returns-clause-sectors c = laws.sector_stays

pub returns-clause-stands : goal.returns-clause-stands
returns-clause-stands c with_temporary serial counter = laws.page_stands with_temporary serial counter

pub returns-clause-stays : goal.returns-clause-stays
returns-clause-stays c with_temporary serial counter = laws.page_stays with_temporary serial counter

pub returns-clause-last : goal.returns-clause-last
returns-clause-last c = laws.last_page_stands

pub returns-clause-shows : goal.returns-clause-shows
returns-clause-shows c with_temporary serial counter = laws.last_page_shows with_temporary serial counter

pub returns-clause-volumes : goal.returns-clause-volumes
returns-clause-volumes c with_temporary = volumes.mixed_laws with_temporary

pub returns-clause-rises : goal.returns-clause-rises
returns-clause-rises c = runs.label_count_rises

pub returns-clause-runs : goal.returns-clause-runs
returns-clause-runs c with_temporary serial counter = runs.mixed_runs with_temporary serial counter
