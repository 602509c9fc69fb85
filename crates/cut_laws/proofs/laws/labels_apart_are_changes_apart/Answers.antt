use Rattle.cut_laws.proofs.ApartRowLemmas.{labels_then, pages_apart}
use Rattle.cut_laws.proofs.LabelsApartLemmas.{labels_apart}
use Rattle.cut_laws.proofs.LeaderWriteLemmas.{leaders_change}
use Rattle.cut_laws.proofs.laws.labels_apart_are_changes_apart.Goals as goal

pub returns-clause-leaders : goal.returns-clause-leaders
returns-clause-leaders c = leaders_change

pub returns-clause-apart : goal.returns-clause-apart
returns-clause-apart c = labels_apart

pub returns-clause-rows : goal.returns-clause-rows
returns-clause-rows c = labels_then

pub returns-clause-pages : goal.returns-clause-pages
returns-clause-pages c = pages_apart
