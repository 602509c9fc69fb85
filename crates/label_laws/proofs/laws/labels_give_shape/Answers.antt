use Rattle.label_laws.proofs.ShapeLemmas as laws
use Rattle.label_laws.proofs.PageLemmas as pages
use Rattle.label_laws.proofs.laws.labels_give_shape.Goals as goal

pub returns-clause-labels : goal.returns-clause-labels
returns-clause-labels c with_temporary = laws.labels_give_shape with_temporary

pub returns-clause-mixed : goal.returns-clause-mixed
returns-clause-mixed c with_temporary = laws.mixed_shapes with_temporary

pub returns-clause-files : goal.returns-clause-files
returns-clause-files c = laws.same_by_pages

pub returns-clause-pages : goal.returns-clause-pages
returns-clause-pages c with_temporary = pages.pages_by_sectors with_temporary
