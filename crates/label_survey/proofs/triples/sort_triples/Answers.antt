use Rattle.label_survey.proofs.SortLemmas.{in_order}
use Rattle.label_survey.specs.contracts.triples.TripleOrd.TheImpl.Laws as order
use Rattle.label_survey.proofs.triples.sort_triples.Goals as goal

pub returns-clause-order : goal.returns-clause-order
returns-clause-order c = in_order (λ t. t.id) (λ t. t.page) (λ t. t.sector) c.sort_unstable.new.self order.total-law c.sort_unstable.ensures.sorted
