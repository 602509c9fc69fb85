use Rattle.label_survey.proofs.SortLemmas.{in_order}
use Rattle.label_survey.specs.contracts.entries.EntryOrd.TheImpl.Laws as order
use Rattle.label_survey.proofs.entries.sort_entries.Goals as goal

pub returns-clause-order : goal.returns-clause-order
returns-clause-order c = in_order (λ e. e.id) (λ e. e.place) (λ e. e.sector) c.sort_unstable.new.self order.total-law c.sort_unstable.ensures.sorted
