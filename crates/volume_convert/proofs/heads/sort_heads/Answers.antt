use Rattle.label_survey.proofs.SortLemmas.{in_order}
use Rattle.volume_convert.specs.contracts.heads.HeadOrd.TheImpl.Laws as order
use Rattle.volume_convert.proofs.heads.sort_heads.Goals as goal

pub returns-clause-order : goal.returns-clause-order
returns-clause-order c = in_order (λ h. h.id) (λ h. h.kind) (λ h. h.flags) c.sort_unstable.new.self order.total-law c.sort_unstable.ensures.sorted
