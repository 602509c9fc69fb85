use Rattle.filer_kernel.proofs.LawLemmas.{are_of_more, are_of_fewer}
use Rattle.filer_kernel.proofs.laws.runs_stay.Goals as goal

pub returns : goal.returns
returns c = record { more = are_of_more; fewer = are_of_fewer }
