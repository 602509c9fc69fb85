use Rattle.filer_kernel.proofs.StayLemmas.{tables_revealed}
use Rattle.filer_kernel.proofs.laws.tables_revealed_stay.Goals as goal

pub returns : goal.returns
returns c = tables_revealed
