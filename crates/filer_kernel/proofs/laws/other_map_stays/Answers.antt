use Rattle.filer_kernel.proofs.LawLemmas.{marks_stay, named_stays}
use Rattle.filer_kernel.proofs.laws.other_map_stays.Goals as goal

pub returns : goal.returns
returns c = record { marks = marks_stay; named = named_stays }
