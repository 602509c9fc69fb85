use Rattle.filer_kernel.proofs.StayLemmas.{marks_before, named_before}
use Rattle.filer_kernel.proofs.laws.maps_stay.Goals as goal

pub returns : goal.returns
returns c = record { marks = marks_before; named = named_before }
