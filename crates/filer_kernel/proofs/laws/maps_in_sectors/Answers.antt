use Rattle.filer_kernel.proofs.LawLemmas.{marks_in_sectors, named_in_sectors}
use Rattle.filer_kernel.proofs.laws.maps_in_sectors.Goals as goal

pub returns : goal.returns
returns c = record { marks = marks_in_sectors; named = named_in_sectors }
