use Rattle.swapper_kernel.specs.ThereLaws.{reveals_there}
use Rattle.swapper_kernel.proofs.laws.maps_are_revealed.Goals as goal

pub returns : goal.returns
returns c = record { there = reveals_there }
