use Rattle.convert_laws.proofs.WriteLemmas.{first_writes_place}
use Rattle.convert_laws.proofs.laws.first_writes_place.Goals as goal

pub returns : goal.returns
returns c = first_writes_place
