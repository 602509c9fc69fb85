use Rattle.convert_laws.proofs.ForLemmas.{conversions_convert}
use Rattle.convert_laws.proofs.laws.conversions_convert.Goals as goal

pub returns : goal.returns
returns c = conversions_convert
