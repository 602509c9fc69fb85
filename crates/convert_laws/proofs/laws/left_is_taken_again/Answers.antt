use Rattle.convert_laws.proofs.ForLemmas.{left_is_taken_again}
use Rattle.convert_laws.proofs.laws.left_is_taken_again.Goals as goal

pub returns : goal.returns
returns c = left_is_taken_again
