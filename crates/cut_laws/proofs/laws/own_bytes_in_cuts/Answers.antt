use Rattle.cut_laws.proofs.OwnLemmas.{own_bytes}
use Rattle.cut_laws.proofs.laws.own_bytes_in_cuts.Goals as goal

pub returns : goal.returns
returns c = own_bytes
