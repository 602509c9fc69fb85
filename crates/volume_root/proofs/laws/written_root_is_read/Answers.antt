use Rattle.volume_root.proofs.WrittenLemmas.{read_back}
use Rattle.volume_root.proofs.laws.written_root_is_read.Goals as goal

pub returns : goal.returns
returns c = read_back
