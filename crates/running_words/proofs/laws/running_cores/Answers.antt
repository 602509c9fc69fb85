-- What a core knows by the machine that it stands for, and which machine it stands for after a call.
use Rattle.running_words.proofs.RunningLemmas.{running_laws}
use Rattle.running_words.proofs.laws.running_cores.Goals as goal

pub returns : goal.returns
returns c = running_laws
