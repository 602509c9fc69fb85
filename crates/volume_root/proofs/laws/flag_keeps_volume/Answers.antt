use Rattle.volume_root.proofs.FlagLemmas.{flag_keeps_volume}
use Rattle.volume_root.proofs.laws.flag_keeps_volume.Goals as goal

pub returns : goal.returns
returns c = flag_keeps_volume
