use Rattle.volume_root.proofs.NewVolume.{new_is_empty}
use Rattle.volume_root.proofs.laws.new_volume_is_empty.Goals as goal

pub returns : goal.returns
returns c = new_is_empty
