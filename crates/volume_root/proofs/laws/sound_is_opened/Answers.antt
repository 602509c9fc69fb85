use Rattle.volume_root.proofs.FlagLemmas.{sound_is_opened}
use Rattle.volume_root.proofs.laws.sound_is_opened.Goals as goal

pub returns : goal.returns
returns c = sound_is_opened
