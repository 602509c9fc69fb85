use Rattle.volume_root.proofs.MappedLemmas.{sound_are_mapped}
use Rattle.volume_root.proofs.laws.sound_volumes_are_mapped.Goals as goal

pub returns : goal.returns
returns c = sound_are_mapped
