use Rattle.volume_root.proofs.ThreeFilesLemmas.{three_files_sound}
use Rattle.volume_root.proofs.laws.three_files_are_sound.Goals as goal

pub returns : goal.returns
returns c = three_files_sound
