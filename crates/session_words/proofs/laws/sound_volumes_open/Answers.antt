use Rattle.session_words.proofs.SoundLemmas as laws
use Rattle.session_words.proofs.laws.sound_volumes_open.Goals as goal

pub returns : goal.returns
returns c = laws.sound_laws
