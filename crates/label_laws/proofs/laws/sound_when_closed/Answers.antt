use Rattle.label_laws.proofs.SoundLemmas as laws
use Rattle.label_laws.proofs.laws.sound_when_closed.Goals as goal

pub returns-clause-closed : goal.returns-clause-closed
returns-clause-closed c = laws.sound_when_closed

pub returns-clause-parts : goal.returns-clause-parts
returns-clause-parts c = laws.sound_by_parts

pub returns-clause-by_room : goal.returns-clause-by_room
returns-clause-by_room c = laws.sound_by_room
