use Rattle.pilot_engine.proofs.laws.sound_volumes_are_begun.Goals as goal

pub returns : goal.returns
returns c d ws disk sound revealed writes = record { contents = revealed; writes = writes; map = sound.file_map }
