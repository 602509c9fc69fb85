use Rattle.pilot_engine.proofs.SpaceLeft as space
use Rattle.pilot_engine.proofs.laws.sessions_have_room.Goals as goal

pub returns : goal.returns
returns c spaces_of disk slots layout runs volume m is s = space.room spaces_of disk slots layout runs volume m is s
