use Rattle.trace_maker.proofs.FixedLemmas.{replies_fixed}
use Rattle.trace_maker.proofs.RoomLemmas.{allowed_room}
use Rattle.trace_maker.proofs.laws.replies_are_fixed.Goals as goal

pub returns-clause-fixed : goal.returns-clause-fixed
returns-clause-fixed c = replies_fixed

pub returns-clause-any_room : goal.returns-clause-any_room
returns-clause-any_room c = allowed_room
