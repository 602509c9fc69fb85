use Rattle.slow_machine.proofs.RoomLemmas.{room_without}
use Rattle.slow_machine.proofs.FileLemmas.{ascending_without}
use Rattle.slow_machine.proofs.SpaceLemmas.{window_spaces}
use Rattle.slow_machine.proofs.SlowMachine.unmap.Goals as goal

pub invariant_of-self : goal.invariant_of-self
invariant_of-self g c = (
  rw c.remove_anonymous.ensures (room_without _ c.self.inside.files.items _ c.self.invariant.0),
  rw c.remove_anonymous.ensures (ascending_without _ c.self.inside.files.items c.self.invariant.1),
  rw c.set_window.ensures (window_spaces _ _ c.self.inside.spaces.items c.self.invariant.2),
)
