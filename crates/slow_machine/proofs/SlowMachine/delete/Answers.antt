use Rattle.slow_machine.proofs.RoomLemmas.{room_filter}
use Rattle.slow_machine.proofs.FileLemmas.{ascending_filter}
use Rattle.slow_machine.proofs.SlowMachine.delete.Goals as goal

pub invariant_of-self : goal.invariant_of-self
invariant_of-self g c =
    (rw c.remove.ensures (room_filter _ c.self.inside.files.items _ c.self.invariant.0), rw c.remove.ensures (ascending_filter _ c.self.inside.files.items c.self.invariant.1), c.self.invariant.2)
