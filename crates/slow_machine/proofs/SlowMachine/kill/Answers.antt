use Rattle.slow_machine.proofs.RoomLemmas.{room_killed_by}
use Rattle.slow_machine.proofs.FileLemmas.{ascending_killed_by}
use Rattle.slow_machine.proofs.SlowMachine.kill.Goals as goal

pub invariant_of-self : goal.invariant_of-self
invariant_of-self g c = (
  room_killed_by _ c.deref-in-Some.result.now c.in-Some.range c.self.inside.files.items _ c.kill.ensures c.self.invariant.0,
  ascending_killed_by _ c.deref-in-Some.result.now c.in-Some.range c.self.inside.files.items c.kill.ensures c.self.invariant.1,
  c.self.invariant.2,
)
