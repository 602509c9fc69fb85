use Rattle.slow_machine.proofs.RoomLemmas.{room_stored_by}
use Rattle.slow_machine.proofs.FileLemmas.{ascending_stored_by}
use Rattle.slow_machine.proofs.SlowMachine.store.Goals as goal

pub invariant_of-self-2 : goal.invariant_of-self-2
invariant_of-self-2 g c = (
  room_stored_by _ c.deref-2.result.now c.args.address c.as_slice-piece.result.now c.self.inside.files.items _ c.store_bytes.ensures c.self.invariant.0,
  ascending_stored_by _ c.deref-2.result.now c.args.address c.as_slice-piece.result.now c.self.inside.files.items c.store_bytes.ensures c.self.invariant.1,
  c.self.invariant.2,
)
