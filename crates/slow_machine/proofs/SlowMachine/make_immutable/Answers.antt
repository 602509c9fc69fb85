use Rattle.std.proofs.Common.{refl, true}
use Rattle.slow_machine.proofs.RoomLemmas.{room_changed}
use Rattle.slow_machine.proofs.FileLemmas.{ascending_changed}
use Rattle.slow_machine.proofs.SlowMachine.make_immutable.Goals as goal

pub invariant_of-self : goal.invariant_of-self
invariant_of-self g c = (
  rw c.make_immutable.ensures (room_changed c.args.id (λ f. record f { immutable = true }) (λ f. refl) c.self.inside.files.items _ c.self.invariant.0),
  rw c.make_immutable.ensures (ascending_changed c.args.id (λ f. record f { immutable = true }) (λ f. refl) c.self.inside.files.items c.self.invariant.1),
  c.self.invariant.2,
)
