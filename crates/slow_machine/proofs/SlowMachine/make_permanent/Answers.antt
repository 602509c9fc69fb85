use Rattle.std.proofs.Common.{refl, true}
use Rattle.slow_machine.proofs.RoomLemmas.{room_changed}
use Rattle.slow_machine.proofs.FileLemmas.{ascending_changed}
use Rattle.slow_machine.proofs.SlowMachine.make_permanent.Goals as goal

pub invariant_of-self : goal.invariant_of-self
invariant_of-self g c = (
  rw c.make_permanent.ensures (room_changed c.args.id (λ f. record f { permanent = true }) (λ f. refl) c.self.inside.files.items _ c.self.invariant.0),
  rw c.make_permanent.ensures (ascending_changed c.args.id (λ f. record f { permanent = true }) (λ f. refl) c.self.inside.files.items c.self.invariant.1),
  c.self.invariant.2,
)
