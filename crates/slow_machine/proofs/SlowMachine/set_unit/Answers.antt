use Rattle.slow_machine.proofs.SpaceLemmas.{unit_spaces}
use Rattle.slow_machine.proofs.SlowMachine.set_unit.Goals as goal

pub invariant_of-self : goal.invariant_of-self
invariant_of-self g c = (c.self.invariant.0, c.self.invariant.1, rw c.set_unit.ensures (unit_spaces c.args.space c.args.pages c.self.inside.spaces.items c.self.invariant.2))
