use Rattle.slow_machine.proofs.SpaceLemmas.{fewer_spaces}
use Rattle.slow_machine.proofs.SlowMachine.remove_space.Goals as goal

pub invariant_of-self : goal.invariant_of-self
invariant_of-self g c = (c.self.invariant.0, c.self.invariant.1, rw c.remove.ensures (fewer_spaces c.args.space c.requires c.self.inside.spaces.items c.self.invariant.2))
