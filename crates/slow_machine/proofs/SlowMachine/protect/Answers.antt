use Rattle.slow_machine.proofs.SpaceLemmas.{mode_spaces}
use Rattle.slow_machine.proofs.SlowMachine.protect.Goals as goal

pub invariant_of-self : goal.invariant_of-self
invariant_of-self g c = (c.self.invariant.0, c.self.invariant.1, rw c.set_mode.ensures (mode_spaces _ c.args.writable c.self.inside.spaces.items c.self.invariant.2))
