use Rattle.slow_machine.proofs.SpaceLemmas.{window_spaces}
use Rattle.slow_machine.proofs.SlowMachine.map.Goals as goal

pub invariant_of-self : goal.invariant_of-self
invariant_of-self g c = (c.self.invariant.0, c.self.invariant.1, rw c.set_window.ensures (window_spaces c.args.space _ c.self.inside.spaces.items c.self.invariant.2))
