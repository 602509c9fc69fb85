use Rattle.slow_machine.proofs.SpaceLemmas.{window_spaces}
use Rattle.slow_machine.proofs.SlowMachine.map_anonymous.Goals as goal

pub invariant_of-self : goal.invariant_of-self
invariant_of-self g c =
    (c.self-2.invariant.0, c.self-2.invariant.1, rw c.set_window.ensures (window_spaces _ _ c.self-2.inside.spaces.items c.self-2.invariant.2))
