use Rattle.fault_core.proofs.ReachLemmas.{reaches_itself, reaches_then, known_after, reaches_searches}
use Rattle.fault_core.proofs.laws.reaches_in_turn.Goals as goal

pub returns : goal.returns
returns c = record { itself = reaches_itself; next = λ v w x is h k. reaches_then v w is h x k; known = known_after; searches = reaches_searches }
