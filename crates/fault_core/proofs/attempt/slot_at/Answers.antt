use Rattle.fault_core.proofs.attempt.slot_at.Goals as goal

pub returns-clause-absent : goal.returns-clause-absent
returns-clause-absent g c = λ none there. (rw (c.frames.ensures, c.swapper_over.ensures.value) at c.find.ensures.nowhere).0 none there.0 there.1.0 there.1.1 there.1.2.0 there.1.2.1
