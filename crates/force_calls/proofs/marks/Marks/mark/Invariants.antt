use Rattle.force_calls.proofs.MarkLemmas.{IsMarking}
use Rattle.force_calls.proofs.marks.Marks.mark.Given as goal

abbrev pub invariant-loop-slot : goal.invariant-loop-slot
invariant-loop-slot g l = IsMarking l.run.id l.run.first l.run.pages l.frames l.self.dirty l.slot
