use Rattle.flat_machine.proofs.UnitLemmas as lemmas
use Rattle.flat_machine.proofs.ReferenceLemmas as shown_lemmas
use Rattle.flat_machine.proofs.laws.reference_touches.Goals as goal

pub returns : goal.returns
returns c = record { pages = lemmas.reference_touches; shown = shown_lemmas.touched_are_shown }
