use Rattle.fault_core.proofs.unit.bring.Goals as goal

pub bring-requires-clause-run : goal.bring-requires-clause-run
bring-requires-clause-run g c = record {
  some = c.as_slice.ensures.some;
  few = c.as_slice.ensures.few;
  row = rw c.as_slice.ensures.value c.requires.row;
  homes = rw (c.swapper_over.ensures.value, c.as_slice.ensures.value) c.requires.homes;
}

pub returns-clause-there : goal.returns-clause-there
returns-clause-there g c = rw c.as_slice.ensures.value at c.bring.ensures.there

pub returns-clause-sound : goal.returns-clause-sound
returns-clause-sound g c = λ m stands named. (rw (c.swapper_over.ensures.value, c.as_slice.ensures.value) at c.bring.ensures.sound) m stands named

pub returns-clause-swaps : goal.returns-clause-swaps
returns-clause-swaps g c = rw c.swapper_over.ensures.value at c.bring.ensures.moves.swaps

pub returns-clause-brings : goal.returns-clause-brings
returns-clause-brings g c = rw (c.swapper_over.ensures.value, c.as_slice.ensures.value) at c.bring.ensures.moves.brings

pub returns-clause-steps : goal.returns-clause-steps
returns-clause-steps g c = rw (c.swapper_over.ensures.value, c.as_slice.ensures.value) at c.bring.ensures.moves.steps
