use Rattle.flat_machine.proofs.StoreLemmas as lemmas
use Rattle.flat_machine.proofs.laws.stored_is_loaded.Goals as goal

pub returns : goal.returns
returns c = record { shown = lemmas.stored_is_shown; loaded = lemmas.stored_is_loaded }
