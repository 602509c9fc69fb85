use Rattle.flat_machine.proofs.ProjectionLemmas as lemmas
use Rattle.flat_machine.proofs.laws.projection_is_one.Goals as goal

pub returns : goal.returns
returns c = record { exists = lemmas.projection_exists; unique = lemmas.projection_is_unique; covers = lemmas.projection_covers }
