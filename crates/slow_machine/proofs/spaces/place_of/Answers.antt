use Rattle.std.proofs.Common.{sym}
use Rattle.slow_machine.proofs.PlaceLemmas.{none_place}
use Rattle.slow_machine.proofs.spaces.place_of.Goals as goal

pub returns-in-None-clause-is : goal.returns-in-None-clause-is
returns-in-None-clause-is c = none_place _ _ (sym c.in-None.ensures)
