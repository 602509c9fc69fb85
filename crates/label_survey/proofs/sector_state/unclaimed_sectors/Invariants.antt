use Rattle.std.proofs.Common.{◌≡◌, map, take}
use Rattle.label_survey.specs.SectorStates.{unclaimed}
use Rattle.label_survey.proofs.sector_state.unclaimed_sectors.Given as goal

abbrev pub invariant-loop-i : goal.invariant-loop-i
invariant-loop-i g l = l.sector_states.items ≡ map unclaimed (take l.i l.labels)
