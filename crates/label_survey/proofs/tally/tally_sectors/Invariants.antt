use Rattle.std.proofs.Common.{take}
use Rattle.label_survey.specs.Survey.{IsTally}
use Rattle.label_survey.proofs.tally.tally_sectors.Given as goal

abbrev pub invariant-loop-i : goal.invariant-loop-i
invariant-loop-i l = IsTally (take l.i l.sector_states) l.tally
